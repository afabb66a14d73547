-- The sum of an image, page by page.
use Rattle.std.proofs.Common.{◌≡◌, ℕ, suc, ◌+◌, List, [], Option, Some, ap, sym, add-one}
use Rattle.std.specs.Prelude.{bit_xor, unwrap_or}
use Rattle.page_checksum.specs.Sums.{page_sum_of}
use Rattle.lf_sqlite_pages.specs.Image.{DatabaseImage, page_at}
use Rattle.conversations.specs.Replaying.{sum_to}

-- one more page
pub sum_to_more : (image : DatabaseImage) (n : ℕ) (page : List ℕ) → page_at image (n + 1) ≡ Some page →
    bit_xor (sum_to image n) (page_sum_of (n + 1) page) ≡ sum_to image (n + 1)
sum_to_more image n page is =
    let there : page_at image (suc n) ≡ Some page = rw add-one at is in
    rw add-one (ap (λ (o : Option (List ℕ)). bit_xor (sum_to image n) (page_sum_of (suc n) (unwrap_or o []))) (sym there))
