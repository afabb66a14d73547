-- The page block was read by one page more.
use Rattle.std.proofs.Common.{◌≡◌, ◌≢◌, ℕ, ◌+◌, ◌≤◌, List, length, ◌∙◌}
use borrow.Author.Count.{below_more}
use Rattle.lf_sqlite_pages.specs.Change.{PageChange, with_page}
use Rattle.ltx_codec.specs.Places.{number_place, number_at, page_in}
use Rattle.ltx_codec.specs.Block.{IsNextNumber, IsRead}
use Rattle.ltx_codec.proofs.BlockLemmas.{past_page}
use Rattle.ltx_codec.proofs.EncodingLemmas.{holds_next}

-- one more page was read
pub read_next : (bytes : List ℕ) (change : PageChange) (k n : ℕ) (page : List ℕ) → IsRead bytes change k → IsNextNumber bytes k
    → n ≡ number_at bytes k → n ≢ 0 → page ≡ page_in bytes k → number_place bytes (k + 1) ≤ length bytes → IsRead bytes (with_page change n page) (k + 1)
read_next bytes change k n page read number n-is more page-is room =
    let more_at : number_at bytes k ≢ 0 = λ zero. more (n-is ∙ zero) in
    record {
      header = read.header;
      there = room;
      pages = below_more (λ j. number_at bytes j ≢ 0) k read.pages more_at;
      holds = holds_next bytes change k n page read.header.octets read.holds number n-is more page-is;
      sound = past_page bytes k read.pages read.sound number more_at room;
    }
