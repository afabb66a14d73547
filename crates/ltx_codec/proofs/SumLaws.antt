-- The sum of an image page by page.
use Rattle.std.proofs.Common.{◌≡◌, ℕ, zero, suc, ◌+◌, ◌-◌, ◌<◌, ◌≤◌, max, Option, None, List, length, refl, sym, ap, inl, inr, ◌∙◌, arith, unwrap_or}
use Rattle.std.specs.Prelude.{bit_xor}
use Rattle.std.specs.Int.Bits.{xor_assoc, xor_self, xor_zero_l}
use Rattle.std.specs.Option.{option_map}
use Rattle.std.proofs.lemmas.Nat.{xor_comm}
use Rattle.std.proofs.lemmas.Bool.{cases_eq}
use Rattle.page_checksum.specs.Sums.{flagged, page_sum_of, joined}
use Rattle.page_checksum.proofs.Linear.{xor_turned}
use Rattle.lf_sqlite_pages.specs.LockPage.{lock_page_of}
use Rattle.lf_sqlite_pages.specs.Image.{DatabaseImage}
use Rattle.lf_sqlite_pages.specs.Writes.{data_page_at, data_writes}
use Rattle.lf_sqlite_pages.proofs.PageNumbers.{page_at-past}
use Rattle.lf_sqlite_pages.proofs.DataWrites.{data_page_at-lock_page, data_page_at-data}
use Rattle.ltx_codec.specs.Sums.{joined_sums, image_sum, page_sum_at, sum_table, sum_between}
use Rattle.ltx_codec.specs.steps.ChangedSum.{joined_over}
use Rattle.ltx_codec.proofs.SumLemmas.{joined_over-split, flagged-alike, flagged-twice}
use Rattle.ltx_codec.proofs.ChangedSumLemmas.{joined-writes_of}

-- the sums of the data pages are those of the table
joined-table : (image : DatabaseImage) → joined_sums (data_writes image) ≡ joined (sum_table image)
joined-table image = joined-writes_of (data_page_at image) (page_sum_at image) (length image.pages) (λ n first last. refl)

pub image_sum-table : (image : DatabaseImage) → image_sum image ≡ flagged (joined (sum_table image))
image_sum-table image = ap flagged (joined-table image)

-- two sums at each number
joined_over-both : (one other : ℕ → ℕ) (first count : ℕ) →
    joined_over (λ n. bit_xor (one n) (other n)) first count ≡ bit_xor (joined_over one first count) (joined_over other first count)
joined_over-both one other first zero = refl
joined_over-both one other first (suc count) =
    ap (λ x. bit_xor (bit_xor (one first) (other first)) x) (joined_over-both one other (first + 1) count)
    ∙ xor_turned (one first) (other first) (joined_over one (first + 1) count) (joined_over other (first + 1) count)

-- no sums, taken together
joined_over-none : (sum : ℕ → ℕ) (first count : ℕ) → ((n : ℕ) → first ≤ n → n < first + count → sum n ≡ 0) → joined_over sum first count ≡ 0
joined_over-none sum first zero none = refl
joined_over-none sum first (suc count) none =
    let head : sum first ≡ 0 = none first (omega arith) (omega arith) in
    let tail : joined_over sum (first + 1) count ≡ 0 = joined_over-none sum (first + 1) count (λ n above below. none n (omega (arith, above)) (omega (arith, below))) in
    rw (head, tail) refl

-- there is no sum past the last page
page_sum_at-past : (image : DatabaseImage) (n : ℕ) → length image.pages < n → page_sum_at image n ≡ 0
page_sum_at-past image n past =
    let none : data_page_at image n ≡ None = elim (cases_eq n (lock_page_of image.page_size)) [
      | inl lock ↦ ap (data_page_at image) lock ∙ data_page_at-lock_page image
      | inr other ↦ data_page_at-data image n other ∙ page_at-past image n past
    ] in
    ap (λ (p : Option (List ℕ)). unwrap_or (option_map (page_sum_of n) p) 0) none

-- so the table may be read further
joined_over-further : (image : DatabaseImage) (count : ℕ) → length image.pages ≤ count → joined_over (page_sum_at image) 1 count ≡ joined (sum_table image)
joined_over-further image count more =
    let here : ℕ = length image.pages in
    joined_over-split (page_sum_at image) 1 here (count - here) count (omega (arith, more))
    ∙ ap (λ x. bit_xor (joined (sum_table image)) x)
    (joined_over-none (page_sum_at image) (1 + here) (count - here) (λ n above below. page_sum_at-past image n (omega (arith, above))))
    ∙ xor_comm (joined (sum_table image)) 0
    ∙ xor_zero_l (joined (sum_table image))

-- from one image to another
pub image_sum-between : (old new : DatabaseImage) → image_sum new ≡ flagged (bit_xor (image_sum old) (sum_between old new))
image_sum-between old new =
    let count : ℕ = max (length old.pages) (length new.pages) in
    let before : ℕ = joined (sum_table old) in
    let after : ℕ = joined (sum_table new) in
    let parts : sum_between old new ≡ bit_xor before after =
    joined_over-both (page_sum_at old) (page_sum_at new) 1 count
    ∙ ap (λ x. bit_xor x (joined_over (page_sum_at new) 1 count)) (joined_over-further old count (omega arith))
    ∙ ap (λ x. bit_xor before x) (joined_over-further new count (omega arith))
    in
    let back : bit_xor before (bit_xor before after) ≡ after =
    sym (xor_assoc before before after) ∙ ap (λ x. bit_xor x after) (xor_self before) ∙ xor_zero_l after
    in
    let known : flagged (image_sum old) ≡ flagged before = flagged-twice (joined_sums (data_writes old)) ∙ image_sum-table old in
    image_sum-table new
    ∙ ap flagged (sym back)
    ∙ sym (flagged-alike (image_sum old) before (bit_xor before after) known)
    ∙ ap (λ x. flagged (bit_xor (image_sum old) x)) (sym parts)
