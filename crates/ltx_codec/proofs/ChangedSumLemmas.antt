-- The sum of an image after a change, from the sum before it.
use Rattle.std.proofs.Common.{◌≡◌, ℕ, zero, suc, ◌+◌, ◌-◌, ◌<◌, ◌≤◌, ◌≢◌, min, max, true, false, eqb, Option, Some, None, List, [], ◌∷◌, ◌++◌, ◌⊎◌, length, map, take, get_or, replicate, refl, sym, ap, inl, inr, ◌∙◌, arith, unwrap_or, filter_map}
use Rattle.std.specs.Prelude.{◌==◌, if◌then◌else◌, bit_xor}
use Rattle.std.specs.Int.Bits.{xor_assoc, xor_zero_l, xor_zero_r}
use Rattle.std.specs.List.{range_with_len, All}
use Rattle.std.specs.Option.{option_map}
use Rattle.std.proofs.lemmas.Option.{slice_get-get_or}
use Rattle.std.proofs.lemmas.List.{take_more, map_push}
use Rattle.std.proofs.lemmas.List.Elements.{All-head, All-tail}
use Rattle.std.proofs.lemmas.Bool.{cases_eq}
use Rattle.std.proofs.lemmas.Bool.Decides.{nat_tests}
use Rattle.page_checksum.specs.Sums.{flagged, page_sum_of, joined}
use Rattle.lf_sqlite_pages.specs.LockPage.{lock_page_of, IsDataPage}
use Rattle.lf_sqlite_pages.specs.Change.{AscendsAbove, PageChange, IsChange, HoldsEveryPage, written}
use Rattle.lf_sqlite_pages.specs.Image.{DatabaseImage, empty_image, page_at}
use Rattle.lf_sqlite_pages.specs.Apply.{Fits, apply}
use Rattle.lf_sqlite_pages.specs.Writes.{write_at, writes_of, data_page_at}
use Rattle.lf_sqlite_pages.specs.declared.page_write.PageWrite.{PageWrite}
use Rattle.lf_sqlite_pages.proofs.Applying.{written-above}
use Rattle.lf_sqlite_pages.proofs.Laws.{length-apply, page_at-apply, page_after-data}
use Rattle.lf_sqlite_pages.proofs.PageNumbers.{page_at-first}
use Rattle.lf_sqlite_pages.proofs.DataWrites.{data_page_at-lock_page, data_page_at-data, data_writes-whole}
use Rattle.ltx_codec.specs.Sums.{joined_sums, sum_of_writes, image_sum}
use Rattle.ltx_codec.specs.Format.{IsFile}
use Rattle.ltx_codec.specs.declared.file.Ltx.{Ltx}
use Rattle.ltx_codec.specs.steps.ChangedSum.{joined_over, standing_sum, rewriting_sum}
use Rattle.ltx_codec.proofs.SumLemmas.{joined-push, xor_swap, joined_over-changed, joined_over-resized, flagged-alike}

-- the sum of what is written at a number, 0 where nothing is
abbrev pub sum_at : (ℕ → Option (List ℕ)) → ℕ → ℕ
sum_at page n = unwrap_or (option_map (page_sum_of n) (page n)) 0

-- the sums of what is written at some numbers
joined-from : (page : ℕ → Option (List ℕ)) (sum : ℕ → ℕ) (first count : ℕ) → ((n : ℕ) → first ≤ n → n < first + count → sum n ≡ sum_at page n) →
    joined_sums (filter_map (write_at page) (range_with_len first count)) ≡ joined_over sum first count
joined-from page sum first zero same = refl
joined-from page sum first (suc count) same =
    let rest : joined_sums (filter_map (write_at page) (range_with_len (first + 1) count)) ≡ joined_over sum (first + 1) count =
    joined-from page sum (first + 1) count (λ n above below. same n (omega (arith, above)) (omega (arith, below)))
    in
    by_page (page first) refl rest
  where
    by_page : (o : Option (List ℕ)) → page first ≡ o → joined_sums (filter_map (write_at page) (range_with_len (first + 1) count)) ≡ joined_over sum (first + 1) count →
        joined_sums (filter_map (write_at page) (range_with_len first (suc count))) ≡ joined_over sum first (suc count)
    by_page None none rest =
        let here : sum first ≡ 0 = same first (omega arith) (omega arith) ∙ ap (λ (p : Option (List ℕ)). unwrap_or (option_map (page_sum_of first) p) 0) none in
        rw (none, here) (rest ∙ sym (xor_zero_l (joined_over sum (first + 1) count)))
    by_page (Some bytes) some rest =
        let here : sum first ≡ page_sum_of first bytes = same first (omega arith) (omega arith) ∙ ap (λ (p : Option (List ℕ)). unwrap_or (option_map (page_sum_of first) p) 0) some in
        rw (some, here) (ap (λ (s : ℕ). bit_xor (page_sum_of first bytes) s) rest)

pub joined-writes_of : (page : ℕ → Option (List ℕ)) (sum : ℕ → ℕ) (count : ℕ) → ((n : ℕ) → 1 ≤ n → n ≤ count → sum n ≡ sum_at page n) →
    joined_sums (writes_of page count) ≡ joined_over sum 1 count
unfolding writes_of
joined-writes_of page sum count same = joined-from page sum 1 count (λ n above below. same n above (omega (arith, below)))

-- the sum of page n after some writes
abbrev pub written_sum : DatabaseImage → ℕ → List PageWrite → ℕ → ℕ
written_sum image size ws n =
    if n == lock_page_of size then 0 else page_sum_of n (unwrap_or (written ws n) (unwrap_or (page_at image n) (replicate size 0)))

-- the lock page has no sum, and every other page that of its bytes
written_sum-lock : (image : DatabaseImage) (size : ℕ) (ws : List PageWrite) (n : ℕ) → n ≡ lock_page_of size → written_sum image size ws n ≡ 0
written_sum-lock image size ws n lock =
    let test : eqb n (lock_page_of size) ≡ true = grind (arith, nat_tests) in
    rw test refl

written_sum-data : (image : DatabaseImage) (size : ℕ) (ws : List PageWrite) (n : ℕ) → IsDataPage size n →
    written_sum image size ws n ≡ page_sum_of n (unwrap_or (written ws n) (unwrap_or (page_at image n) (replicate size 0)))
written_sum-data image size ws n data_page =
    let test : eqb n (lock_page_of size) ≡ false = grind (arith, nat_tests) in
    rw test refl

-- the sum of a page that is there
sum_at-some : (page : ℕ → Option (List ℕ)) (n : ℕ) (bytes : List ℕ) → page n ≡ Some bytes → sum_at page n ≡ page_sum_of n bytes
sum_at-some page n bytes some = ap (λ (p : Option (List ℕ)). unwrap_or (option_map (page_sum_of n) p) 0) some

sum_at-lock : (image : DatabaseImage) (n : ℕ) → n ≡ lock_page_of image.page_size → sum_at (data_page_at image) n ≡ 0
sum_at-lock image n lock =
    ap (λ (p : Option (List ℕ)). unwrap_or (option_map (page_sum_of n) p) 0) (ap (data_page_at image) lock ∙ data_page_at-lock_page image)

sum_at-data : (image : DatabaseImage) (n : ℕ) (bytes : List ℕ) → IsDataPage image.page_size n → page_at image n ≡ Some bytes → sum_at (data_page_at image) n ≡ page_sum_of n bytes
sum_at-data image n bytes data_page some = sum_at-some (data_page_at image) n bytes (data_page_at-data image n data_page ∙ some)

-- the sums of an image's data pages, where its page size is this one
joined-standing : (image : DatabaseImage) (size : ℕ) → (image.page_size ≡ size) ⊎ (image.pages ≡ []) →
    joined_sums (writes_of (data_page_at image) (length image.pages)) ≡ joined_over (standing_sum image size) 1 (length image.pages)
joined-standing image size of_size =
    joined-writes_of (data_page_at image) (standing_sum image size) (length image.pages) (λ n first last. elim of_size [
      | inl same ↦ each n first last same
      | inr none ↦ absurd (omega (arith, first, last, ap length none))
    ])
  where
    each : (n : ℕ) → 1 ≤ n → n ≤ length image.pages → image.page_size ≡ size → standing_sum image size n ≡ sum_at (data_page_at image) n
    each n first last same = elim (cases_eq n (lock_page_of size)) [
      | inl lock ↦ written_sum-lock image size [] n lock ∙ sym (sum_at-lock image n (lock ∙ ap lock_page_of (sym same)))
      | inr other ↦
          let data_page : IsDataPage image.page_size n = λ lock. other (lock ∙ ap lock_page_of same) in
          let bytes = get_or image.pages (n - 1) [] in
          let there : page_at image n ≡ Some bytes = page_at-first image n first ∙ slice_get-get_or image.pages (n - 1) [] (omega (arith, first, last)) in
          written_sum-data image size [] n other
          ∙ ap (λ (p : Option (List ℕ)). page_sum_of n (unwrap_or p (replicate size 0))) there
          ∙ sym (sum_at-data image n bytes data_page there)
    ]

-- the sums of the data pages after a change
joined-written : (image : DatabaseImage) (change : PageChange) →
    joined_sums (writes_of (data_page_at (apply image change)) (length (apply image change).pages)) ≡ joined_over (written_sum image change.page_size change.pages) 1 change.commit
joined-written image change =
    ap (λ (count : ℕ). joined_sums (writes_of (data_page_at (apply image change)) count)) (length-apply image change)
    ∙ joined-writes_of (data_page_at (apply image change)) (written_sum image change.page_size change.pages) change.commit each
  where
    each : (n : ℕ) → 1 ≤ n → n ≤ change.commit → written_sum image change.page_size change.pages n ≡ sum_at (data_page_at (apply image change)) n
    each n first last = elim (cases_eq n (lock_page_of change.page_size)) [
      | inl lock ↦ written_sum-lock image change.page_size change.pages n lock ∙ sym (sum_at-lock (apply image change) n lock)
      | inr other ↦
          written_sum-data image change.page_size change.pages n other
          ∙ ap (page_sum_of n) (sym (page_after-data image change n other))
          ∙ sym (sum_at-data (apply image change) n _ other (page_at-apply image change n first last))
    ]

-- a write of another page leaves a page's sum
written_sum-other : (image : DatabaseImage) (size : ℕ) (w : PageWrite) (ws : List PageWrite) (n : ℕ) → n ≢ w.number →
    written_sum image size (w ∷ ws) n ≡ written_sum image size ws n
written_sum-other image size w ws n differs =
    let test : eqb w.number n ≡ false = grind (arith, nat_tests) in
    rw test refl

-- the page written has the sum of its bytes
written_sum-here : (image : DatabaseImage) (size : ℕ) (w : PageWrite) (ws : List PageWrite) → IsDataPage size w.number →
    written_sum image size (w ∷ ws) w.number ≡ page_sum_of w.number w.bytes
written_sum-here image size w ws data_page =
    let test : eqb w.number w.number ≡ true = grind (arith, nat_tests) in
    written_sum-data image size (w ∷ ws) w.number data_page ∙ rw test refl

-- later writes leave it
written_sum-above : (image : DatabaseImage) (size : ℕ) (w : PageWrite) (ws : List PageWrite) → AscendsAbove w.number ws →
    written_sum image size ws w.number ≡ standing_sum image size w.number
written_sum-above image size w ws ascending =
    let none : written ws w.number ≡ None = written-above w.number ws ascending w.number (omega arith) in
    rw none refl

-- writes take out the sums of the pages that stood there, and take in their own
joined_over-written : (image : DatabaseImage) (size commit number : ℕ) (ws : List PageWrite) →
    AscendsAbove number ws → All (λ w. w.number ≤ commit) ws → All (λ w. IsDataPage size w.number) ws →
    joined_over (written_sum image size ws) 1 commit ≡ bit_xor (joined_over (standing_sum image size) 1 commit) (rewriting_sum image size ws)
joined_over-written image size commit number [] ascending within data_pages = sym (xor_zero_r (joined_over (standing_sum image size) 1 commit))
joined_over-written image size commit number (w ∷ ws) ascending within data_pages =
    let standing : ℕ = joined_over (standing_sum image size) 1 commit in
    let here : w.number ≤ commit = All-head (λ v. v.number ≤ commit) w ws within in
    let rest : joined_over (written_sum image size ws) 1 commit ≡ bit_xor standing (rewriting_sum image size ws) =
    joined_over-written image size commit w.number ws ascending.1 (All-tail (λ v. v.number ≤ commit) w ws within) (All-tail (λ v. IsDataPage size v.number) w ws data_pages)
    in
    let others : (n : ℕ) → n ≢ w.number → written_sum image size (w ∷ ws) n ≡ written_sum image size ws n = λ n differs. written_sum-other image size w ws n differs in
    let old : written_sum image size ws w.number ≡ standing_sum image size w.number = written_sum-above image size w ws ascending.1 in
    let new : written_sum image size (w ∷ ws) w.number ≡ page_sum_of w.number w.bytes = written_sum-here image size w ws (All-head (λ v. IsDataPage size v.number) w ws data_pages) in
    let step : ℕ = bit_xor (standing_sum image size w.number) (page_sum_of w.number w.bytes) in
    joined_over-changed (written_sum image size ws) (written_sum image size (w ∷ ws)) 1 commit w.number others (omega (arith, ascending.0)) (omega (arith, here))
    ∙ ap (λ x. bit_xor x (bit_xor (written_sum image size ws w.number) (written_sum image size (w ∷ ws) w.number))) rest
    ∙ ap (λ x. bit_xor (bit_xor standing (rewriting_sum image size ws)) (bit_xor x (written_sum image size (w ∷ ws) w.number))) old
    ∙ ap (λ x. bit_xor (bit_xor standing (rewriting_sum image size ws)) (bit_xor (standing_sum image size w.number) x)) new
    ∙ xor_swap standing (rewriting_sum image size ws) step
    ∙ xor_assoc standing step (rewriting_sum image size ws)

-- the sums of the pages after a change, from the sum before it
pub image_sum-changed : (image : DatabaseImage) (change : PageChange) (sum : ℕ) → IsChange change → (image.page_size ≡ change.page_size) ⊎ (image.pages ≡ []) → flagged sum ≡ image_sum image →
    let before : ℕ = length image.pages in
    flagged (bit_xor (bit_xor sum (joined_over (standing_sum image change.page_size) (min before change.commit + 1) (max before change.commit - min before change.commit)))
    (rewriting_sum image change.page_size change.pages))
    ≡ image_sum (apply image change)
image_sum-changed image change sum valid of_size has =
    let size : ℕ = change.page_size in
    let standing : ℕ → ℕ = standing_sum image size in
    let before : ℕ = length image.pages in
    let resizing : ℕ = joined_over standing (min before change.commit + 1) (max before change.commit - min before change.commit) in
    let start : flagged sum ≡ flagged (joined_over standing 1 before) = has ∙ ap flagged (joined-standing image size of_size) in
    let resized : flagged (bit_xor sum resizing) ≡ flagged (joined_over standing 1 change.commit) =
    flagged-alike sum (joined_over standing 1 before) resizing start ∙ ap flagged (joined_over-resized standing before change.commit)
    in
    flagged-alike (bit_xor sum resizing) (joined_over standing 1 change.commit) (rewriting_sum image size change.pages) resized
    ∙ ap flagged (sym (joined_over-written image size change.commit 0 change.pages valid.ascending valid.within valid.data_pages))
    ∙ ap flagged (sym (joined-written image change))

-- one more write
pub rewriting_sum-more : (image : DatabaseImage) (size : ℕ) (ws : List PageWrite) (i : ℕ) (w : PageWrite) (so_far : ℕ) →
    i < length ws → w ≡ get_or ws i w → so_far ≡ rewriting_sum image size (take i ws) →
    bit_xor so_far (bit_xor (standing_sum image size w.number) (page_sum_of w.number w.bytes)) ≡ rewriting_sum image size (take (i + 1) ws)
rewriting_sum-more image size ws i w so_far h read is =
    let step : PageWrite → ℕ = λ v. bit_xor (standing_sum image size v.number) (page_sum_of v.number v.bytes) in
    let front : take (i + 1) ws ≡ take i ws ++ w ∷ [] = take_more ws i w h ∙ ap (λ v. take i ws ++ v ∷ []) (sym read) in
    ap (λ s. bit_xor s (step w)) is
    ∙ sym (joined-push (map step (take i ws)) (step w))
    ∙ ap joined (sym (map_push step (take i ws) w))
    ∙ ap (λ vs. joined (map step vs)) (sym front)

-- one more page's own sum
pub joined_sums-more : (ws : List PageWrite) (i : ℕ) (w : PageWrite) (so_far : ℕ) → i < length ws → w ≡ get_or ws i w → so_far ≡ joined_sums (take i ws) →
    bit_xor so_far (page_sum_of w.number w.bytes) ≡ joined_sums (take (i + 1) ws)
joined_sums-more ws i w so_far h read is =
    let front : take (i + 1) ws ≡ take i ws ++ w ∷ [] = take_more ws i w h ∙ ap (λ v. take i ws ++ v ∷ []) (sym read) in
    let step : PageWrite → ℕ = λ v. page_sum_of v.number v.bytes in
    ap (λ s. bit_xor s (step w)) is
    ∙ sym (joined-push (map step (take i ws)) (step w))
    ∙ ap joined (sym (map_push step (take i ws) w))
    ∙ ap (λ vs. joined (map step vs)) (sym front)

-- a change that writes each data page leaves the sum of what it writes
pub image_sum-whole : (image : DatabaseImage) (change : PageChange) → IsChange change → HoldsEveryPage change → sum_of_writes change.pages ≡ image_sum (apply image change)
image_sum-whole image change valid whole = ap sum_of_writes (sym (data_writes-whole image change valid whole))

-- a change that fits an image of another page size writes each data page
pub whole_of-fits : (image : DatabaseImage) (change : PageChange) → Fits image change → image.page_size ≢ change.page_size → 0 < length image.pages → HoldsEveryPage change
whole_of-fits image change fits differs some = elim fits [
  | inl same ↦ absurd (differs same)
  | inr other ↦ elim other [
    | inl none ↦ absurd (omega (arith, some, ap length none))
    | inr whole ↦ whole
  ]
]

-- a snapshot says the sum of the image after it
pub post-snapshot : (image : DatabaseImage) (file : Ltx) → IsFile file → file.header.min ≡ 1 → file.post ≡ image_sum (apply image file.change)
post-snapshot image file valid first = valid.post.snapshot first ∙ image_sum-whole image file.change valid.block.pages (valid.block.snapshot_pages first)

-- without pages the sum is bit 63 alone
pub sum_of_none : (image : DatabaseImage) → image ≡ empty_image → flagged 0 ≡ image_sum image
unfolding writes_of
sum_of_none image none = ap image_sum (sym none)
