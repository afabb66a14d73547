-- The table of page sums after a change, and its sums taken together.
use Rattle.std.proofs.Common.{◌≡◌, Bool, true, false, eqb, Option, Some, None, ℕ, zero, suc, ◌+◌, ◌-◌, ◌<◌, ◌≤◌, ◌≢◌, List, [], ◌∷◌, ◌++◌, length, map, take, replicate, get_or, refl, sym, ◌∙◌, ap, subst, arith, inl, inr}
use Rattle.std.specs.Prelude.{slice_index, slice_set, unwrap_or, ◌==◌, if◌then◌else◌, bit_xor}
use Rattle.std.specs.Int.Bits.{xor_zero_r}
use Rattle.std.specs.List.{range_with_len}
use Rattle.std.specs.Option.{option_map}
use Rattle.std.proofs.lemmas.List.{take_all, take_more, length-set, get_or-set_other}
use Rattle.std.proofs.lemmas.List.FromFn.{length-map-range_with_len, get_or-map-range_with_len}
use Rattle.std.proofs.lemmas.Grind.{same_number_lists, get_or-set_at}
use lib.ListN.{get_or-append, length-append}
use lib.Seq.{get_or-append_seam}
use Rattle.std.proofs.lemmas.List.{get_or_default}
use Rattle.std.proofs.lemmas.Bool.{cases_eq, cases_lt}
use Rattle.std.proofs.lemmas.Bool.Decides.{nat_tests}
use Rattle.page_checksum.specs.Sums.{joined, page_sum_of}
use Rattle.page_checksum.proofs.JoinedLemmas.{joined-filled}
use Rattle.lf_base.proofs.FileLemmas.{length-resized, get_or-resized}
use Rattle.lf_base.specs.FileBytes.{resized}
use Rattle.lf_sqlite_pages.specs.LockPage.{lock_page_of, IsDataPage}
use Rattle.lf_sqlite_pages.specs.Change.{PageChange, IsChange, AscendsAbove, written}
use Rattle.lf_sqlite_pages.specs.Complete.{completed, completed_page}
use Rattle.lf_sqlite_pages.specs.declared.page_write.PageWrite.{PageWrite}
use Rattle.lf_sqlite_pages.proofs.Applying.{AscendsAbove-each, WritesWhole, WritesWhole-at}
use Rattle.lf_sqlite_pages.proofs.Completing.{completed-within, completed-past}
use Rattle.lf_sqlite_pages.proofs.LockPages.{lock_page-first}
use Rattle.lf_sqlite_pages.proofs.Writes.{option_cases, written-writes_of}
use Rattle.ltx_codec.specs.steps.ChangedSum.{joined_over}
use Rattle.ltx_codec.proofs.SumLemmas.{joined_over-changed, map-same}
use Rattle.txn_log.specs.Draft.{AreSums, sum_after}
use Rattle.txn_log.specs.Receiving.{sum_with}
use Rattle.txn_log.proofs.Growths.{written-push-other, written-push-here}
use Rattle.txn_log.proofs.Receivings.{sum-lock, sum-some, sum-none}

-- the sum of a page after some writes
abbrev pub sum_over : ℕ → List ℕ → List PageWrite → ℕ → ℕ
sum_over size sums ws = sum_with size sums (written ws)

-- the writes before one in ascending order don't write its page
pub written-before : (number : ℕ) (ws : List PageWrite) → AscendsAbove number ws → (i : ℕ) (w : PageWrite) → i < length ws → w ≡ get_or ws i w → written (take i ws) w.number ≡ None
written-before number [] ascends i w within is = absurd (omega (arith, within))
written-before number (v ∷ ws) ascends zero w within is = refl
written-before number (v ∷ ws) ascends (suc i) w within is =
    let below : v.number < (get_or ws i w).number = AscendsAbove-each v.number ws ascends.1 i w (omega (arith, within)) in
    let less : v.number < w.number = subst (λ (x : PageWrite). v.number < x.number) (sym is) below in
    let test : eqb v.number w.number ≡ false = grind (arith, nat_tests) in
    rw test (written-before v.number ws ascends.1 i w (omega (arith, within)) is)

-- the sums of the table as it stands, by page numbers
abbrev pub standing : List ℕ → ℕ → ℕ
standing sums n = slice_index sums (n - 1)

standing-list : (sums : List ℕ) (count : ℕ) → map (standing sums) (range_with_len 1 count) ≡ resized count sums
standing-list sums count =
    let long : length (map (standing sums) (range_with_len 1 count)) ≡ count = length-map-range_with_len (standing sums) 1 count in
    same_number_lists _ _ (long ∙ sym (length-resized count sums))
    (λ k within.
    let inside : k < count = omega (arith, long, within) in
    let back : k + 1 - 1 ≡ k = omega arith in
    get_or-map-range_with_len (standing sums) 1 count k (k + 1) 0 inside (omega arith) ∙ ap (slice_index sums) back ∙ sym (get_or-resized count sums k inside))

joined-standing : (sums : List ℕ) (count : ℕ) → joined (take count sums) ≡ joined_over (standing sums) 1 count
joined-standing sums count = sym (ap joined (standing-list sums count) ∙ joined-filled (take count sums) (count - length sums))

-- the sums before a change: all, but for that of the lock page
module _ (size : ℕ) (sums : List ℕ) (count : ℕ) where
  before-other : (n : ℕ) → n ≢ lock_page_of size → sum_over size sums [] n ≡ standing sums n
  before-other n other = sum-none size sums (written []) n other refl

  pub before-within : (total sum : ℕ) → lock_page_of size ≤ count → total ≡ joined (take count sums) → sum ≡ slice_index sums (lock_page_of size - 1)
      → bit_xor total sum ≡ joined_over (sum_over size sums []) 1 count
  before-within total sum within is here =
      let lock : ℕ = lock_page_of size in
      let step : bit_xor (standing sums lock) (sum_over size sums [] lock) ≡ sum =
      ap (bit_xor (standing sums lock)) (sum-lock size sums (written []) lock refl) ∙ xor_zero_r (standing sums lock) ∙ sym here in
      sym (joined_over-changed (standing sums) (sum_over size sums []) 1 count lock before-other (lock_page-first size) (omega (arith, within))
      ∙ ap (bit_xor (joined_over (standing sums) 1 count)) step
      ∙ ap (λ (x : ℕ). bit_xor x sum) (sym (is ∙ joined-standing sums count)))

  pub before-past : (total : ℕ) → count < lock_page_of size → total ≡ joined (take count sums) → total ≡ joined_over (sum_over size sums []) 1 count
  before-past total past is =
      is ∙ joined-standing sums count
      ∙ ap joined (map-same (standing sums) (sum_over size sums []) 1 count (λ n above below. sym (before-other n (λ lock. omega (arith, past, below, lock)))))

  -- one write more
  module _ (ws : List PageWrite) (w : PageWrite) (none : written ws w.number ≡ None) (data_page : IsDataPage size w.number) where
    more-other : (n : ℕ) → n ≢ w.number → sum_over size sums (ws ++ w ∷ []) n ≡ sum_over size sums ws n
    more-other n other =
        ap (λ (o : Option (List ℕ)). if n == lock_page_of size then 0 else unwrap_or (option_map (page_sum_of n) o) (slice_index sums (n - 1))) (written-push-other ws w n other)

    more-here : sum_over size sums (ws ++ w ∷ []) w.number ≡ page_sum_of w.number w.bytes
    more-here = sum-some size sums (written (ws ++ w ∷ [])) w.number w.bytes data_page (written-push-here ws w none)

    pub total-within : (total : ℕ) → 1 ≤ w.number → w.number ≤ count → total ≡ joined_over (sum_over size sums ws) 1 count
        → bit_xor total (bit_xor (slice_index sums (w.number - 1)) (page_sum_of w.number w.bytes)) ≡ joined_over (sum_over size sums (ws ++ w ∷ [])) 1 count
    total-within total first last is =
        ap (λ (x : ℕ). bit_xor x (bit_xor (slice_index sums (w.number - 1)) (page_sum_of w.number w.bytes))) is
        ∙ ap (λ (x : ℕ). bit_xor (joined_over (sum_over size sums ws) 1 count) (bit_xor x (page_sum_of w.number w.bytes))) (sym (sum-none size sums (written ws) w.number data_page none))
        ∙ ap (λ (x : ℕ). bit_xor (joined_over (sum_over size sums ws) 1 count) (bit_xor (sum_over size sums ws w.number) x)) (sym more-here)
        ∙ sym (joined_over-changed (sum_over size sums ws) (sum_over size sums (ws ++ w ∷ [])) 1 count w.number more-other first (omega (arith, last)))

    pub total-past : (total : ℕ) → count < w.number → total ≡ joined_over (sum_over size sums ws) 1 count → total ≡ joined_over (sum_over size sums (ws ++ w ∷ [])) 1 count
    total-past total past is =
        is ∙ ap joined (map-same (sum_over size sums ws) (sum_over size sums (ws ++ w ∷ [])) 1 count (λ n above below. sym (more-other n (λ here. omega (arith, past, below, here)))))

    -- in the table
    pub set-more : 1 ≤ w.number → w.number ≤ count
        → slice_set (map (sum_over size sums ws) (range_with_len 1 count)) (w.number - 1) (page_sum_of w.number w.bytes) ≡ map (sum_over size sums (ws ++ w ∷ [])) (range_with_len 1 count)
    set-more first last =
        let old : List ℕ = map (sum_over size sums ws) (range_with_len 1 count) in
        let place : ℕ = w.number - 1 in
        let long : length old ≡ count = length-map-range_with_len (sum_over size sums ws) 1 count in
        let size_is : length (slice_set old place (page_sum_of w.number w.bytes)) ≡ count = length-set old place (page_sum_of w.number w.bytes) ∙ long in
        same_number_lists _ _ (size_is ∙ sym (length-map-range_with_len (sum_over size sums (ws ++ w ∷ [])) 1 count))
        (λ k within.
        let inside : k < count = omega (arith, size_is, within) in
        elim (cases_eq k place) [
          | inl here ↦
              let number : k + 1 ≡ w.number = omega (arith, here, first) in
              get_or-set_at old place k (page_sum_of w.number w.bytes) 0 here (omega (arith, long, inside, here))
              ∙ sym more-here ∙ ap (sum_over size sums (ws ++ w ∷ [])) (sym number)
              ∙ sym (get_or-map-range_with_len (sum_over size sums (ws ++ w ∷ [])) 1 count k (k + 1) 0 inside (omega arith))
          | inr other ↦
              get_or-set_other old place k (page_sum_of w.number w.bytes) 0 other
              ∙ get_or-map-range_with_len (sum_over size sums ws) 1 count k (k + 1) 0 inside (omega arith)
              ∙ sym (more-other (k + 1) (λ number. other (omega (arith, number))))
              ∙ sym (get_or-map-range_with_len (sum_over size sums (ws ++ w ∷ [])) 1 count k (k + 1) 0 inside (omega arith))
        ])

  -- the table before the first write
  pub resized-past : count < lock_page_of size → resized count sums ≡ map (sum_over size sums []) (range_with_len 1 count)
  resized-past past =
      sym (standing-list sums count) ∙ map-same (standing sums) (sum_over size sums []) 1 count (λ n above below. sym (before-other n (λ lock. omega (arith, past, below, lock))))

  pub resized-within : lock_page_of size ≤ count → slice_set (resized count sums) (lock_page_of size - 1) 0 ≡ map (sum_over size sums []) (range_with_len 1 count)
  resized-within within =
      let place : ℕ = lock_page_of size - 1 in
      let long : length (resized count sums) ≡ count = length-resized count sums in
      let size_is : length (slice_set (resized count sums) place 0) ≡ count = length-set (resized count sums) place 0 ∙ long in
      let first : 1 ≤ lock_page_of size = lock_page-first size in
      same_number_lists _ _ (size_is ∙ sym (length-map-range_with_len (sum_over size sums []) 1 count))
      (λ k inside.
      let below : k < count = omega (arith, size_is, inside) in
      elim (cases_eq k place) [
        | inl here ↦
            let number : k + 1 ≡ lock_page_of size = omega (arith, here, first) in
            get_or-set_at (resized count sums) place k 0 0 here (omega (arith, long, below, here))
            ∙ sym (sum-lock size sums (written []) (k + 1) number)
            ∙ sym (get_or-map-range_with_len (sum_over size sums []) 1 count k (k + 1) 0 below (omega arith))
        | inr other ↦
            let back : k + 1 - 1 ≡ k = omega arith in
            get_or-set_other (resized count sums) place k 0 0 other
            ∙ get_or-resized count sums k below
            ∙ ap (slice_index sums) (sym back)
            ∙ sym (before-other (k + 1) (λ number. other (omega (arith, number))))
            ∙ sym (get_or-map-range_with_len (sum_over size sums []) 1 count k (k + 1) 0 below (omega arith))
      ])

-- the next write of a change
module _ (change : PageChange) (items : List PageWrite) (valid : IsChange change) (same : items ≡ change.pages) (i : ℕ) (w : PageWrite) (within : i < length items) (is : w ≡ get_or items i w) where
  pub next-known : WritesWhole change w
  next-known = WritesWhole-at change items valid same i w within is

  next-data : IsDataPage change.page_size w.number
  next-data =
      let P : PageWrite → Type 0 = λ v. IsDataPage change.page_size v.number in
      subst P (sym is) (subst (λ (ws : List PageWrite). (k : ℕ) (d : PageWrite) → k < length ws → P (get_or ws k d)) (sym same) valid.data_pages i w within)

  next-none : written (take i items) w.number ≡ None
  next-none = written-before 0 items (subst (AscendsAbove 0) (sym same) valid.ascending) i w within is

  next-taken : take (i + 1) items ≡ take i items ++ w ∷ []
  next-taken = take_more items i w within ∙ ap (λ (v : PageWrite). take i items ++ v ∷ []) (sym is)

  module _ (sums : List ℕ) (count : ℕ) where
    pub next-within : (total old new : ℕ) → w.number ≤ count → total ≡ joined_over (sum_over change.page_size sums (take i items)) 1 count
        → old ≡ slice_index sums (w.number - 1) → new ≡ page_sum_of w.number w.bytes
        → bit_xor total (bit_xor old new) ≡ joined_over (sum_over change.page_size sums (take (i + 1) items)) 1 count
    next-within total old new last so_far old_is new_is =
        ap (λ (x : ℕ). bit_xor total (bit_xor x new)) old_is
        ∙ ap (λ (x : ℕ). bit_xor total (bit_xor (slice_index sums (w.number - 1)) x)) new_is
        ∙ total-within change.page_size sums count (take i items) w next-none next-data total (omega (arith, next-known.first)) last so_far
        ∙ ap (λ (ws : List PageWrite). joined_over (sum_over change.page_size sums ws) 1 count) (sym next-taken)

    pub next-past : (total : ℕ) → count < w.number → total ≡ joined_over (sum_over change.page_size sums (take i items)) 1 count
        → total ≡ joined_over (sum_over change.page_size sums (take (i + 1) items)) 1 count
    next-past total past so_far =
        total-past change.page_size sums count (take i items) w next-none next-data total past so_far
        ∙ ap (λ (ws : List PageWrite). joined_over (sum_over change.page_size sums ws) 1 count) (sym next-taken)

  pub next-set : (sums table : List ℕ) (new : ℕ) → table ≡ map (sum_over change.page_size sums (take i items)) (range_with_len 1 change.commit) → new ≡ page_sum_of w.number w.bytes
      → slice_set table (w.number - 1) new ≡ map (sum_over change.page_size sums (take (i + 1) items)) (range_with_len 1 change.commit)
  next-set sums table new so_far new_is =
      ap (λ (t : List ℕ). slice_set t (w.number - 1) new) so_far
      ∙ ap (slice_set (map (sum_over change.page_size sums (take i items)) (range_with_len 1 change.commit)) (w.number - 1)) new_is
      ∙ set-more change.page_size sums change.commit (take i items) w next-none next-data (omega (arith, next-known.first)) next-known.last
      ∙ ap (λ (ws : List PageWrite). map (sum_over change.page_size sums ws) (range_with_len 1 change.commit)) (sym next-taken)

-- the sum of a page after a change made complete over a count of pages
module _ (sums : List ℕ) (change : PageChange) (count n : ℕ) where
  pub behind-lock : n ≡ lock_page_of change.page_size → sum_after sums (completed change count) n ≡ 0
  behind-lock lock =
      let test : eqb n (lock_page_of change.page_size) ≡ true = grind (arith, nat_tests) in
      rw test refl

  module _ (first : 1 ≤ n) (last : n ≤ change.commit) (other : IsDataPage change.page_size n) where
    pub behind : sum_after sums (completed change count) n ≡ unwrap_or (option_map (page_sum_of n) (completed_page change count n)) (slice_index sums (n - 1))
    behind =
        let test : eqb n (lock_page_of change.page_size) ≡ false = grind (arith, nat_tests) in
        let here : written (completed change count).pages n ≡ completed_page change count n = written-writes_of (completed_page change count) change.commit n first last in
        ap (λ (b : Bool). if b then 0 else unwrap_or (option_map (page_sum_of n) (written (completed change count).pages n)) (slice_index sums (n - 1))) test
        ∙ ap (λ (o : Option (List ℕ)). unwrap_or (option_map (page_sum_of n) o) (slice_index sums (n - 1))) here

    pub behind-some : (page : List ℕ) → written change.pages n ≡ Some page → sum_after sums (completed change count) n ≡ page_sum_of n page
    behind-some page some = behind ∙ ap (λ (o : Option (List ℕ)). unwrap_or (option_map (page_sum_of n) o) (slice_index sums (n - 1))) (elim (cases_lt count n) [
      | inl past ↦ completed-past change count n other past ∙ ap (λ (o : Option (List ℕ)). Some (unwrap_or o (replicate change.page_size 0))) some
      | inr within ↦ completed-within change count n other within ∙ some
    ])

    pub behind-within : n ≤ count → written change.pages n ≡ None → sum_after sums (completed change count) n ≡ slice_index sums (n - 1)
    behind-within within none =
        behind ∙ ap (λ (o : Option (List ℕ)). unwrap_or (option_map (page_sum_of n) o) (slice_index sums (n - 1))) (completed-within change count n other within ∙ none)

    pub behind-past : count < n → written change.pages n ≡ None → sum_after sums (completed change count) n ≡ page_sum_of n (replicate change.page_size 0)
    behind-past past none =
        behind
        ∙ ap (λ (o : Option (List ℕ)). unwrap_or (option_map (page_sum_of n) o) (slice_index sums (n - 1)))
        (completed-past change count n other past ∙ ap (λ (o : Option (List ℕ)). Some (unwrap_or o (replicate change.page_size 0))) none)

-- up to the old size the complete change has the sums of the change
pub behind-alike : (sums : List ℕ) (change : PageChange) (count stay : ℕ) → stay ≤ count → stay ≤ change.commit
    → joined_over (sum_after sums change) 1 stay ≡ joined_over (sum_after sums (completed change count)) 1 stay
behind-alike sums change count stay within last =
    ap joined (map-same (sum_after sums change) (sum_after sums (completed change count)) 1 stay (λ n above below. each n above (omega (arith, below))))
  where
    each : (n : ℕ) → 1 ≤ n → n ≤ stay → sum_after sums change n ≡ sum_after sums (completed change count) n
    each n first to = elim (cases_eq n (lock_page_of change.page_size)) [
      | inl lock ↦ sum-lock change.page_size sums (written change.pages) n lock ∙ sym (behind-lock sums change count n lock)
      | inr other ↦
          let none_or_some = option_cases (written change.pages n) in
          elim none_or_some [
            | inl none ↦ sum-none change.page_size sums (written change.pages) n other none ∙ sym (behind-within sums change count n first (omega (arith, to, last)) other (omega (arith, to, within)) none)
            | inr (page, some) ↦ sum-some change.page_size sums (written change.pages) n page other some ∙ sym (behind-some sums change count n first (omega (arith, to, last)) other page some)
          ]
    ]

-- a sum that is known at a place is that of the write there
pub known-at : (known : List ℕ) (change : PageChange) (items : List PageWrite) (i : ℕ) (w : PageWrite) → AreSums known change.pages → items ≡ change.pages → w ≡ get_or items i w → i < length known
    → slice_index known i ≡ page_sum_of w.number w.bytes
known-at known change items i w are same is within =
    are i w within ∙ ap (λ (v : PageWrite). page_sum_of v.number v.bytes) (sym (is ∙ ap (λ (ws : List PageWrite). get_or ws i w) same))

-- also where the place is counted beside
pub known_here : (known : List ℕ) (change : PageChange) (items : List PageWrite) (at i : ℕ) (w : PageWrite) → AreSums known change.pages → items ≡ change.pages → at ≡ i → w ≡ get_or items i w → at < length known
    → slice_index known at ≡ page_sum_of w.number w.bytes
known_here known change items at i w are same at_is is within =
    known-at known change items at w are same (is ∙ ap (λ (n : ℕ). get_or items n w) (sym at_is)) within

-- one sum more
pub known-more : (known : List ℕ) (change : PageChange) (items : List PageWrite) (i : ℕ) (w : PageWrite) (new : ℕ) → AreSums known change.pages → length known ≡ i → items ≡ change.pages → i < length items → w ≡ get_or items i w
    → new ≡ page_sum_of w.number w.bytes → AreSums (known ++ new ∷ []) change.pages
known-more known change items i w new are long same inside is new_is k d within = elim (cases_lt k (length known)) [
  | inl below ↦ get_or-append known (new ∷ []) 0 k below ∙ are k d below
  | inr above ↦
      let last : length known ≡ k = omega (arith, above, within, length-append known (new ∷ [])) in
      let here : get_or change.pages k d ≡ w =
      ap (λ (n : ℕ). get_or change.pages n d) (sym last ∙ long) ∙ ap (λ (ws : List PageWrite). get_or ws i d) (sym same) ∙ get_or_default items i d w inside ∙ sym is in
      ap (slice_index (known ++ new ∷ [])) (sym last) ∙ get_or-append_seam known new [] 0 ∙ new_is ∙ ap (λ (v : PageWrite). page_sum_of v.number v.bytes) (sym here)
]

-- all writes were gone through
pub taken-all : (items : List PageWrite) (i : ℕ) → length items ≤ i → take i items ≡ items
taken-all items i past = take_all i items past
