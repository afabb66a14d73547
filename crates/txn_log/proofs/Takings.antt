-- A file is taken in page by page.
use Rattle.std.proofs.Common.{◌≡◌, ◌≢◌, inl, inr, ℕ, ◌+◌, ◌-◌, ◌<◌, ◌≤◌, Bool, true, false, eqb, cond, Option, Some, List, [], ◌∷◌, ◌++◌, length, length-append, map, fold, get_or, replicate, refl, sym, ◌∙◌, ap, subst, arith, unwrap_or}
use Rattle.std.specs.Prelude.{slice_index, slice_set, nat_lt, ◌&&◌, ◌==◌, if◌then◌else◌}
use Rattle.std.specs.List.{All, range_with_len}
use Rattle.std.specs.Option.{option_map}
use Rattle.std.proofs.lemmas.Bool.{cases_eq, cases_lt}
use Rattle.std.proofs.lemmas.Bool.Decides.{nat_tests}
use Rattle.std.proofs.lemmas.List.{length-set, length-replicate, get_or-replicate, get_or-set_other}
use Rattle.std.proofs.lemmas.List.Elements.{All-tail}
use Rattle.std.proofs.lemmas.List.FromFn.{length-map-range_with_len, get_or-map-range_with_len}
use Rattle.std.proofs.lemmas.Grind.{same_number_lists, get_or-set_at}
use Rattle.page_checksum.specs.Sums.{page_sum_of}
use Rattle.page_checksum.specs.Table.{PageSums, with_pages}
use Rattle.lf_base.proofs.FileLemmas.{length-resized}
use Rattle.txn_log.specs.Reserve.{spare_of}
use Rattle.lf_sqlite_pages.specs.LockPage.{lock_page_of, IsDataPage}
use Rattle.lf_sqlite_pages.specs.Change.{PageChange, IsChange, AscendsAbove, empty_change, with_page, written, last_number}
use Rattle.lf_sqlite_pages.specs.Complete.{completed, completed_page}
use Rattle.lf_sqlite_pages.specs.Header.{is_wal}
use Rattle.lf_sqlite_pages.specs.PageSize.{IsPageSize}
use Rattle.lf_sqlite_pages.specs.declared.page_write.PageWrite.{PageWrite}
use Rattle.lf_sqlite_pages.proofs.Completing.{completed-within, completed-past}
use Rattle.lf_sqlite_pages.proofs.Writes.{written-writes_of}
use Rattle.txn_log.specs.Draft.{sum_after}
use Rattle.txn_log.specs.Modes.{wal_after}
use Rattle.txn_log.specs.Taking.{sums_behind, mode_at_first}
use Rattle.txn_log.proofs.Growths.{grown-other, grown-here}
use Rattle.txn_log.proofs.Modes.{first-data}
use Rattle.txn_log.proofs.SumTables.{behind, behind-lock}

-- the last page of a change is above the others
above_last : (m : ℕ) (ws : List PageWrite) (w : PageWrite) → AscendsAbove m (ws ++ w ∷ []) → (m < w.number) × (fold (λ _ (v : PageWrite). v.number) m ws < w.number)
above_last m [] w ascends = (ascends.0, ascends.0)
above_last m (v ∷ ws) w ascends =
    let rest = above_last v.number ws w ascends.1 in
    (omega (arith, ascends.0, rest.0), rest.1)

at_last : (P : PageWrite → Type 0) (ws : List PageWrite) (w : PageWrite) → All P (ws ++ w ∷ []) → P w
at_last P [] w all = all 0 w (omega arith)
at_last P (v ∷ ws) w all = at_last P ws w (All-tail P v (ws ++ w ∷ []) all)

-- what a change with one page more says of that page
module _ (change : PageChange) (number : ℕ) (page : List ℕ) (valid : IsChange (with_page change number page)) where
  abbrev w : PageWrite
  w = record { number = number; bytes = page }

  pub next_first : 1 ≤ number
  next_first = omega (arith, (above_last 0 change.pages w valid.ascending).0)

  pub next_above : last_number change.pages < number
  next_above = (above_last 0 change.pages w valid.ascending).1

  pub next_last : number ≤ change.commit
  next_last = at_last (λ (v : PageWrite). v.number ≤ change.commit) change.pages w valid.within

  pub next_data : IsDataPage change.page_size number
  next_data = at_last (λ (v : PageWrite). IsDataPage change.page_size v.number) change.pages w valid.data_pages

  pub next_whole : length page ≡ change.page_size
  next_whole = at_last (λ (v : PageWrite). length v.bytes ≡ change.page_size) change.pages w valid.whole

  pub next_count : length (with_page change number page).pages ≡ length change.pages + 1
  next_count = length-append change.pages (w ∷ [])

-- the table of sums with that page
module _ (sums : List ℕ) (count : ℕ) (change : PageChange) (old : IsChange change) (number : ℕ) (page : List ℕ) (valid : IsChange (with_page change number page)) where
  abbrev after : PageChange
  after = with_page change number page

  abbrev sum_old : ℕ → ℕ
  sum_old = sum_after sums (completed change count)

  abbrev sum_new : ℕ → ℕ
  sum_new = sum_after sums (completed after count)

  other_sum : (n : ℕ) → 1 ≤ n → n ≤ change.commit → n ≢ number → sum_new n ≡ sum_old n
  other_sum n first last other = elim (cases_eq n (lock_page_of change.page_size)) [
    | inl lock ↦ behind-lock sums after count n lock ∙ sym (behind-lock sums change count n lock)
    | inr data_page ↦
        behind sums after count n first last data_page
        ∙ ap (λ (o : Option (List ℕ)). unwrap_or (option_map (page_sum_of n) o) (slice_index sums (n - 1)))
        (grown-other change count old number page (next_above change number page valid) (next_data change number page valid) n other)
        ∙ sym (behind sums change count n first last data_page)
  ]

  new_sum : sum_new number ≡ page_sum_of number page
  new_sum =
      behind sums after count number (next_first change number page valid) (next_last change number page valid) (next_data change number page valid)
      ∙ ap (λ (o : Option (List ℕ)). unwrap_or (option_map (page_sum_of number) o) (slice_index sums (number - 1)))
      (grown-here change count old number page (next_above change number page valid) (next_data change number page valid))

  pub next_table : slice_set (sums_behind count sums change) (number - 1) (page_sum_of number page) ≡ sums_behind count sums after
  next_table =
      let table : List ℕ = sums_behind count sums change in
      let place : ℕ = number - 1 in
      let first : 1 ≤ number = next_first change number page valid in
      let long : length table ≡ change.commit = length-map-range_with_len sum_old 1 change.commit in
      let size_is : length (slice_set table place (page_sum_of number page)) ≡ change.commit = length-set table place (page_sum_of number page) ∙ long in
      same_number_lists _ _ (size_is ∙ sym (length-map-range_with_len sum_new 1 change.commit))
      (λ k within.
      let inside : k < change.commit = omega (arith, size_is, within) in
      elim (cases_eq k place) [
        | inl here ↦
            let is : k + 1 ≡ number = omega (arith, here, first) in
            get_or-set_at table place k (page_sum_of number page) 0 here (omega (arith, long, inside, here))
            ∙ sym new_sum ∙ ap sum_new (sym is)
            ∙ sym (get_or-map-range_with_len sum_new 1 change.commit k (k + 1) 0 inside (omega arith))
        | inr other ↦
            get_or-set_other table place k (page_sum_of number page) 0 other
            ∙ get_or-map-range_with_len sum_old 1 change.commit k (k + 1) 0 inside (omega arith)
            ∙ sym (other_sum (k + 1) (omega arith) (omega (arith, inside)) (λ is. other (omega (arith, is))))
            ∙ sym (get_or-map-range_with_len sum_new 1 change.commit k (k + 1) 0 inside (omega arith))
      ])

  -- and the journal mode
  pub next_wal : (wal now mode : Bool) → now ≡ wal_after wal (completed change count) → mode ≡ (if number == 1 then is_wal page else now) → mode ≡ wal_after wal (completed after count)
  next_wal wal now mode was is =
      let some : 1 ≤ change.commit = omega (arith, next_first change number page valid, next_last change number page valid) in
      is ∙ elim (cases_eq number 1) [
        | inl one ↦
            let test : eqb number 1 ≡ true = grind (arith, nat_tests) in
            let here : completed_page after count 1 ≡ Some page =
            subst (λ (n : ℕ). completed_page after count n ≡ Some page) one (grown-here change count old number page (next_above change number page valid) (next_data change number page valid)) in
            rw test (sym (mode_by wal after count some ∙ ap (λ (o : Option (List ℕ)). unwrap_or (option_map is_wal o) wal) here))
        | inr other ↦
            let test : eqb number 1 ≡ false = grind (arith, nat_tests) in
            let same : completed_page after count 1 ≡ completed_page change count 1 =
            grown-other change count old number page (next_above change number page valid) (next_data change number page valid) 1 (λ one. other (sym one)) in
            rw test (was ∙ mode_by wal change count some ∙ sym (mode_by wal after count some ∙ ap (λ (o : Option (List ℕ)). unwrap_or (option_map is_wal o) wal) same))
      ]
    where
      mode_by : (wal : Bool) (c : PageChange) (count : ℕ) → 1 ≤ c.commit → wal_after wal (completed c count) ≡ unwrap_or (option_map is_wal (completed_page c count 1)) wal
      mode_by wal c count some =
          let test : eqb c.commit 0 ≡ false = grind (arith, nat_tests) in
          rw test (ap (λ (o : Option (List ℕ)). unwrap_or (option_map is_wal o) wal) (written-writes_of (completed_page c count) c.commit 1 (omega arith) some))

-- a page of zeros names no mode
zeros_mode : (size : ℕ) → is_wal (replicate size 0) ≡ false
zeros_mode size = elim (cases_lt 18 size) [
  | inl long ↦
      let here : slice_index (replicate {A = ℕ} size 0) 18 ≡ 0 = get_or-replicate {A = ℕ} size 18 0 0 long in
      let length_is : length (replicate {A = ℕ} size 0) ≡ size = length-replicate {A = ℕ} size 0 in
      rw here (no_mode_at (nat_lt 18 (length (replicate {A = ℕ} size 0))))
  | inr short ↦
      let length_is : length (replicate {A = ℕ} size 0) ≡ size = length-replicate {A = ℕ} size 0 in
      let test : nat_lt 18 (length (replicate {A = ℕ} size 0)) ≡ false = ap (nat_lt 18) length_is ∙ grind (arith, nat_tests) in
      rw test refl
]
  where
    no_mode_at : (b : Bool) → (b && (0 == 2)) ≡ false
    no_mode_at true = refl
    no_mode_at false = refl

-- before its first page
module _ (size commit count : ℕ) (sized : IsPageSize size) where
  abbrev none_yet : PageChange
  none_yet = empty_change size commit

  pub first_mode : (wal mode : Bool) → mode ≡ mode_at_first wal count commit → mode ≡ wal_after wal (completed none_yet count)
  first_mode wal mode is = is ∙ elim (cases_eq commit 0) [
    | inl none ↦
        let test : eqb commit 0 ≡ true = grind (arith, nat_tests) in
        rw test refl
    | inr some ↦
        let test : eqb commit 0 ≡ false = grind (arith, nat_tests) in
        let there : written (completed none_yet count).pages 1 ≡ completed_page none_yet count 1 = written-writes_of (completed_page none_yet count) commit 1 (omega arith) (omega (arith, some)) in
        rw test (by_count there)
  ]
    where
      by_count : written (completed none_yet count).pages 1 ≡ completed_page none_yet count 1 → cond (eqb count 0) false wal ≡ unwrap_or (option_map is_wal (written (completed none_yet count).pages 1)) wal
      by_count there = elim (cases_eq count 0) [
        | inl none ↦
            let test : eqb count 0 ≡ true = grind (arith, nat_tests) in
            rw test (sym (ap (λ (o : Option (List ℕ)). unwrap_or (option_map is_wal o) wal) (there ∙ completed-past none_yet count 1 (first-data size sized) (omega (arith, none))) ∙ no_mode))
        | inr some ↦
            let test : eqb count 0 ≡ false = grind (arith, nat_tests) in
            rw test (sym (ap (λ (o : Option (List ℕ)). unwrap_or (option_map is_wal o) wal) (there ∙ completed-within none_yet count 1 (first-data size sized) (omega (arith, some)))))
      ]
        where
          no_mode : is_wal (replicate size 0) ≡ false
          no_mode = zeros_mode size

-- a change that writes no page is one
pub no_pages : (size commit : ℕ) → IsPageSize size → IsChange (empty_change size commit)
no_pages size commit sized = record {
  of_a_page_size = sized;
  ascending = tt;
  within = λ k d within. absurd (omega (arith, within));
  data_pages = λ k d within. absurd (omega (arith, within));
  whole = λ k d within. absurd (omega (arith, within));
}

-- a table of so many pages, and its room
pub length-with_pages : (table : PageSums) (n : ℕ) → length (with_pages table n).sums ≡ n
length-with_pages table n = length-resized n table.sums

pub spare-with_pages : (table : PageSums) (n : ℕ) → n ≤ spare_of table → spare_of (with_pages table n) ≡ spare_of table
spare-with_pages table n room = omega (arith, room, length-with_pages table n)

-- a sum more
pub next_sum : (sum : ℕ → ℕ) (table : List ℕ) (at count : ℕ) (new : ℕ) → length table ≡ count → at < count → ((k : ℕ) → k < at → get_or table k 0 ≡ sum (k + 1)) → new ≡ sum (at + 1)
    → (k : ℕ) → k < at + 1 → get_or (slice_set table (at + 1 - 1) new) k 0 ≡ sum (k + 1)
next_sum sum table at count new long more each is k low =
    let back : at + 1 - 1 ≡ at = omega arith in
    ap (λ (i : ℕ). get_or (slice_set table i new) k 0) back
    ∙ elim (cases_eq k at) [
      | inl here ↦ get_or-set_at table at k new 0 here (omega (arith, long, more, here)) ∙ is ∙ ap (λ (i : ℕ). sum (i + 1)) (sym here)
      | inr other ↦ get_or-set_other table at k new 0 other ∙ each k (omega (arith, low, other))
    ]

-- all of them
pub all_sums : (sum : ℕ → ℕ) (table : List ℕ) (count : ℕ) → length table ≡ count → ((k : ℕ) → k < count → get_or table k 0 ≡ sum (k + 1)) → table ≡ map sum (range_with_len 1 count)
all_sums sum table count long each =
    same_number_lists _ _ (long ∙ sym (length-map-range_with_len sum 1 count))
    (λ k within.
    let inside : k < count = omega (arith, long, within) in
    each k inside ∙ sym (get_or-map-range_with_len sum 1 count k (k + 1) 0 inside (omega arith)))

-- the last page is in the change
last_low : (limit below : ℕ) (ws : List PageWrite) → below ≤ limit → All (λ (w : PageWrite). w.number ≤ limit) ws → fold (λ _ (w : PageWrite). w.number) below ws ≤ limit
last_low limit below [] low all = low
last_low limit below (w ∷ ws) low all = last_low limit w.number ws (all 0 w (omega arith)) (All-tail (λ (v : PageWrite). v.number ≤ limit) w ws all)

pub last_inside : (change : PageChange) → IsChange change → last_number change.pages ≤ change.commit
last_inside change valid = last_low change.commit 0 change.pages (omega arith) valid.within
