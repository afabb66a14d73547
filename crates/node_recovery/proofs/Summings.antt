-- What is known of the pages before a change is written.
use Rattle.std.proofs.Common.{◌≡◌, ◌≢◌, inl, inr, ℕ, ◌+◌, ◌-◌, ◌*◌, ◌<◌, ◌≤◌, Bool, true, false, cond, Option, Some, None, List, ◌++◌, length, length-drop, take, drop, replicate, sym, ◌∙◌, ap, arith}
use Rattle.std.specs.Prelude.{◌==◌, if◌then◌else◌, slice_index, slice_set, unwrap_or}
use Rattle.std.specs.Int.{w32, to_be_bytes}
use Rattle.std.specs.Option.{option_map}
use Rattle.std.proofs.lemmas.List.{length-replicate, length-set, get_or-set_other, drop-replicate}
use Rattle.std.proofs.lemmas.List.FromFn.{length-map-range_with_len, get_or-map-range_with_len}
use Rattle.std.proofs.lemmas.Grind.{same_number_lists, get_or-set_at}
use Rattle.std.proofs.lemmas.Bool.{cases_eq}
use Rattle.std.proofs.lemmas.Bool.Decides.{nat_tests}
use Rattle.std.proofs.lemmas.Nat.{le_or_r}
use Rattle.lf_base.specs.FileBytes.{read_into}
use Rattle.page_checksum.specs.Crc.{crc}
use Rattle.page_checksum.specs.Sums.{page_sum_of}
use Rattle.page_checksum.specs.Table.{PageSums, with_sum}
use Rattle.lf_sqlite_pages.specs.Change.{PageChange, IsChange, written}
use Rattle.lf_sqlite_pages.specs.Header.{is_wal}
use Rattle.lf_sqlite_pages.specs.LockPage.{lock_page_of}
use Rattle.lf_sqlite_pages.proofs.Applying.{written-lock_page, All-written}
use Rattle.lf_sqlite_pages.proofs.LockPages.{page_size-positive, IsDataPage-below}
use Rattle.txn_log.proofs.Modes.{page_size-most}
use Rattle.txn_log.proofs.Puttings.{cases_option}
use Rattle.node_recovery.specs.declared.tally.Tally.{Tally}
use Rattle.node_recovery.specs.Summing.{padded, page_left, sum_left, sums_left, sum_written, mode_written, IsTallied, AreKnown, KnowsPages}

-- a read into zeros
pub read_padded : (size n : ℕ) (bytes : List ℕ) → read_into ((n - 1) * size) bytes (replicate size 0) ≡ padded size n bytes
read_padded size n bytes =
    let at = (n - 1) * size in
    let long : length (replicate size 0) ≡ size = length-replicate size 0 in
    let left : length (drop at bytes) ≡ length bytes - at = length-drop at bytes in
    ap (λ (k : ℕ). take k (drop at bytes) ++ drop (length bytes - at) (replicate size 0)) long
    ∙ ap (λ (zs : List ℕ). take size (drop at bytes) ++ zs) (drop-replicate (length bytes - at) size 0 ∙ ap (λ (k : ℕ). replicate (size - k) 0) (sym left))

-- a page has a sum other than 0
sum_some : (n : ℕ) (page : List ℕ) → page_sum_of n page ≢ 0
unfolding page_sum_of
sum_some n page none = let high = le_or_r (crc (to_be_bytes w32 n ++ page)) 0x8000_0000_0000_0000 in omega (arith, high, none)

module _ (change : PageChange) (bytes : List ℕ) (valid : IsChange change) where
  -- page 1 is no lock page
  pub first_data : 1 ≢ lock_page_of change.page_size
  first_data =
      let size = valid.of_a_page_size in
      IsDataPage-below change.page_size 1 (page_size-positive change.page_size size) (omega (arith, page_size-most change.page_size size))

  -- the sum that is left, by what the change writes
  sum_lock : (n : ℕ) → n ≡ lock_page_of change.page_size → sum_left change bytes n ≡ sum_written change n
  sum_lock n lock =
      let test : (n == lock_page_of change.page_size) ≡ true = grind (arith, nat_tests) in
      let none : written change.pages n ≡ None = ap (written change.pages) lock ∙ written-lock_page change valid in
      ap (λ (b : Bool). cond b 0 (page_sum_of n (page_left change bytes n))) test ∙ sym (ap (λ (o : Option (List ℕ)). unwrap_or (option_map (page_sum_of n) o) 0) none)

  sum_data : (n : ℕ) → n ≢ lock_page_of change.page_size → sum_left change bytes n ≡ page_sum_of n (page_left change bytes n)
  sum_data n other =
      let test : (n == lock_page_of change.page_size) ≡ false = grind (arith, nat_tests) in
      ap (λ (b : Bool). cond b 0 (page_sum_of n (page_left change bytes n))) test

  not_lock : (n : ℕ) (page : List ℕ) → written change.pages n ≡ Some page → n ≢ lock_page_of change.page_size
  not_lock n page some lock = let no : None ≡ Some page = sym (ap (written change.pages) lock ∙ written-lock_page change valid) ∙ some in absurd (cc)

  left_written : (n : ℕ) (page : List ℕ) → written change.pages n ≡ Some page → page_left change bytes n ≡ page
  left_written n page some = ap (λ (o : Option (List ℕ)). unwrap_or o (padded change.page_size n bytes)) some

  left_none : (n : ℕ) → written change.pages n ≡ None → page_left change bytes n ≡ padded change.page_size n bytes
  left_none n none = ap (λ (o : Option (List ℕ)). unwrap_or o (padded change.page_size n bytes)) none

  sum_there : (n : ℕ) (page : List ℕ) → written change.pages n ≡ Some page → sum_left change bytes n ≡ sum_written change n
  sum_there n page some =
      sum_data n (not_lock n page some) ∙ ap (page_sum_of n) (left_written n page some)
      ∙ sym (ap (λ (o : Option (List ℕ)). unwrap_or (option_map (page_sum_of n) o) 0) some)

  -- a page that is written has its sum
  none_written : (n : ℕ) → sum_written change n ≡ 0 → written change.pages n ≡ None
  none_written n zero = elim (cases_option (written change.pages n)) [
    | inl none ↦ none
    | inr some ↦
        let its : sum_written change n ≡ page_sum_of n some.0 = ap (λ (o : Option (List ℕ)). unwrap_or (option_map (page_sum_of n) o) 0) some.1 in
        absurd (sum_some n some.0 (sym its ∙ zero))
  ]

  some_written : (n : ℕ) → sum_written change n ≢ 0 → (page : List ℕ) × (written change.pages n ≡ Some page)
  some_written n other = elim (cases_option (written change.pages n)) [
    | inl none ↦ absurd (other (ap (λ (o : Option (List ℕ)). unwrap_or (option_map (page_sum_of n) o) 0) none))
    | inr some ↦ some
  ]

  -- the mode so far
  mode_later : (page : ℕ) → 0 < page → (if page == 0 then mode_written change else is_wal (page_left change bytes 1)) ≡ is_wal (page_left change bytes 1)
  mode_later page some =
      let test : (page == 0) ≡ false = grind (arith, nat_tests) in
      ap (λ (b : Bool). cond b (mode_written change) (is_wal (page_left change bytes 1))) test

  mode_before : (n : ℕ) → n - 1 ≡ 0 → (if n - 1 == 0 then mode_written change else is_wal (page_left change bytes 1)) ≡ mode_written change
  mode_before n none =
      let test : (n - 1 == 0) ≡ true = grind (arith, nat_tests) in
      ap (λ (b : Bool). cond b (mode_written change) (is_wal (page_left change bytes 1))) test

  -- a page whose sum is known already
  module _ (n : ℕ) (old : Tally) (first : 1 ≤ n) (last : n ≤ change.commit) (so_far : AreKnown change bytes (n - 1) old) where
    at : slice_index old.sums.sums (n - 1) ≡ sum_written change n
    at = so_far.rest n (omega (arith, first)) last

    passed : sum_left change bytes n ≡ sum_written change n → (n ≡ 1 → mode_written change ≡ is_wal (page_left change bytes 1)) → AreKnown change bytes n old
    passed sum mode = record {
      count = so_far.count;
      done = λ k low high. elim (cases_eq k n) [
        | inl here ↦ ap (λ (m : ℕ). slice_index old.sums.sums (m - 1)) here ∙ at ∙ sym sum ∙ ap (sum_left change bytes) (sym here)
        | inr other ↦ so_far.done k low (omega (arith, high, other))
      ];
      rest = λ k low high. so_far.rest k (omega (arith, low)) high;
      wal = so_far.wal ∙ elim (cases_eq n 1) [
        | inl one ↦ mode_before n (omega (arith, one)) ∙ mode one ∙ sym (mode_later n (omega (arith, first)))
        | inr other ↦ mode_later (n - 1) (omega (arith, first, other)) ∙ sym (mode_later n (omega (arith, first)))
      ];
    }

    pub known_lock : n ≡ lock_page_of change.page_size → AreKnown change bytes n old
    known_lock lock = passed (sum_lock n lock) (λ one. absurd (first_data (sym one ∙ lock)))

    pub known_there : slice_index old.sums.sums (n - 1) ≢ 0 → AreKnown change bytes n old
    known_there other =
        let some = some_written n (λ zero. other (at ∙ zero)) in
        passed (sum_there n some.0 some.1)
        (λ one.
        let here : written change.pages 1 ≡ Some some.0 = ap (written change.pages) (sym one) ∙ some.1 in
        ap (λ (o : Option (List ℕ)). unwrap_or (option_map is_wal o) false) here ∙ sym (ap is_wal (left_written 1 some.0 here)))

    -- or that is read
    pub known_read : (new : Tally) (page : List ℕ) → n ≢ lock_page_of change.page_size → slice_index old.sums.sums (n - 1) ≡ 0 → page ≡ padded change.page_size n bytes
        → new.sums ≡ with_sum old.sums n (page_sum_of n page) → new.wal ≡ (if n == 1 then is_wal page else old.wal) → AreKnown change bytes n new
    known_read new page other zero is sums_are wal_is =
        let none : written change.pages n ≡ None = none_written n (sym at ∙ zero) in
        let left : page ≡ page_left change bytes n = is ∙ sym (left_none n none) in
        let sums : new.sums.sums ≡ slice_set old.sums.sums (n - 1) (page_sum_of n page) = ap (λ (t : PageSums). t.sums) sums_are in
        record {
          count = ap length sums ∙ length-set old.sums.sums (n - 1) (page_sum_of n page) ∙ so_far.count;
          done = λ k low high. ap (λ (l : List ℕ). slice_index l (k - 1)) sums ∙ elim (cases_eq k n) [
            | inl here ↦
                get_or-set_at old.sums.sums (n - 1) (k - 1) (page_sum_of n page) 0 (omega (arith, here)) (omega (arith, so_far.count, first, last))
                ∙ ap (page_sum_of n) left ∙ sym (sum_data n other) ∙ ap (sum_left change bytes) (sym here)
            | inr apart ↦
                get_or-set_other old.sums.sums (n - 1) (k - 1) (page_sum_of n page) 0 (λ e. apart (omega (arith, e, low, first)))
                ∙ so_far.done k low (omega (arith, high, apart))
          ];
          rest = λ k low high.
              ap (λ (l : List ℕ). slice_index l (k - 1)) sums
              ∙ get_or-set_other old.sums.sums (n - 1) (k - 1) (page_sum_of n page) 0 (λ e. omega (arith, e, low, first))
              ∙ so_far.rest k (omega (arith, low)) high;
          wal = wal_is ∙ elim (cases_eq n 1) [
            | inl one ↦
                let test : (n == 1) ≡ true = grind (arith, nat_tests) in
                ap (λ (b : Bool). cond b (is_wal page) old.wal) test ∙ ap is_wal (left ∙ ap (page_left change bytes) one) ∙ sym (mode_later n (omega (arith, first)))
            | inr apart ↦
                let test : (n == 1) ≡ false = grind (arith, nat_tests) in
                ap (λ (b : Bool). cond b (is_wal page) old.wal) test ∙ so_far.wal ∙ mode_later (n - 1) (omega (arith, first, apart)) ∙ sym (mode_later n (omega (arith, first)))
          ];
        }

  -- of no page more is known than what the change writes
  pub none_known : (tally : Tally) → IsTallied change tally → AreKnown change bytes 0 tally
  none_known tally is = record {
    count = is.count;
    done = λ k low high. absurd (omega (arith, low, high));
    rest = λ k low high. is.sums k (omega (arith, low)) high;
    wal = is.wal;
  }

  none_left : change.commit ≡ 0 → written change.pages 1 ≡ None
  none_left zero = elim (cases_option (written change.pages 1)) [
    | inl none ↦ none
    | inr some ↦ absurd (omega (arith, zero, All-written (λ w. w.number ≤ change.commit) change.pages 1 some.0 valid.within some.1))
  ]

  -- and in the end all
  pub all_known : (tally : Tally) → AreKnown change bytes change.commit tally → KnowsPages change bytes tally
  all_known tally all = record {
    sums =
        let long : length (sums_left change bytes) ≡ change.commit = length-map-range_with_len (sum_left change bytes) 1 change.commit in
        same_number_lists tally.sums.sums (sums_left change bytes) (all.count ∙ sym long)
        (λ k within.
        let inside : k < change.commit = omega (arith, all.count, within) in
        let here : k + 1 - 1 ≡ k = omega arith in
        ap (slice_index tally.sums.sums) (sym here) ∙ all.done (k + 1) (omega arith) (omega (arith, inside))
        ∙ sym (get_or-map-range_with_len (sum_left change bytes) 1 change.commit k (k + 1) 0 inside (omega arith)));
    wal = all.wal ∙ elim (cases_eq change.commit 0) [
      | inl zero ↦
          let test : (change.commit == 0) ≡ true = grind (arith, nat_tests) in
          ap (λ (b : Bool). cond b (mode_written change) (is_wal (page_left change bytes 1))) test
          ∙ ap (λ (o : Option (List ℕ)). unwrap_or (option_map is_wal o) false) (none_left zero)
          ∙ sym (ap (λ (b : Bool). cond b false (is_wal (page_left change bytes 1))) test)
      | inr some ↦
          let test : (change.commit == 0) ≡ false = grind (arith, nat_tests) in
          ap (λ (b : Bool). cond b (mode_written change) (is_wal (page_left change bytes 1))) test
          ∙ sym (ap (λ (b : Bool). cond b false (is_wal (page_left change bytes 1))) test)
    ];
  }
