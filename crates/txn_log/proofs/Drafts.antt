-- A draft is a file.
use Rattle.std.proofs.Common.{◌≡◌, ◌≢◌, ◌⊎◌, ℕ, ◌+◌, ◌-◌, ◌<◌, ◌≤◌, Bool, ◌^◌, true, false, eqb, List, [], ◌∷◌, length, map, Option, refl, sym, ◌∙◌, ap, subst, arith, inl, inr, unwrap_or}
use Rattle.std.specs.Prelude.{slice_index}
use Rattle.std.specs.List.{range_with_len}
use Rattle.std.specs.Option.{option_map}
use Rattle.std.proofs.lemmas.Nat.{le_or_r}
use Rattle.std.proofs.lemmas.Bool.{cases_eq}
use Rattle.std.proofs.lemmas.Bool.Decides.{nat_tests}
use Rattle.page_checksum.specs.Sums.{flagged, joined, page_sum_of}
use Rattle.lf_base.specs.declared.pos.Pos.{Pos}
use Rattle.lf_sqlite_pages.specs.LockPage.{lock_page_of}
use Rattle.lf_sqlite_pages.specs.Change.{PageChange, IsChange, written}
use Rattle.lf_sqlite_pages.specs.Complete.{completed, completed_page}
use Rattle.lf_sqlite_pages.proofs.Completing.{IsChange-completed, HoldsEveryPage-completed}
use Rattle.lf_sqlite_pages.proofs.Writes.{written-writes_of}
use Rattle.ltx_codec.specs.Format.{IsFile, FitsWidths, IsFlagged}
use Rattle.ltx_codec.specs.Sums.{sum_of_writes}
use Rattle.ltx_codec.specs.declared.file.Ltx.{Ltx}
use Rattle.ltx_codec.proofs.ChangedSumLemmas.{joined-writes_of, sum_at}
use Rattle.txn_log.specs.declared.entry.Entry.{Entry}
use Rattle.txn_log.specs.Draft.{sum_after, sums_after, drafted, IsWithin}
use Rattle.txn_log.specs.Store.{end_of_entries, IsShaped}
use Rattle.txn_log.proofs.Entries.{end-empty}

pub entries-cases : (es : List Entry) → (es ≡ []) ⊎ (es ≢ [])
entries-cases [] = inl refl
entries-cases (e ∷ es) = inr (λ none. cc)

-- the sum after a complete change of a database without pages is that of what is written
sum-first : (change : PageChange) → IsChange change → flagged (joined (sums_after [] (completed change 0))) ≡ sum_of_writes (completed change 0).pages
sum-first change valid =
    let whole = completed change 0 in
    sym (ap flagged (joined-writes_of (completed_page change 0) (sum_after [] whole) change.commit each))
  where
    none : (n : ℕ) → slice_index [] (n - 1) ≡ 0
    none n = refl

    each : (n : ℕ) → 1 ≤ n → n ≤ change.commit → sum_after [] (completed change 0) n ≡ sum_at (completed_page change 0) n
    each n first last = elim (cases_eq n (lock_page_of change.page_size)) [
      | inl lock ↦
          let test : eqb n (lock_page_of change.page_size) ≡ true = grind (arith, nat_tests) in
          rw test refl
      | inr other ↦
          let test : eqb n (lock_page_of change.page_size) ≡ false = grind (arith, nat_tests) in
          let here : written (completed change 0).pages n ≡ completed_page change 0 n = written-writes_of (completed_page change 0) change.commit n first last in
          sum-other n test ∙ ap (λ (o : Option (List ℕ)). unwrap_or (option_map (page_sum_of n) o) 0) here
    ]
      where
        sum-other : (n : ℕ) → eqb n (lock_page_of change.page_size) ≡ false → sum_after [] (completed change 0) n ≡ unwrap_or (option_map (page_sum_of n) (written (completed change 0).pages n)) 0
        sum-other n test = rw test refl

-- and so it is of a store without files
pub sum-anew : (commit : ℕ) (entries : List Entry) (dropped : Bool) (sums : List ℕ) (change : PageChange) → IsShaped commit entries dropped sums → IsChange change → entries ≡ []
    → flagged (joined (sums_after sums (completed change commit))) ≡ sum_of_writes (completed change commit).pages
sum-anew commit entries dropped sums change shaped valid nothing =
    let P : List ℕ → ℕ → Type 0 = λ s c. flagged (joined (sums_after s (completed change c))) ≡ sum_of_writes (completed change c).pages in
    subst (λ (s : List ℕ). P s commit) (sym no_sums) (subst (λ (c : ℕ). P [] c) (sym (shaped.none nothing)) (sum-first change valid))
  where
    no_list : (xs : List ℕ) → length xs ≡ 0 → xs ≡ []
    no_list [] zero_long = refl
    no_list (x ∷ xs) zero_long = absurd (omega (arith, zero_long))

    no_sums : sums ≡ []
    no_sums = no_list sums (shaped.count ∙ shaped.none nothing)

module _ (commit : ℕ) (entries : List Entry) (dropped : Bool) (sums : List ℕ) (change : PageChange) (stamp node : ℕ) (shaped : IsShaped commit entries dropped sums) (valid : IsChange change)
    (within : IsWithin (end_of_entries entries) change) where
  abbrev pub file : Ltx
  file = drafted (end_of_entries entries) commit sums change stamp node

  -- the first file stands on a database without pages
  first : (end_of_entries entries).txid + 1 ≡ 1 → entries ≡ []
  first one = elim (entries-cases entries) [
    | inl none ↦ none
    | inr some ↦ absurd (omega (arith, shaped.some some, one))
  ]

  later : (end_of_entries entries).txid + 1 ≢ 1 → entries ≢ []
  later more none = more (ap (λ (p : Pos). p.txid + 1) (ap end_of_entries none ∙ end-empty))

  pub is_file : FitsWidths file.header → file.post < 2 ^ 64 → IsFile file
  is_file widths width = record {
    header = record {
      widths = widths;
      page_size = valid.of_a_page_size;
      commit = within.size;
      min = omega arith;
      max = omega arith;
      snapshot_pre = λ one. ap (λ (p : Pos). p.sum) (ap end_of_entries (first one) ∙ end-empty);
      delta_pre = λ more. subst (λ (s : ℕ). IsFlagged s) (sym (shaped.sum (later more))) (le_or_r (joined sums) (2 ^ 63));
    };
    block = record {
      page_size = refl;
      commit = refl;
      pages = IsChange-completed change commit valid;
      snapshot_pages = λ one. HoldsEveryPage-completed change commit (shaped.none (first one));
    };
    post = record {
      width = width;
      flagged = le_or_r (joined (sums_after sums (completed change commit))) (2 ^ 63);
      empty = λ none. ap (λ (n : ℕ). flagged (joined (map (sum_after sums (completed change commit)) (range_with_len 1 n)))) none;
      snapshot = λ one. sum-anew commit entries dropped sums change shaped valid (first one);
    };
  }
