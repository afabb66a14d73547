-- What a complete change holds while its pages come.
use Rattle.std.proofs.Common.{◌≡◌, ◌≢◌, inl, inr, ℕ, ◌<◌, ◌≤◌, Bool, true, false, eqb, cond, Option, Some, None, List, [], ◌∷◌, ◌++◌, fold, replicate, refl, sym, ◌∙◌, ap, subst, arith, unwrap_or}
use Rattle.std.specs.Prelude.{◌==◌, nat_le, find, if◌then◌else◌}
use Rattle.std.specs.Option.{option_map}
use Rattle.std.proofs.lemmas.Bool.{cases_lt}
use Rattle.std.proofs.lemmas.Bool.Decides.{nat_tests}
use Rattle.lf_sqlite_pages.specs.LockPage.{lock_page_of, IsDataPage}
use Rattle.lf_sqlite_pages.specs.Change.{PageChange, IsChange, AscendsAbove, last_number, with_page, written}
use Rattle.lf_sqlite_pages.specs.Complete.{completed_page}
use Rattle.lf_sqlite_pages.specs.declared.page_write.PageWrite.{PageWrite}
use Rattle.lf_sqlite_pages.proofs.Completing.{completed-within, completed-past}
use Rattle.lf_sqlite_pages.proofs.Writes.{writes_of-same}
use Rattle.ltx_codec.proofs.SumLemmas.{map-same}
use Rattle.page_checksum.specs.Sums.{joined}
use Rattle.txn_log.specs.declared.receiving.Receiving.{Receiving}
use Rattle.txn_log.specs.Receiving.{lacking_page, sum_with, HasPassed, ComesNext}
use Rattle.txn_log.specs.Staging.{IsStaging}

kept : (b : Bool) (x : PageWrite) (r s : Option PageWrite) → option_map (λ (w : PageWrite). w.bytes) s ≡ option_map (λ (w : PageWrite). w.bytes) r
    → option_map (λ (w : PageWrite). w.bytes) (cond b (Some x) s) ≡ option_map (λ (w : PageWrite). w.bytes) (cond b (Some x) r)
kept true x r s same = refl
kept false x r s same = same

-- a page more is written at its number alone
pub written-push-other : (ws : List PageWrite) (w : PageWrite) (n : ℕ) → n ≢ w.number → written (ws ++ w ∷ []) n ≡ written ws n
written-push-other [] w n other =
    let test : eqb w.number n ≡ false = grind (arith, nat_tests) in
    rw test refl
written-push-other (v ∷ vs) w n other =
    kept (v.number == n) v (find (λ (x : PageWrite). x.number == n) vs) (find (λ (x : PageWrite). x.number == n) (vs ++ w ∷ [])) (written-push-other vs w n other)

found : (b : Bool) (x : PageWrite) (r s : Option PageWrite) (bytes : List ℕ) → option_map (λ (w : PageWrite). w.bytes) (cond b (Some x) r) ≡ None
    → (option_map (λ (w : PageWrite). w.bytes) r ≡ None → option_map (λ (w : PageWrite). w.bytes) s ≡ Some bytes) → option_map (λ (w : PageWrite). w.bytes) (cond b (Some x) s) ≡ Some bytes
found true x r s bytes none more = cc
found false x r s bytes none more = more none

pub written-push-here : (ws : List PageWrite) (w : PageWrite) → written ws w.number ≡ None → written (ws ++ w ∷ []) w.number ≡ Some w.bytes
written-push-here [] w none =
    let test : eqb w.number w.number ≡ true = grind (arith, nat_tests) in
    rw test refl
written-push-here (v ∷ vs) w none =
    found (v.number == w.number) v (find (λ (x : PageWrite). x.number == w.number) vs) (find (λ (x : PageWrite). x.number == w.number) (vs ++ w ∷ [])) w.bytes none (written-push-here vs w)

-- nothing is written past the last page
last_above : (below : ℕ) (ws : List PageWrite) → AscendsAbove below ws → below ≤ fold (λ _ (w : PageWrite). w.number) below ws
last_above below [] ascends = omega arith
last_above below (w ∷ ws) ascends = omega (arith, ascends.0, last_above w.number ws ascends.1)

unwritten : (below : ℕ) (ws : List PageWrite) → AscendsAbove below ws → (n : ℕ) → fold (λ _ (w : PageWrite). w.number) below ws < n → written ws n ≡ None
unwritten below [] ascends n past = refl
unwritten below (w ∷ ws) ascends n past =
    let low : w.number < n = omega (arith, last_above w.number ws ascends.1, past) in
    let test : eqb w.number n ≡ false = grind (arith, nat_tests) in
    rw test (unwritten w.number ws ascends.1 n past)

module _ (change : PageChange) (count : ℕ) (valid : IsChange change) where
  abbrev pub shape : ℕ → Option (List ℕ) → Option (List ℕ)
  shape n o = if n == lock_page_of change.page_size then None else if nat_le n count then o else Some (unwrap_or o (replicate change.page_size 0))

  -- past its last page a file lacks all
  pub lacks-past : (n : ℕ) → last_number change.pages < n → completed_page change count n ≡ lacking_page change.page_size count n
  lacks-past n past = ap (shape n) (unwritten 0 change.pages valid.ascending n past)

  module _ (number : ℕ) (page : List ℕ) (above : last_number change.pages < number) (other : IsDataPage change.page_size number) where
    pub grown-other : (n : ℕ) → n ≢ number → completed_page (with_page change number page) count n ≡ completed_page change count n
    grown-other n elsewhere = ap (shape n) (written-push-other change.pages (record { number = number; bytes = page }) n elsewhere)

    pub grown-here : completed_page (with_page change number page) count number ≡ Some page
    grown-here =
        let here : written (with_page change number page).pages number ≡ Some page =
        written-push-here change.pages (record { number = number; bytes = page }) (unwritten 0 change.pages valid.ascending number above) in
        elim (cases_lt count number) [
          | inl past ↦ completed-past (with_page change number page) count number other past ∙ ap (λ (o : Option (List ℕ)). Some (unwrap_or o (replicate change.page_size 0))) here
          | inr within ↦ completed-within (with_page change number page) count number other within ∙ here
        ]

    pub comes-next : (receiving : Receiving) (sums : List ℕ) → last_number change.pages ≡ receiving.passed → receiving.header.page_size ≡ change.page_size
        → HasPassed receiving sums (completed_page change count) → ComesNext receiving sums count (completed_page (with_page change number page) count) number page
    comes-next receiving sums last size has =
        let old : ℕ → Option (List ℕ) = completed_page change count in
        let new : ℕ → Option (List ℕ) = completed_page (with_page change number page) count in
        let same : (n : ℕ) → n ≤ receiving.passed → old n ≡ new n = λ n low. sym (grown-other n (λ is. omega (arith, is, low, above, last))) in
        record {
          passed = record {
            staging = subst (λ (ws : List PageWrite). IsStaging receiving.staging receiving.header ws) (writes_of-same old new receiving.passed (λ n first low. same n low)) has.staging;
            total = has.total
                ∙ ap joined (map-same (sum_with receiving.header.page_size sums old) (sum_with receiving.header.page_size sums new) 1 receiving.passed
                (λ n first low. ap (λ (o : Option (List ℕ)). sum_with receiving.header.page_size sums (λ _. o) n) (same n (omega (arith, low)))));
          };
          lacks = λ n past low. grown-other n (λ is. omega (arith, is, low, above)) ∙ lacks-past n (omega (arith, past, last)) ∙ ap (λ (s : ℕ). lacking_page s count n) (sym size);
          here = grown-here;
        }
