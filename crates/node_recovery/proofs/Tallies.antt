-- What is known of the pages that a file holds.
use Rattle.std.proofs.Common.{◌≡◌, ◌≢◌, inl, inr, ℕ, ◌-◌, ◌<◌, ◌≤◌, Bool, true, false, cond, Option, Some, None, List, [], ◌∷◌, ◌++◌, length, refl, sym, ◌∙◌, ap, arith}
use Rattle.std.specs.Prelude.{◌==◌, slice_index, slice_set, unwrap_or, if◌then◌else◌}
use Rattle.std.specs.List.{All}
use Rattle.std.specs.Option.{option_map}
use Rattle.std.proofs.lemmas.Bool.{cases_eq}
use Rattle.std.proofs.lemmas.Bool.Decides.{nat_tests}
use Rattle.std.proofs.lemmas.List.{length-set, get_or-set_other}
use Rattle.std.proofs.lemmas.List.Elements.{All-cons, All-tail}
use Rattle.std.proofs.lemmas.Grind.{get_or-set_at}
use Rattle.page_checksum.specs.Sums.{page_sum_of}
use Rattle.page_checksum.specs.Table.{PageSums, with_sum}
use Rattle.lf_sqlite_pages.specs.Change.{PageChange, IsChange, AscendsAbove, with_page, written}
use Rattle.lf_sqlite_pages.specs.Header.{is_wal}
use Rattle.lf_sqlite_pages.specs.declared.page_write.PageWrite.{PageWrite}
use Rattle.node_recovery.specs.declared.tally.Tally.{Tally}
use Rattle.node_recovery.specs.Summing.{sum_written, IsTallied}

-- the last number of a change is above the others
above_all : (m : ℕ) (ws : List PageWrite) (w : PageWrite) → AscendsAbove m (ws ++ w ∷ []) → (m < w.number) × All (λ v. v.number < w.number) ws
above_all m [] w ascends = (ascends.0, λ k d within. absurd (omega (arith, within)))
above_all m (v ∷ ws) w ascends =
    let rest = above_all v.number ws w ascends.1 in
    (omega (arith, ascends.0, rest.0), All-cons (λ (u : PageWrite). u.number < w.number) v ws rest.0 rest.1)

within_last : (limit : ℕ) (ws : List PageWrite) (w : PageWrite) → All (λ v. v.number ≤ limit) (ws ++ w ∷ []) → w.number ≤ limit
within_last limit [] w all = all 0 w (omega arith)
within_last limit (v ∷ ws) w all = within_last limit ws w (All-tail (λ (u : PageWrite). u.number ≤ limit) v (ws ++ w ∷ []) all)

-- a page at the end of a change has a number in it
pub last_within : (change : PageChange) (number : ℕ) (page : List ℕ) → IsChange (with_page change number page) → (1 ≤ number) × (number ≤ change.commit)
last_within change number page valid =
    let w : PageWrite = record { number = number; bytes = page } in
    let above = above_all 0 change.pages w valid.ascending in
    (omega (arith, above.0), within_last change.commit change.pages w valid.within)

-- one page more
written_other : (ws : List PageWrite) (w : PageWrite) (n : ℕ) → n ≢ w.number → written (ws ++ w ∷ []) n ≡ written ws n
written_other [] w n other = let test : (w.number == n) ≡ false = grind (arith, nat_tests) in ap (λ (b : Bool). option_map (λ (v : PageWrite). v.bytes) (cond b (Some w) None)) test
written_other (v ∷ ws) w n other = elim (cases_eq v.number n) [
  | inl is ↦
      let test : (v.number == n) ≡ true = grind (arith, nat_tests) in
      rw test refl
  | inr isnt ↦
      let test : (v.number == n) ≡ false = grind (arith, nat_tests) in
      rw test (written_other ws w n other)
]

written_same : (ws : List PageWrite) (w : PageWrite) → All (λ v. v.number < w.number) ws → written (ws ++ w ∷ []) w.number ≡ Some w.bytes
written_same [] w below = let test : (w.number == w.number) ≡ true = grind (arith, nat_tests) in ap (λ (b : Bool). option_map (λ (v : PageWrite). v.bytes) (cond b (Some w) None)) test
written_same (v ∷ ws) w below =
    let less : v.number < w.number = below 0 v (omega arith) in
    let test : (v.number == w.number) ≡ false = grind (arith, nat_tests) in
    rw test (written_same ws w (All-tail (λ (u : PageWrite). u.number < w.number) v ws below))

pub page_tallied : (change : PageChange) (number : ℕ) (page : List ℕ) (old new : Tally) → IsChange (with_page change number page) → new.sums ≡ with_sum old.sums number (page_sum_of number page)
    → new.wal ≡ (if number == 1 then is_wal page else old.wal) → IsTallied change old → IsTallied (with_page change number page) new
page_tallied change number page old new valid sums_are wal_is tallied =
    let w : PageWrite = record { number = number; bytes = page } in
    let above = above_all 0 change.pages w valid.ascending in
    let inside = last_within change number page valid in
    let same : written (change.pages ++ w ∷ []) number ≡ Some page = written_same change.pages w above.1 in
    let sums : new.sums.sums ≡ slice_set old.sums.sums (number - 1) (page_sum_of number page) = ap (λ (t : PageSums). t.sums) sums_are in
    record {
      count = ap length sums ∙ length-set old.sums.sums (number - 1) (page_sum_of number page) ∙ tallied.count;
      sums = λ n first last. ap (λ (l : List ℕ). slice_index l (n - 1)) sums ∙ elim (cases_eq n number) [
        | inl here ↦
            get_or-set_at old.sums.sums (number - 1) (n - 1) (page_sum_of number page) 0 (omega (arith, here)) (omega (arith, tallied.count, inside.0, inside.1))
            ∙ sym (ap (λ (k : ℕ). sum_written (with_page change number page) k) here ∙ ap (λ (o : Option (List ℕ)). unwrap_or (option_map (page_sum_of number) o) 0) same)
        | inr other ↦
            get_or-set_other old.sums.sums (number - 1) (n - 1) (page_sum_of number page) 0 (λ e. other (omega (arith, e, first, inside.0)))
            ∙ tallied.sums n first last
            ∙ sym (ap (λ (o : Option (List ℕ)). unwrap_or (option_map (page_sum_of n) o) 0) (written_other change.pages w n other))
      ];
      wal = wal_is ∙ elim (cases_eq number 1) [
        | inl one ↦
            let test : (number == 1) ≡ true = grind (arith, nat_tests) in
            ap (λ (b : Bool). cond b (is_wal page) old.wal) test
            ∙ sym (ap (λ (o : Option (List ℕ)). unwrap_or (option_map is_wal o) false) (ap (λ (k : ℕ). written (change.pages ++ w ∷ []) k) (sym one) ∙ same))
        | inr other ↦
            let test : (number == 1) ≡ false = grind (arith, nat_tests) in
            ap (λ (b : Bool). cond b (is_wal page) old.wal) test
            ∙ tallied.wal
            ∙ sym (ap (λ (o : Option (List ℕ)). unwrap_or (option_map is_wal o) false) (written_other change.pages w 1 (λ e. other (sym e))))
      ];
    }
