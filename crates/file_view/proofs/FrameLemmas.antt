-- What committed frames hold and state, as tests.
use Rattle.std.proofs.Common.{◌≡◌, ℕ, zero, suc, ◌+◌, ◌<◌, Bool, true, false, List, refl, sym, ◌∙◌, arith, inl, inr, ⊎_elim, ◌↔◌, IsTrue}
use Rattle.std.specs.Prelude.{◌==◌, get_or}
use Rattle.std.specs.List.{list_any, list_all, range_with_len}
use Rattle.std.specs.Str.{bytes_eq}
use Rattle.std.proofs.lemmas.Bool.{cases_Bool, and_parts, and_from}
use Rattle.std.proofs.lemmas.Bool.Decides.{nat_tests}
use Rattle.std.proofs.lemmas.List.Folds.{list_any_at}
use Rattle.std.proofs.lemmas.List.FromFn.{length-range_with_len, get_or-range_with_len}
use Rattle.std.proofs.lemmas.Slice.Eq.{bytes_eq-Decides}
use Rattle.wal_watch.specs.Frames.{committed_count, number_in, page_in}
use Rattle.wal_watch.specs.News.{HoldsFrame, HasSize}
use Rattle.file_view.specs.DatabaseRules.{holds_frame, states_size}

-- one number of a range that passes settles a test
any-among : (p : ℕ → Bool) (n k : ℕ) → k < n → p k ≡ true → list_any p (range_with_len 0 n) ≡ true
any-among p n k within passes =
    let at : get_or (range_with_len 0 n) k 0 ≡ k = get_or-range_with_len 0 n k 0 within ∙ omega arith in
    list_any_at p (range_with_len 0 n) k 0 (rw length-range_with_len within) (rw at passes)

-- and where the test is passed, one does
found-among : (p : ℕ → Bool) (a n : ℕ) → list_any p (range_with_len a n) ≡ true → (k : ℕ) × (k < a + n) × (p k ≡ true)
found-among p a zero h = absurd cc
found-among p a (suc n) h =
    ⊎_elim
    (λ holds. (a, omega arith, holds))
    (λ fails. let rest = found-among p (a + 1) n (rw fails at h) in (rest.0, omega (arith, rest.1), rest.2))
    (cases_Bool (p a))

-- two tests that decide one thing are the same
same-test : {P : Type 0} (a b : Bool) → (IsTrue a ↔ P) → (b ≡ true → P) → (P → b ≡ true) → a ≡ b
same-test true b decides to from = sym (from (decides.0 refl))
same-test false b decides to from =
    ⊎_elim (λ holds. absurd (let t : false ≡ true = decides.1 (to holds) in cc)) (λ fails. sym fails) (cases_Bool b)

pub holds_frame_is : (contents : List ℕ) (page : ℕ) (bytes : List ℕ) (r : Bool) → (IsTrue r ↔ HoldsFrame contents page bytes) → r ≡ holds_frame contents page bytes
holds_frame_is contents page bytes r decides =
    same-test r (holds_frame contents page bytes) decides
    (λ holds. let found = found-among _ 0 (committed_count contents) holds in
    let both = and_parts (number_in contents found.0 == page) (bytes_eq (page_in contents found.0) bytes) found.2 in
    (found.0, record { among = omega (arith, found.1); number = grind (arith, nat_tests, both.0); same = (bytes_eq-Decides _ _).0 both.1 }))
    (λ held. any-among _ (committed_count contents) held.0 held.1.among
    (and_from _ _ (grind (arith, nat_tests, held.1.number)) ((bytes_eq-Decides _ _).1 held.1.same)))

-- what such a test says
pub holds-is : (contents : List ℕ) (page : ℕ) (bytes : List ℕ) → holds_frame contents page bytes ≡ true → HoldsFrame contents page bytes
holds-is contents page bytes holds =
    let found = found-among _ 0 (committed_count contents) holds in
    let both = and_parts (number_in contents found.0 == page) (bytes_eq (page_in contents found.0) bytes) found.2 in
    (found.0, record { among = omega (arith, found.1); number = grind (arith, nat_tests, both.0); same = (bytes_eq-Decides _ _).0 both.1 })

pub states_size_is : (contents : List ℕ) (count : ℕ) (r : Bool) → (IsTrue r ↔ HasSize contents count) → r ≡ states_size contents count
states_size_is contents count r decides =
    same-test r (states_size contents count) decides
    (λ holds. let found = found-among _ 0 (committed_count contents) holds in (found.0, omega (arith, found.1), grind (arith, nat_tests, found.2)))
    (λ held. any-among _ (committed_count contents) held.0 held.1 (grind (arith, nat_tests, held.2)))

-- the frames of a loop over pages
pub all-more : (p : ℕ → Bool) (a n j : ℕ) → list_all p (range_with_len a n) ≡ true → j ≡ a + n → p j ≡ true → list_all p (range_with_len a (n + 1)) ≡ true
all-more p a zero j h is here =
    let e : j ≡ a = omega (arith, is) in
    let f : p a ≡ true = rw e at here in
    rw f refl
all-more p a (suc n) j h is here =
    let parts : (p a ≡ true) × (list_all p (range_with_len (a + 1) n) ≡ true) = and_parts (p a) (list_all p (range_with_len (a + 1) n)) h in
    let k : suc n + 1 ≡ suc (n + 1) = omega arith in
    rw (k, parts.0) (all-more p (a + 1) n j parts.1 (omega (arith, is)) here)

pub all-less : (p : ℕ → Bool) (a n k j : ℕ) → k < n → j ≡ a + k → p j ≡ false → list_all p (range_with_len a n) ≡ false
all-less p a zero k j less is here = absurd (omega (arith, less))
all-less p a (suc n) zero j less is here =
    let e : j ≡ a = omega (arith, is) in
    let f : p a ≡ false = rw e at here in
    rw f refl
all-less p a (suc n) (suc k) j less is here =
    let rest = all-less p (a + 1) n k j (omega (arith, less)) (omega (arith, is)) here in
    elim (cases_Bool (p a)) [
      | inl holds ↦ rw (holds, rest) refl
      | inr fails ↦ rw fails refl
    ]
