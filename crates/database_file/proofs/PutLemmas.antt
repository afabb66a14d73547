-- Pages that are put one after another.
use Rattle.std.proofs.Common.{◌≡◌, ◌≢◌, ℕ, ◌+◌, List, Bool, true, false, inl, inr, Some, None, refl, ap, ◌∙◌, arith, rules}
use Rattle.std.specs.Prelude.{if◌then◌else◌}
use Rattle.std.specs.List.{slice_get}
use Rattle.std.proofs.lemmas.Bool.{cases_lt}
use Rattle.std.specs.FinMap as pages
use Rattle.std.specs.FinMap.{gets}
use Rattle.database_file.specs.Writing.{page_in}
use Rattle.database_file.specs.WritingParts.{Pages, ArePut}

-- what a map has after a page was taken out or put in
pub get-removed : (m : Pages) (n : ℕ) → pages.get (pages.remove m n) n ≡ None
get-removed m n = grind (gets, rules)

pub get-removed_other : (m : Pages) (n k : ℕ) → k ≢ n → pages.get (pages.remove m n) k ≡ pages.get m k
get-removed_other m n k ne = grind (gets, rules)

pub get-inserted : (m : Pages) (n : ℕ) (page : List ℕ) → pages.get (pages.insert m n page) n ≡ Some page
get-inserted m n page = grind (gets, rules)

pub get-inserted_other : (m : Pages) (n k : ℕ) (page : List ℕ) → k ≢ n → pages.get (pages.insert m n page) k ≡ pages.get m k
get-inserted_other m n k page ne = grind (gets, rules)

-- no page is put yet
pub put-none : (m : Pages) (first : ℕ) (bytes : List ℕ) (size : ℕ) (same : List Bool) → ArePut m first bytes size 0 same m
put-none m first bytes size same = record {
  before = λ n h. refl;
  within = λ k b h e. absurd (omega (arith, h));
  behind = λ n h. refl;
}

-- one page more
pub put-dropped : (old m : Pages) (first : ℕ) (bytes : List ℕ) (size at : ℕ) (same : List Bool) → slice_get same at ≡ Some true →
    ArePut old first bytes size at same m → ArePut old first bytes size (at + 1) same (pages.remove m (first + at))
put-dropped old m first bytes size at same is put = record {
  before = λ n h. get-removed_other m (first + at) n (λ e. omega (arith, h, e)) ∙ put.before n h;
  within = λ k b h e. elim (cases_lt k at) [
    | inl low ↦ get-removed_other m (first + at) (first + k) (λ same_number. omega (arith, low, same_number)) ∙ put.within k b low e
    | inr high ↦
        let here : k ≡ at = omega (arith, h, high) in
        let dropped : b ≡ true = let found = ap (slice_get same) here in cc (found, is, e) in
        rw (here, dropped) (get-removed m (first + at))
  ];
  behind = λ n h. get-removed_other m (first + at) n (λ e. omega (arith, h, e)) ∙ put.behind n (omega (arith, h));
}

pub put-kept : (old m : Pages) (first : ℕ) (bytes : List ℕ) (size at : ℕ) (same : List Bool) → slice_get same at ≡ Some false →
    ArePut old first bytes size at same m → ArePut old first bytes size (at + 1) same (pages.insert m (first + at) (page_in bytes size at))
put-kept old m first bytes size at same is put = record {
  before = λ n h. get-inserted_other m (first + at) n _ (λ e. omega (arith, h, e)) ∙ put.before n h;
  within = λ k b h e. elim (cases_lt k at) [
    | inl low ↦ get-inserted_other m (first + at) (first + k) _ (λ same_number. omega (arith, low, same_number)) ∙ put.within k b low e
    | inr high ↦
        let here : k ≡ at = omega (arith, h, high) in
        let dropped : b ≡ false = let found = ap (slice_get same) here in cc (found, is, e) in
        rw (here, dropped) (get-inserted m (first + at) (page_in bytes size at))
  ];
  behind = λ n h. get-inserted_other m (first + at) n _ (λ e. omega (arith, h, e)) ∙ put.behind n (omega (arith, h));
}

pub put-more : (old m new : Pages) (first : ℕ) (bytes page : List ℕ) (size at : ℕ) (same : List Bool) (b : Bool) → slice_get same at ≡ Some b →
    page ≡ page_in bytes size at → new ≡ (if b then pages.remove m (first + at) else pages.insert m (first + at) page) →
    ArePut old first bytes size at same m → ArePut old first bytes size (at + 1) same new
put-more old m new first bytes page size at same true is own e put = rw e (put-dropped old m first bytes size at same is put)
put-more old m new first bytes page size at same false is own e put = rw (e, own) (put-kept old m first bytes size at same is put)
