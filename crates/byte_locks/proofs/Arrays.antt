-- What `map` of an array gives, where its closure computes a test.
use Rattle.std.proofs.Common.{◌≡◌, ℕ, zero, suc, ◌+◌, ◌<◌, ◌≤◌, List, length, map, get_or, arith, subst, sym, ◌∙◌, ⊎_elim}
use Rattle.std.specs.Fn.{Called}
use Rattle.std.specs.Array.{MapsFrom, IsMapOf}
use Rattle.std.proofs.lemmas.Bool.{cases_eq}
use Rattle.std.proofs.lemmas.List.{same_lists, get_or-map, length-map}
use denote.Param.Members.{Mut}

-- each of the n elements from i on is the test of its source
element_from_calls : {F A B : Type 0} (g : Mut F (A × Unit {0}) B) (f : F) (test : A → B)
    → ((x : A) (b : B) (q : F) → Called g f (x, tt) b q → (q ≡ f) × (b ≡ test x))
    → (xs : List A) (ys : List B) (n i k : ℕ) (d : A) (e : B)
    → MapsFrom g f xs ys i n → i ≤ k → k < i + n → get_or ys k e ≡ test (get_or xs k d)
element_from_calls g f test says xs ys zero i k d e h low high = absurd (omega arith)
element_from_calls {F} g f test says xs ys (suc n) i k d e h low high =
    let said = says h.1 h.2 h.0 h.5 in
    let Rest : F → Type 0 = λ q. MapsFrom g q xs ys (i + 1) n in
    let here : k ≡ i → get_or ys k e ≡ test (get_or xs k d) = λ at. rw (at, h.4.1 e, h.3.1 d) said.1 in
    let later : (k ≡ i → ⊥) → get_or ys k e ≡ test (get_or xs k d) =
    λ past. element_from_calls g f test says xs ys n (i + 1) k d e (subst Rest said.0 h.6) (omega (arith, past)) (omega arith) in
    ⊎_elim here later (cases_eq k i)

-- the whole array is the map of its source
pub map_from_calls : {F A B : Type 0} (g : Mut F (A × Unit {0}) B) (f : F) (test : A → B) (d : A)
    → ((x : A) (b : B) (q : F) → Called g f (x, tt) b q → (q ≡ f) × (b ≡ test x))
    → (xs : List A) (ys : List B) (n : ℕ) → length xs ≡ n → IsMapOf g f xs ys n → ys ≡ map test xs
map_from_calls {F} {A} {B} g f test d says xs ys n long h =
    let same : (k : ℕ) (e : B) → k < length (map test xs) → get_or (map test xs) k e ≡ get_or ys k e =
    λ k e below.
    let within : k < length xs = omega (arith, length-map xs test) in
    get_or-map test xs k d e within
    ∙ sym (element_from_calls g f test says xs ys n 0 k d e h.each (omega arith) (omega arith)) in
    sym (same_lists (map test xs) ys (length-map xs test ∙ long ∙ sym h.long) same)
