-- Counts, filters and searches of lists.
use Rattle.std.proofs.Common.{◌≡◌, ℕ, ◌≤◌, Bool, true, false, cond, ◌&&◌, List, [], ◌∷◌, Option, None, Some, map, arith, refl, ap, sym, ◌∙◌, ⊎_elim, subst}
use Rattle.std.specs.Option.{option_map}
use Rattle.std.specs.List.{sum_by, count_by, filter, find, All}
use Rattle.std.proofs.lemmas.Bool.{cases_Bool, cond-true, cond-false}
use Rattle.std.proofs.lemmas.List.Sums.{sum_by-cons}
use Rattle.std.proofs.lemmas.List.Elements.{All-nil, All-cons}

-- a filter leaves no more than there was
pub sum_by-filter_le : {X : Type 0} (f : X → ℕ) (q : X → Bool) (xs : List X) → sum_by f (filter q xs) ≤ sum_by f xs
sum_by-filter_le f q [] = omega arith
sum_by-filter_le f q (x ∷ xs) =
    let rest = sum_by-filter_le f q xs in
    elim (q x) as (λ b. sum_by f (cond b (x ∷ filter q xs) (filter q xs)) ≤ sum_by f (x ∷ xs)) [
      | true ↦ omega (arith, sum_by-cons f x (filter q xs), sum_by-cons f x xs)
      | false ↦ omega (arith, sum_by-cons f x xs)
    ]

-- a sum over a mapped list
pub sum_by-map : {X Y : Type 0} (f : Y → ℕ) (g : X → Y) (xs : List X) → sum_by f (map g xs) ≡ sum_by (λ x. f (g x)) xs
sum_by-map f g [] = refl
sum_by-map f g (x ∷ xs) =
    omega (arith, sum_by-map f g xs, sum_by-cons f (g x) (map g xs), sum_by-cons (λ x. f (g x)) x xs)

-- a sum over a filter takes nothing of what the filter drops
pub sum_by-filter : {X : Type 0} (f : X → ℕ) (q : X → Bool) (xs : List X)
    → sum_by f (filter q xs) ≡ sum_by (λ x. cond (q x) (f x) 0) xs
sum_by-filter f q [] = refl
sum_by-filter f q (x ∷ xs) =
    let rest = sum_by-filter f q xs in
    let whole = sum_by-cons (λ x. cond (q x) (f x) 0) x xs in
    ⊎_elim
    (λ yes. rw (cond-true (q x) (x ∷ filter q xs) (filter q xs) yes) (omega (arith, sum_by-cons f x (filter q xs), cond-true (q x) (f x) 0 yes)))
    (λ no. rw (cond-false (q x) (x ∷ filter q xs) (filter q xs) no) (omega (arith, cond-false (q x) (f x) 0 no)))
    (cases_Bool (q x))

-- a search that found nothing passed over the first element, and found nothing in the rest
find_none-parts : {X : Type 0} (p : X → Bool) (x : X) (xs : List X) → find p (x ∷ xs) ≡ None → (p x ≡ false) × (find p xs ≡ None)
find_none-parts {X} p x xs h =
    ⊎_elim
    (λ yes. let hit : Some x ≡ None = sym (cond-true {A = Option X} (p x) (Some x) (find p xs) yes) ∙ h in cc)
    (λ no. (no, sym (cond-false {A = Option X} (p x) (Some x) (find p xs) no) ∙ h))
    (cases_Bool (p x))

-- where a search finds nothing, nothing passes
pub All-from_find_none : {X : Type 0} (p : X → Bool) (xs : List X) → find p xs ≡ None → All (λ x. p x ≡ false) xs
All-from_find_none p [] h = All-nil (λ x. p x ≡ false)
All-from_find_none p (x ∷ xs) h =
    let parts = find_none-parts p x xs h in
    All-cons (λ x. p x ≡ false) x xs parts.0 (All-from_find_none p xs parts.1)

-- and the count of what passes is 0
pub count_by-from_find_none : {X : Type 0} (p : X → Bool) (xs : List X) → find p xs ≡ None → count_by p xs ≡ 0
count_by-from_find_none p [] h = refl
count_by-from_find_none p (x ∷ xs) h =
    let parts = find_none-parts p x xs h in
    omega (arith, count_by-from_find_none p xs parts.1, sum_by-cons (λ x. cond (p x) 1 0) x xs, cond-false {A = ℕ} (p x) 1 0 parts.0)

-- what a search found passes
pub passes_from_find : {X : Type 0} (p : X → Bool) (xs : List X) (y : X) → find p xs ≡ Some y → p y ≡ true
passes_from_find p [] y h = cc
passes_from_find {X} p (x ∷ xs) y h =
    ⊎_elim
    (λ yes. let hit : Some x ≡ Some y = sym (cond-true {A = Option X} (p x) (Some x) (find p xs) yes) ∙ h in
    let same : x ≡ y = cc in
    subst (λ (z : X). p z ≡ true) same yes)
    (λ no. passes_from_find p xs y (sym (cond-false {A = Option X} (p x) (Some x) (find p xs) no) ∙ h))
    (cases_Bool (p x))

-- sums of functions that agree
pub sum_by-agree : {X : Type 0} (f g : X → ℕ) → ((x : X) → f x ≡ g x) → (xs : List X) → sum_by f xs ≡ sum_by g xs
sum_by-agree f g same [] = refl
sum_by-agree f g same (x ∷ xs) = omega (arith, sum_by-agree f g same xs, same x, sum_by-cons f x xs, sum_by-cons g x xs)

-- a search in a mapped list
pub find-map : {X Y : Type 0} (p : Y → Bool) (f : X → Y) (xs : List X) → find p (map f xs) ≡ option_map f (find (λ x. p (f x)) xs)
find-map p f [] = refl
find-map {X} {Y} p f (x ∷ xs) =
    ⊎_elim
    (λ yes. cond-true (p (f x)) (Some (f x)) (find p (map f xs)) yes
    ∙ sym (ap (option_map f) (cond-true (p (f x)) (Some x) (find (λ z. p (f z)) xs) yes)))
    (λ no. cond-false (p (f x)) (Some (f x)) (find p (map f xs)) no ∙ find-map p f xs
    ∙ sym (ap (option_map f) (cond-false (p (f x)) (Some x) (find (λ z. p (f z)) xs) no)))
    (cases_Bool (p (f x)))

-- a search in a filtered list
pub find-filter : {X : Type 0} (p q : X → Bool) (xs : List X) → find p (filter q xs) ≡ find (λ x. q x && p x) xs
find-filter p q [] = refl
find-filter {X} p q (x ∷ xs) =
    let rest = find-filter p q xs in
    let Goal : Bool → Bool → Type 0 = λ a b. find p (cond a (x ∷ filter q xs) (filter q xs)) ≡ cond (a && b) (Some x) (find (λ z. q z && p z) xs) in
    ⊎_elim
    (λ yes. rw (cond-true (q x) (x ∷ filter q xs) (filter q xs) yes, yes) (ap (cond (p x) (Some x)) rest))
    (λ no. rw (cond-false (q x) (x ∷ filter q xs) (filter q xs) no, no) rest)
    (cases_Bool (q x))
