-- The numbers of the transaction files among names.
use Rattle.std.proofs.Common.{◌≡◌, ◌⊎◌, inl, inr, ℕ, zero, suc, ◌<◌, ◌≤◌, ◌^◌, false, List, [], ◌∷◌, ◌++◌, length, get_or, map, IsSome, refl, sym, ◌∙◌, ap, subst, arith}
use Rattle.std.specs.List.{Contains, All, AllByRecursion, IsDistinct}
use Rattle.std.specs.List.Sorted.{IsPermutation, IsNonDecreasingBy}
use Rattle.std.proofs.lemmas.List.{get_or-map, length-map}
use Rattle.std.proofs.lemmas.List.Sorted.{All-permutation, Contains-permutation}
use Rattle.lf_disk.specs.declared.name.FileName.{FileName}
use Rattle.lf_disk.specs.declared.name.FileName.TheVariants.{Ltx}
use Rattle.lf_disk.specs.Folder.{Folder, same_name}
use Rattle.lf_disk.specs.declared.listing.Numbers.{Numbers}
use Rattle.lf_disk.specs.Listing.{Has, Names, place_of, same_numbers, AreInOrder, AreNarrow, AreOnce, AreListed}
use Rattle.lf_disk.proofs.NamedOnce.{names_of, names_more, distinct_without}

has_old : (es : List Numbers) (e : Numbers) (a b : ℕ) → Has es a b → Has (es ++ e ∷ []) a b
has_old [] e a b has = elim has [ ]
has_old (x ∷ es) e a b (inl is) = inl is
has_old (x ∷ es) e a b (inr has) = inr (has_old es e a b has)

has_new : (es : List Numbers) (e : Numbers) → Has (es ++ e ∷ []) e.min e.max
has_new [] e = inl (refl, refl)
has_new (x ∷ es) e = inr (has_new es e)

has_cases : (es : List Numbers) (e : Numbers) (a b : ℕ) → Has (es ++ e ∷ []) a b → Has es a b ⊎ ((e.min ≡ a) × (e.max ≡ b))
has_cases [] e a b (inl is) = inr is
has_cases [] e a b (inr has) = absurd has
has_cases (x ∷ es) e a b (inl is) = inl (inl is)
has_cases (x ∷ es) e a b (inr has) = elim (has_cases es e a b has) [ inl old ↦ inl (inr old) | inr new ↦ inr new ]

ltx_min : (m n a b : ℕ) → Ltx m n ≡ Ltx a b → m ≡ a
ltx_min m n a b same = cc

ltx_max : (m n a b : ℕ) → Ltx m n ≡ Ltx a b → n ≡ b
ltx_max m n a b same = cc

-- what the loop knows
pub record Among (names left : List FileName) (es : List Numbers) : Type 0 where
  pub sound : (a b : ℕ) → Has es a b → Names names a b
  pub rest : (a b : ℕ) → Names left a b → Names names a b
  pub whole : (a b : ℕ) → Names names a b → Has es a b ⊎ Names left a b
  pub once : IsDistinct same_name names → IsDistinct same_name (names_of es ++ left)
  pub narrow : AreNarrow es

pub pushed : (names left : List FileName) (es : List Numbers) (n : FileName) (e : Numbers) → n ≡ Ltx e.min e.max → e.max < 2 ^ 64 → Among names (n ∷ left) es → Among names left (es ++ e ∷ [])
pushed names left es n e is short so_far = record {
  sound = λ a b has. elim (has_cases es e a b has) [
    | inl old ↦ so_far.sound a b old
    | inr new ↦
        let same : Ltx e.min e.max ≡ Ltx a b = λ i. Ltx (new.0 i) (new.1 i) in
        so_far.rest a b (inl (is ∙ same))
  ];
  rest = λ a b named. so_far.rest a b (inr named);
  whole = λ a b all. elim (so_far.whole a b all) [
    | inl has ↦ inl (has_old es e a b has)
    | inr named ↦ elim named [
      | inl here ↦
          let same : Ltx e.min e.max ≡ Ltx a b = sym is ∙ here in
          let P : ℕ → ℕ → Type 0 = λ x y. Has (es ++ e ∷ []) x y in
          inl (subst (λ (y : ℕ). P a y) (ltx_max e.min e.max a b same) (subst (λ (x : ℕ). P x e.max) (ltx_min e.min e.max a b same) (has_new es e)))
      | inr later ↦ inr later
    ]
  ];
  once = λ distinct.
      let as_name : names_of es ++ n ∷ left ≡ names_of (es ++ e ∷ []) ++ left = ap (λ (x : FileName). names_of es ++ x ∷ left) is ∙ sym (names_more es e left) in
      subst (λ (ns : List FileName). IsDistinct same_name ns) as_name (so_far.once distinct);
  narrow = λ a b has. elim (has_cases es e a b has) [
    | inl old ↦ so_far.narrow a b old
    | inr new ↦ subst (λ (m : ℕ). m < 2 ^ 64) new.1 short
  ];
}

pub passed : (names left : List FileName) (es : List Numbers) (n : FileName) → ((a b : ℕ) → n ≡ Ltx a b → ⊥) → Among names (n ∷ left) es → Among names left es
passed names left es n other so_far = record {
  sound = so_far.sound;
  rest = λ a b named. so_far.rest a b (inr named);
  whole = λ a b all. elim (so_far.whole a b all) [
    | inl has ↦ inl has
    | inr named ↦ elim named [ inl here ↦ absurd (other a b here) | inr later ↦ inr later ]
  ];
  once = λ distinct. distinct_without (names_of es) n left (so_far.once distinct);
  narrow = so_far.narrow;
}

has_get : (es : List Numbers) (k : ℕ) (d : Numbers) → k < length es → Has es (get_or es k d).min (get_or es k d).max
has_get [] k d within = absurd (omega arith)
has_get (e ∷ es) zero d within = inl (refl, refl)
has_get (e ∷ es) (suc k) d within = inr (has_get es k d (omega arith))

-- such numbers stand at a place
pub record Found (es : List Numbers) (a b : ℕ) : Type 0 where
  pub entry : Numbers
  pub there : Contains es entry
  pub min_is : entry.min ≡ a
  pub max_is : entry.max ≡ b

pub found : (es : List Numbers) (a b : ℕ) → Has es a b → Found es a b
found [] a b has = elim has [ ]
found (e ∷ es) a b (inl is) = record { entry = e; there = (0, omega arith, refl); min_is = is.0; max_is = is.1 }
found (e ∷ es) a b (inr has) =
    let at = found es a b has in
    record { entry = at.entry; there = (suc at.there.0, omega (arith, at.there.1), at.there.2); min_is = at.min_is; max_is = at.max_is }

has_found : (es : List Numbers) (a b : ℕ) → Found es a b → Has es a b
has_found es a b at =
    let here : Has es at.entry.min at.entry.max = subst (λ (x : Numbers). Has es x.min x.max) at.there.2 (has_get es at.there.0 at.entry at.there.1) in
    subst (λ (y : ℕ). Has es a y) at.max_is (subst (λ (x : ℕ). Has es x at.entry.max) at.min_is here)

-- in another order there are the same
pub has_moved : (old new : List Numbers) (a b : ℕ) → IsPermutation old new → Has old a b → Has new a b
has_moved old new a b moved has =
    let at = found old a b has in
    has_found new a b (record { entry = at.entry; there = Contains-permutation old new at.entry moved at.there; min_is = at.min_is; max_is = at.max_is })

pub named_moved : (names : List FileName) (old new : List Numbers) (a b : ℕ) → IsPermutation old new → ((x y : ℕ) → Has old x y → Names names x y) → Has new a b → Names names a b
named_moved names old new a b moved sound has =
    let at = found new a b has in
    let every : All (λ (e : Numbers). Names names e.min e.max) new =
    All-permutation (λ (e : Numbers). Names names e.min e.max) old new moved (λ k d within. sound (get_or old k d).min (get_or old k d).max (has_get old k d within)) in
    let here : Names names at.entry.min at.entry.max = subst (λ (x : Numbers). Names names x.min x.max) at.there.2 (every at.there.0 at.entry at.there.1) in
    subst (λ (y : ℕ). Names names a y) at.max_is (subst (λ (x : ℕ). Names names x at.entry.max) at.min_is here)

named_at : (names : List FileName) (a b k : ℕ) → k < length names → get_or names k (Ltx a b) ≡ Ltx a b → Names names a b
named_at [] a b k within is = absurd (omega arith)
named_at (n ∷ names) a b zero within is = inl is
named_at (n ∷ names) a b (suc k) within is = inr (named_at names a b k (omega arith) is)

named_contains : (names : List FileName) (a b : ℕ) → Names names a b → Contains names (Ltx a b)
named_contains [] a b named = elim named [ ]
named_contains (n ∷ names) a b (inl is) = (0, omega arith, is)
named_contains (n ∷ names) a b (inr named) = let at = named_contains names a b named in (suc at.0, omega (arith, at.1), at.2)

pub listed : (names : List FileName) (es : List Numbers) (f : Folder) → ((a b : ℕ) → (Has es a b → Names names a b) × (Names names a b → Has es a b))
    → ((n : FileName) → (Contains names n → IsSome (f n)) × (IsSome (f n) → Contains names n)) → AreInOrder es → AreNarrow es → AreOnce es → AreListed es f
listed names es f entries there order narrow once = record {
  there = λ a b has. (there (Ltx a b)).0 (named_contains names a b ((entries a b).0 has));
  whole = λ a b some. let at = (there (Ltx a b)).1 some in (entries a b).1 (named_at names a b at.0 at.1 at.2);
  order = order;
  narrow = narrow;
  once = once;
}

-- what narrow numbers are in another order are narrow
pub narrow_moved : (old new : List Numbers) → IsPermutation old new → AreNarrow old → AreNarrow new
narrow_moved old new moved narrow a b has =
    let at = found new a b has in
    let every : All (λ (e : Numbers). e.max < 2 ^ 64) new =
    All-permutation (λ (e : Numbers). e.max < 2 ^ 64) old new moved (λ k d within. narrow (get_or old k d).min (get_or old k d).max (has_get old k d within)) in
    let here : at.entry.max < 2 ^ 64 = subst (λ (x : Numbers). x.max < 2 ^ 64) at.there.2 (every at.there.0 at.entry at.there.1) in
    subst (λ (y : ℕ). y < 2 ^ 64) at.max_is here

-- THINGS THAT HAVE SUCH NUMBERS
module _ {E : Type 0} (of : E → Numbers) where
  pub order_back : (es : List E) → AreInOrder (map of es) → IsNonDecreasingBy (λ e. place_of (of e)) es
  order_back es order i j d le within =
      rw (← get_or-map of es i d (of d) (omega (arith, le, within)), ← get_or-map of es j d (of d) within)
      (order i j (of d) le (omega (arith, within, length-map es of)))

  first_order : (x y : Numbers) → place_of x ≤ place_of y → y.max < 2 ^ 64 → x.min ≤ y.min
  first_order x y placed short = omega (arith, placed, short)

  pub order_by_first : (es : List E) → AreInOrder (map of es) → AreNarrow (map of es) → IsNonDecreasingBy (λ e. (of e).min) es
  order_by_first es order narrow i j d le within =
      let more : j < length (map of es) = omega (arith, within, length-map es of) in
      let short : (of (get_or es j d)).max < 2 ^ 64 =
      subst (λ (n : Numbers). n.max < 2 ^ 64) (get_or-map of es j d (of d) within) (narrow _ _ (has_get (map of es) j (of d) more)) in
      first_order (of (get_or es i d)) (of (get_or es j d)) (order_back es order i j d le within) short

  all_back : (n : Numbers) (es : List E) → AllByRecursion (λ (x : Numbers). same_numbers n x ≡ false) (map of es) → AllByRecursion (λ (e : E). same_numbers n (of e) ≡ false) es
  all_back n [] all = tt
  all_back n (e ∷ es) all = (all.0, all_back n es all.1)

  pub once_back : (es : List E) → AreOnce (map of es) → IsDistinct (λ x y. same_numbers (of x) (of y)) es
  unfolding IsDistinct
  once_back [] once = tt
  once_back (e ∷ es) once = (all_back (of e) es once.0, once_back es once.1)
