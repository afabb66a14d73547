-- The numbers of the pages that are kept for a commit.
use Rattle.std.proofs.Common.{◌≡◌, ◌≢◌, ℕ, ◌||◌, List, [], ◌∷◌, ◌++◌, Bool, true, false, inl, inr, ◌⊎◌, Option, Some, None, refl, sym, ap, ◌∙◌, if◌then◌else◌}
use Rattle.std.specs.Prelude.{◌==◌, is_some, Result, Ok, Err, OnOk, OnErr}
use Rattle.database_file.specs.DatabaseFile.{DatabaseFile}
use Rattle.std.specs.FinMap as pages
use Rattle.std.specs.FinMap.{same_map, nat_cmp-IsAntisymmetric}
use Rattle.std.specs.Cmp.{nat_cmp_total}
use Rattle.std.proofs.lemmas.Bool.{cases_eq, cases_Bool, cond-true, cond-false, eq-eqb, eqb-true}
use Rattle.std.proofs.lemmas.List.Folds.{list_any-append}
use Rattle.database_file.specs.WritingParts.{Pages}
use Rattle.database_file.proofs.PutLemmas.{get-removed, get-removed_other, get-inserted_other}
use Rattle.database_under_log.specs.Staying.{without}
use Rattle.database_under_log.specs.HoldingParts.{among, IsBack}

or-true : (a b : Bool) → (a || b) ≡ true → (a ≡ true) ⊎ (b ≡ true)
or-true true b h = inl refl
or-true false b h = inr h

pub or-false : (a b : Bool) → (a || b) ≡ false → (a ≡ false) × (b ≡ false)
or-false true b h = absurd cc
or-false false b h = (refl, h)

-- one number more
pub among-more : (ns : List ℕ) (k n : ℕ) → among (ns ++ k ∷ []) n ≡ true → (among ns n ≡ true) ⊎ (n ≡ k)
among-more ns k n on = elim (or-true (among ns n) (among (k ∷ []) n) (sym (list_any-append (λ j. n == j) ns (k ∷ [])) ∙ on)) [
  | inl before ↦ inl before
  | inr here ↦ elim (or-true (n == k) false here) [ inl own ↦ inr (eqb-true n k own) | inr never ↦ absurd cc ]
]

pub not-more : (ns : List ℕ) (k n : ℕ) → among (ns ++ k ∷ []) n ≡ false → (among ns n ≡ false) × (n ≢ k)
not-more ns k n off =
    let parts = or-false (among ns n) (among (k ∷ []) n) (sym (list_any-append (λ j. n == j) ns (k ∷ [])) ∙ off) in
    let own = or-false (n == k) false parts.1 in
    (parts.0, λ is. let on = eq-eqb n k is in cc (on, own.0))

pub among-end : (ns : List ℕ) (n : ℕ) → among (ns ++ n ∷ []) n ≡ true
among-end ns n = elim (cases_Bool (among (ns ++ n ∷ []) n)) [ inl on ↦ on | inr off ↦ absurd ((not-more ns n n off).1 refl) ]

one-more : (own more : Bool) (removed stood : Option (List ℕ)) → (own ≡ true → removed ≡ None) → (own ≡ false → removed ≡ stood) →
    (if more then None else removed) ≡ (if own || more then None else stood)
one-more true true removed stood a b = refl
one-more true false removed stood a b = a refl
one-more false true removed stood a b = refl
one-more false false removed stood a b = b refl

-- what stands at a number once some were let go
pub get-without : (m : Pages) (ns : List ℕ) (n : ℕ) → pages.get (without m ns) n ≡ (if among ns n then None else pages.get m n)
get-without m [] n = refl
get-without m (k ∷ ks) n = get-without (pages.remove m k) ks n ∙ (elim (cases_eq n k) [
  | inl here ↦ one-more (n == k) (among ks n) (pages.get (pages.remove m k) n) (pages.get m n)
      (λ on. ap (λ (q : ℕ). pages.get (pages.remove m k) q) here ∙ get-removed m k)
      (λ off. absurd (let on = eq-eqb n k here in cc (on, off)))
  | inr other ↦ one-more (n == k) (among ks n) (pages.get (pages.remove m k) n) (pages.get m n)
      (λ on. absurd (other (eqb-true n k on)))
      (λ off. get-removed_other m k n other)
])

pub get-in : (m : Pages) (ns : List ℕ) (n : ℕ) → among ns n ≡ true → pages.get (without m ns) n ≡ None
get-in m ns n on = get-without m ns n ∙ cond-true (among ns n) None (pages.get m n) on

pub get-off : (m : Pages) (ns : List ℕ) (n : ℕ) → among ns n ≡ false → pages.get (without m ns) n ≡ pages.get m n
get-off m ns n off = get-without m ns n ∙ cond-false (among ns n) None (pages.get m n) off

-- what was added can be let go
pub back-is : (before after : Pages) (added : List ℕ) → IsBack before after added → without after added ≡ before
back-is before after added back = same_map nat_cmp_total nat_cmp-IsAntisymmetric (without after added) before
    (λ n. elim (cases_Bool (among added n)) [
      | inl on ↦ get-in after added n on ∙ sym (back.fresh n on)
      | inr off ↦ get-off after added n off ∙ back.others n off
    ])

pub back-none : (m : Pages) → IsBack m m []
back-none m = record { others = λ n off. refl; fresh = λ n on. absurd cc }

pub not-some : (o : Option (List ℕ)) → is_some o ≡ false → o ≡ None
not-some None h = refl
not-some (Some page) h = absurd cc

-- a page that was not kept is noted, whether or not it is then kept
pub back-noted : (before after : Pages) (added : List ℕ) (n : ℕ) → IsBack before after added → pages.get after n ≡ None → IsBack before after (added ++ n ∷ [])
back-noted before after added n back none = record {
  others = λ k off. back.others k (not-more added n k off).0;
  fresh = λ k on. elim (cases_Bool (among added k)) [
    | inl was ↦ back.fresh k was
    | inr new ↦ elim (among-more added n k on) [
      | inl was ↦ absurd cc
      | inr here ↦ sym (back.others k new) ∙ ap (λ (q : ℕ). pages.get after q) here ∙ none
    ]
  ];
}

pub back-kept : (before after : Pages) (added : List ℕ) (n : ℕ) (page : List ℕ) → IsBack before after added → pages.get after n ≡ None →
    IsBack before (pages.insert after n page) (added ++ n ∷ [])
back-kept before after added n page back none =
    let noted = back-noted before after added n back none in
    record {
      others = λ k off. get-inserted_other after n k page (not-more added n k off).1 ∙ noted.others k off;
      fresh = noted.fresh;
    }

pub back-tried : {X Y : Type 0} (r : Result X Y) (before : Pages) (old new : DatabaseFile) (added items : List ℕ) (n : ℕ) (page : List ℕ) →
    OnOk r (new ≡ record old { kept = pages.insert old.kept n page }) → OnErr r (new ≡ old) → items ≡ added ++ n ∷ [] → pages.get old.kept n ≡ None →
    IsBack before old.kept added → IsBack before new.kept items
back-tried (Ok x) before old new added items n page ok err is none back = rw (ok, is) (back-kept before old.kept added n page back none)
back-tried (Err y) before old new added items n page ok err is none back = rw (err, is) (back-noted before old.kept added n back none)
