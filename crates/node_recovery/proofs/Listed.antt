-- What a list of names says of the log.
use Rattle.std.proofs.Common.{◌≡◌, inl, inr, ℕ, Bool, true, cond, eqb-true, eq-eqb, Option, Some, None, IsSome, List, [], ◌∷◌, refl, sym, ◌∙◌, ap, subst}
use Rattle.std.specs.Prelude.{◌==◌, ◌&&◌}
use Rattle.std.proofs.lemmas.Bool.{cases_Bool, and_parts, and_from, false≢true}
use Rattle.lf_disk.specs.declared.name.FileName.TheVariants.{Ltx}
use Rattle.lf_disk.specs.Folder.{Folder, bytes_of, with_file}
use Rattle.txn_log.specs.declared.entry.Entry.{Entry}
use Rattle.txn_log.specs.Kept.{encoding_of}
use Rattle.txn_log.specs.Settling.{without, HasNoOthers}
use Rattle.txn_log.specs.Store.{files_in}
use Rattle.txn_log.proofs.Naming.{without-none}
use Rattle.txn_log.proofs.Stores.{encoding_from}
use Rattle.txn_log.proofs.Puttings.{cases_option}
use Rattle.node_recovery.specs.Listing.{AreListed}
use Rattle.node_recovery.proofs.Listings.{Has}

module _ (f : Folder) (a b : ℕ) where
  matches : (e : Entry) → (a == e.min && b == e.max) ≡ true → (e.min ≡ a) × (e.max ≡ b)
  matches e is = let both = and_parts (a == e.min) (b == e.max) is in (sym (eqb-true a e.min both.0), sym (eqb-true b e.max both.1))

  none_there : (found : Option (List ℕ)) (es : List Entry) → (Has es a b → ⊥) → encoding_from found (files_in es f) a b ≡ found
  none_there found [] isnt = refl
  none_there found (e ∷ es) isnt = elim (cases_Bool (a == e.min && b == e.max)) [
    | inl is ↦ absurd (isnt (inl (matches e is)))
    | inr not ↦
        ap (λ (x : Bool). encoding_from (cond x (Some (bytes_of (f (Ltx e.min e.max)))) found) (files_in es f) a b) not
        ∙ none_there found es (λ has. isnt (inr has))
  ]

  its : (e : Entry) → (e.min ≡ a) × (e.max ≡ b) → bytes_of (f (Ltx e.min e.max)) ≡ bytes_of (f (Ltx a b))
  its e is = λ i. bytes_of (f (Ltx (is.0 i) (is.1 i)))

  keeps : (es : List Entry) → encoding_from (Some (bytes_of (f (Ltx a b)))) (files_in es f) a b ≡ Some (bytes_of (f (Ltx a b)))
  keeps [] = refl
  keeps (e ∷ es) = elim (cases_Bool (a == e.min && b == e.max)) [
    | inl is ↦
        ap (λ (x : Bool). encoding_from (cond x (Some (bytes_of (f (Ltx e.min e.max)))) (Some (bytes_of (f (Ltx a b))))) (files_in es f) a b) is
        ∙ ap (λ (t : List ℕ). encoding_from (Some t) (files_in es f) a b) (its e (matches e is)) ∙ keeps es
    | inr not ↦
        ap (λ (x : Bool). encoding_from (cond x (Some (bytes_of (f (Ltx e.min e.max)))) (Some (bytes_of (f (Ltx a b))))) (files_in es f) a b) not ∙ keeps es
  ]

  some_there : (found : Option (List ℕ)) (es : List Entry) → Has es a b → encoding_from found (files_in es f) a b ≡ Some (bytes_of (f (Ltx a b)))
  some_there found [] has = elim has [ ]
  some_there found (e ∷ es) (inl is) =
      let test : (a == e.min && b == e.max) ≡ true = and_from (a == e.min) (b == e.max) (eq-eqb a e.min (sym is.0)) (eq-eqb b e.max (sym is.1)) in
      ap (λ (x : Bool). encoding_from (cond x (Some (bytes_of (f (Ltx e.min e.max)))) found) (files_in es f) a b) test
      ∙ ap (λ (t : List ℕ). encoding_from (Some t) (files_in es f) a b) (its e is) ∙ keeps es
  some_there found (e ∷ es) (inr has) = some_there (cond (a == e.min && b == e.max) (Some (bytes_of (f (Ltx e.min e.max)))) found) es has

pub log_listed : (es : List Entry) (f : Folder) → AreListed es f → (a b : ℕ) → f (Ltx a b) ≡ encoding_of (files_in es f) a b
log_listed es f listed a b = elim (cases_option (f (Ltx a b))) [
  | inl none ↦
      none ∙ sym (none_there f a b None es (λ has. let some : IsSome (f (Ltx a b)) = listed.there a b has in let here : IsSome {T = List ℕ} None = subst (λ (o : Option (List ℕ)). IsSome o) none some in absurd (false≢true here)))
  | inr some ↦
      let there : IsSome (f (Ltx a b)) = subst (λ (o : Option (List ℕ)). IsSome o) (sym some.1) refl in
      some.1 ∙ ap (λ (o : Option (List ℕ)). Some (bytes_of o)) (sym some.1) ∙ sym (some_there f a b None es (listed.whole a b there))
]

-- no transaction file is there but those that are listed
unlisted : (es : List Entry) (f : Folder) (a b : ℕ) → (IsSome (f (Ltx a b)) → Has es a b) → without es f (Ltx a b) ≡ None
unlisted [] f a b has = elim (cases_option (f (Ltx a b))) [
  | inl none ↦ none
  | inr some ↦ absurd (let no : Has [] a b = has (subst (λ (o : Option (List ℕ)). IsSome o) (sym some.1) refl) in no)
]
unlisted (e ∷ es) f a b has = elim (cases_Bool (a == e.min && b == e.max)) [
  | inl is ↦ without-none es (with_file (Ltx e.min e.max) None f) a b (ap (λ (x : Bool). cond x None (f (Ltx a b))) is)
  | inr isnt ↦
      let same : with_file (Ltx e.min e.max) None f (Ltx a b) ≡ f (Ltx a b) = ap (λ (x : Bool). cond x None (f (Ltx a b))) isnt in
      unlisted es (with_file (Ltx e.min e.max) None f) a b
      (λ some. elim (has (subst (λ (o : Option (List ℕ)). IsSome o) same some)) [
        | inl here ↦
            let test : (a == e.min && b == e.max) ≡ true = and_from (a == e.min) (b == e.max) (eq-eqb a e.min (sym here.0)) (eq-eqb b e.max (sym here.1)) in
            absurd (false≢true (sym isnt ∙ test))
        | inr later ↦ later
      ])
]

pub no_others_listed : (es : List Entry) (f : Folder) → AreListed es f → HasNoOthers es f
no_others_listed es f listed a b = unlisted es f a b (listed.whole a b)
