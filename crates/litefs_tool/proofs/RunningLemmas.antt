-- A program that is run over one dial: the counts of the dialer and of its maker.
use Rattle.std.proofs.Common.{◌≡◌, ◌∙◌, Bool, true, false, ℕ, ◌<◌, Option, Some, None, inl, inr, sym, subst, arith}
use Rattle.std.specs.Prelude.{◌==◌, List, ◌++◌, ◌∷◌, [], MatchBool}
use Rattle.std.proofs.Common.{ap}
use Rattle.std.proofs.lemmas.Bool.{cases_Bool}
use Rattle.std.proofs.lemmas.Bool.Decides.{nat_tests}
use Rattle.lf_base.specs.Dials.{Dial, TellsMore, TellsSame}
use Rattle.lf_base.specs.Faults.{Rose}
use Rattle.node_objects.specs.Making.{NetworkRose, TellsBy}
use Rattle.node_objects.specs.declared.counts.Counts.{Counts}

module _ (counts counts_after : Counts) where
  -- a dialer that had not failed rose
  pub rose_by : (before now : ℕ) → before ≡ 0 → Rose before now → TellsBy NetworkRose now counts counts_after → NetworkRose counts counts_after
  rose_by before now none rose told =
      let some : 0 < now = omega (arith, none, rose.1) in
      let test : (now == 0) ≡ false = grind (arith, nat_tests, some) in
      subst (λ (b : Bool). MatchBool b (counts_after ≡ counts) (NetworkRose counts counts_after)) test told

  -- it rose where its link had failed
  pub told_of_link : (faults mid now : ℕ) → mid ≡ 0 → MatchBool (faults == 0) (now ≡ mid) (Rose mid now) → TellsBy NetworkRose now counts counts_after
      → TellsBy NetworkRose faults counts counts_after
  told_of_link faults mid now none rose told = elim (cases_Bool (faults == 0)) [
    | inl sound ↦
        let same : now ≡ mid = subst (λ (b : Bool). MatchBool b (now ≡ mid) (Rose mid now)) sound rose in
        let still : counts_after ≡ counts = subst (λ (n : ℕ). TellsBy NetworkRose n counts counts_after) (same ∙ none) told in
        subst (λ (b : Bool). MatchBool b (counts_after ≡ counts) (NetworkRose counts counts_after)) (sym sound) still
    | inr failed ↦
        let up : Rose mid now = subst (λ (b : Bool). MatchBool b (now ≡ mid) (Rose mid now)) failed rose in
        subst (λ (b : Bool). MatchBool b (counts_after ≡ counts) (NetworkRose counts counts_after)) (sym failed) (rose_by mid now none up told)
  ]

-- a dial more is told, behind those that stay
pub tells_behind : (P : Dial → Type 0) (a b c : Option (List Dial)) → TellsSame a b → TellsMore P b c → TellsMore P a c
tells_behind P a b None same more = tt
tells_behind P a None (Some now) same more = absurd more
tells_behind P None (Some mid) (Some now) same more = absurd same
tells_behind P (Some old) (Some mid) (Some now) same more = (more.0, more.1, more.2 ∙ ap (λ (dials : List Dial). dials ++ more.0 ∷ []) same)
