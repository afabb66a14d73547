-- Which node commits in which term, and where its last commit led.
use Rattle.std.proofs.Common.{◌≡◌, ◌≢◌, ℕ, ◌-◌, ◌≤◌, eqb, true, false, List, [], ◌∷◌, ◌++◌, length, Option, Some, None, IfSome, inl, inr, refl, sym, subst, ◌∙◌, arith}
use Rattle.std.specs.List.{All, Contains}
use Rattle.std.proofs.lemmas.List.Elements.{All-cons, All-contains}
use Rattle.std.proofs.lemmas.Bool.{cases_eq}
use Rattle.std.proofs.lemmas.Bool.Decides.{nat_tests}
use Rattle.lf_base.specs.declared.pos.Pos.{Pos}
use Rattle.ltx_codec.specs.declared.file.Ltx.{Ltx}
use Rattle.ltx_codec.specs.Positions.{after}
use Rattle.world_laws.specs.Premises.{CommitsAsHolder}
use Rattle.world_laws.specs.Safe.{IsAtTip, IsOfHolder}
use Rattle.world_laws.specs.Store.{Apply, CanDo, CanDoAll, Commit, DropAll, Install, PruneTo, StoreCall, StoreState, all_done, at, done, dropped_store, with_file}
use Rattle.world_laws.specs.Terms.{AreInLine, holder_of, tip}
use Rattle.world_laws.specs.World.{Act, Committed, Departed, World, acts_along, acts_by}
use Rattle.world_laws.proofs.Scenes.{node}
use Rattle.world_laws.proofs.Stores.{end_of-pruned, end_of-push}

pub same_test : (n : ℕ) → eqb n n ≡ true
same_test n = grind (arith, nat_tests)

pub other_test : (n m : ℕ) → n ≢ m → eqb n m ≡ false
other_test n m other = grind (arith, nat_tests)

holder-within : (granted : List ℕ) (term k : ℕ) → holder_of granted term ≡ Some k → term ≤ length granted
holder-within [] term k is = cc
holder-within (j ∷ js) term k is = elim (cases_eq term (length (j ∷ js))) [
  | inl same ↦ omega arith
  | inr other ↦
      let rest : holder_of js term ≡ Some k = rw (other_test term (length (j ∷ js)) other) at is in
      let within : term ≤ length js = holder-within js term k rest in
      omega arith
]

pub holder-more : (granted : List ℕ) (n term k : ℕ) → holder_of granted term ≡ Some k → holder_of (n ∷ granted) term ≡ Some k
holder-more granted n term k is =
    let within : term ≤ length granted = holder-within granted term k is in
    let other : eqb term (length (n ∷ granted)) ≡ false = other_test term (length (n ∷ granted)) (λ same. omega arith) in
    rw other is

pub holder-new : (granted : List ℕ) (k : ℕ) → holder_of (k ∷ granted) (length (k ∷ granted)) ≡ Some k
holder-new granted k = rw (same_test (length (k ∷ granted)))

pub InLine-more : (granted : List ℕ) (n : ℕ) (acts : List Act) → AreInLine granted acts → AreInLine (n ∷ granted) acts
InLine-more granted n [] line = tt
InLine-more granted n (Committed term node file ∷ acts) line = (holder-more granted n term node line.0, line.1, InLine-more granted n acts line.2)
InLine-more granted n (Departed node ∷ acts) line = InLine-more granted n acts line

tip-commit : (k term : ℕ) (file : Ltx) (acts : List Act) → tip k (Committed term k file ∷ acts) ≡ Some (after file)
tip-commit k term file acts = rw (same_test k)

tip-departed : (k : ℕ) (acts : List Act) → tip k (Departed k ∷ acts) ≡ None
tip-departed k acts = rw (same_test k)

tip-other : (j k term : ℕ) (call : StoreCall) (acts : List Act) → k ≢ j → tip j (acts_by term k call acts) ≡ tip j acts
tip-other j k term (Commit file) acts other = rw (other_test k j other)
tip-other j k term (Apply file) acts other = rw (other_test k j other)
tip-other j k term (Install file) acts other = rw (other_test k j other)
tip-other j k term (PruneTo keep) acts other = refl
tip-other j k term DropAll acts other = rw (other_test k j other)

pub tip-other_along : (j k term : ℕ) (calls : List StoreCall) (acts : List Act) → k ≢ j → tip j (acts_along term k calls acts) ≡ tip j acts
tip-other_along j k term [] acts other = refl
tip-other_along j k term (call ∷ calls) acts other = tip-other_along j k term calls (acts_by term k call acts) other ∙ tip-other j k term call acts other

pub tip-other_one : (j k term : ℕ) (call : StoreCall) (acts : List Act) → k ≢ j → tip j (acts_by term k call acts) ≡ tip j acts
tip-other_one = tip-other

pub AtTip-done : (k term : ℕ) (acts : List Act) (store : StoreState) (call : StoreCall) → IsAtTip (tip k acts) (at store) → CanDo store call →
    IsAtTip (tip k (acts_by term k call acts)) (at (done store call))
AtTip-done k term acts store (Commit file) last can =
    subst (λ (o : Option Pos). IsAtTip o (at (with_file store file))) (sym (tip-commit k term file acts)) (end_of-push store.log file)
AtTip-done k term acts store (Apply file) last can = subst (λ (o : Option Pos). IsAtTip o (at (with_file store file))) (sym (tip-departed k acts)) tt
AtTip-done k term acts store (Install file) last can = subst (λ (o : Option Pos). IsAtTip o (at (done store (Install file)))) (sym (tip-departed k acts)) tt
AtTip-done k term acts store (PruneTo keep) last can =
    subst (λ (p : Pos). IsAtTip (tip k acts) p) (sym (end_of-pruned (length store.log - keep) keep store.log can (omega arith))) last
AtTip-done k term acts store DropAll last can = subst (λ (o : Option Pos). IsAtTip o (at dropped_store)) (sym (tip-departed k acts)) tt

pub InLine-done : (granted : List ℕ) (k term : ℕ) (acts : List Act) (store : StoreState) (call : StoreCall) → IsAtTip (tip k acts) (at store) → CanDo store call →
    IsOfHolder granted term k call → AreInLine granted acts → AreInLine granted (acts_by term k call acts)
InLine-done granted k term acts store (Commit file) last can led line = (led, subst (λ (p : Pos). IsAtTip (tip k acts) p) (sym can.1.next) last, line)
InLine-done granted k term acts store (Apply file) last can led line = line
InLine-done granted k term acts store (Install file) last can led line = line
InLine-done granted k term acts store (PruneTo keep) last can led line = line
InLine-done granted k term acts store DropAll last can led line = line

abbrev pub AllLed : List ℕ → ℕ → ℕ → List StoreCall → Type 0
AllLed granted term k [] = Unit {0}
AllLed granted term k (call ∷ calls) = IsOfHolder granted term k call × AllLed granted term k calls

pub AllLed-split : (granted : List ℕ) (term k : ℕ) (front rest : List StoreCall) → AllLed granted term k (front ++ rest) → AllLed granted term k front × AllLed granted term k rest
AllLed-split granted term k [] rest led = (tt, led)
AllLed-split granted term k (call ∷ calls) rest led =
    let more = AllLed-split granted term k calls rest led.1 in
    ((led.0, more.0), more.1)

AllLed-each : (granted : List ℕ) (term k : ℕ) (calls : List StoreCall) → AllLed granted term k calls → All (IsOfHolder granted term k) calls
AllLed-each granted term k [] led = λ i d within. absurd (omega arith)
AllLed-each granted term k (call ∷ calls) led = All-cons (IsOfHolder granted term k) call calls led.0 (AllLed-each granted term k calls led.1)

-- who makes a committing call of these was granted the term
pub AllLed-commit : (granted : List ℕ) (term k : ℕ) (calls : List StoreCall) (file : Ltx) → AllLed granted term k calls → Contains calls (Commit file) → holder_of granted term ≡ Some k
AllLed-commit granted term k calls file led here = All-contains (IsOfHolder granted term k) calls (Commit file) (AllLed-each granted term k calls led) here

pub Holds-led : (w : World) (k : ℕ) (calls : List StoreCall) → IfSome w.holder (λ j. holder_of w.granted (length w.granted) ≡ Some j) → CommitsAsHolder w k calls →
    AllLed w.granted (length w.granted) k calls
Holds-led w k [] holder leads = tt
Holds-led w k (Commit file ∷ calls) holder leads =
    (subst (λ (o : Option ℕ). IfSome o (λ j. holder_of w.granted (length w.granted) ≡ Some j)) leads.0 holder, Holds-led w k calls holder leads.1)
Holds-led w k (Apply file ∷ calls) holder leads = (tt, Holds-led w k calls holder leads)
Holds-led w k (Install file ∷ calls) holder leads = (tt, Holds-led w k calls holder leads)
Holds-led w k (PruneTo keep ∷ calls) holder leads = (tt, Holds-led w k calls holder leads)
Holds-led w k (DropAll ∷ calls) holder leads = (tt, Holds-led w k calls holder leads)

pub AtTip-along : (k term : ℕ) (acts : List Act) (store : StoreState) (calls : List StoreCall) → IsAtTip (tip k acts) (at store) → CanDoAll store calls →
    IsAtTip (tip k (acts_along term k calls acts)) (at (all_done store calls))
AtTip-along k term acts store [] last can = last
AtTip-along k term acts store (call ∷ calls) last can =
    AtTip-along k term (acts_by term k call acts) (done store call) calls (AtTip-done k term acts store call last can.0) can.1

pub InLine-along : (granted : List ℕ) (k term : ℕ) (acts : List Act) (store : StoreState) (calls : List StoreCall) → IsAtTip (tip k acts) (at store) → CanDoAll store calls →
    AllLed granted term k calls → AreInLine granted acts → AreInLine granted (acts_along term k calls acts)
InLine-along granted k term acts store [] last can led line = line
InLine-along granted k term acts store (call ∷ calls) last can led line =
    InLine-along granted k term (acts_by term k call acts) (done store call) calls (AtTip-done k term acts store call last can.0) can.1 led.1
    (InLine-done granted k term acts store call last can.0 led.0 line)
