-- A law of write permits: while one is out, no step of the node that gave it out commits anything but what comes under it.
use Rattle.std.specs.Prelude.{◌≡◌, ℕ, IsTrue, IsSome, List, All, Option, Some}
use Rattle.halt_forward.specs.declared.halt_pass.HaltPass.{HaltPass}
use Rattle.world_laws.specs.Node as laws
use Rattle.world_laws.specs.Store.{PruneTo, StoreCall}
use Rattle.node_core.specs.declared.answer.Answer.{Answer}
use Rattle.node_core.specs.declared.ask.Ask.{Ask}
use Rattle.node_core.specs.declared.ask.Ask.TheVariants as asks
use Rattle.node_core.specs.Nodes.{NodeParts}
use Rattle.node_core.specs.Roles.{permit_out}
use Rattle.node_core.specs.Safely.{IsAskOf}
use Rattle.node_core.specs.Steps.{at_ask}

-- a call that leaves the image and the position
abbrev pub IsPrune : StoreCall → Type 0
IsPrune (PruneTo keep) = Unit {0}
IsPrune call = ⊥

-- a transaction comes under this permit
abbrev pub IsUnder : Option HaltPass → Ask → Type 0
IsUnder (Some pass) (asks.Forward now number bytes) = number ≡ pass.number
IsUnder out ask = ⊥

module _ {M : Type 0} (steps : M → ℕ → Ask → Answer → M → Type 0) (parts : M → NodeParts)
    (calls : (old new : M) (caller : ℕ) (ask : Ask) (answer : Answer) → steps old caller ask answer new → IsTrue (parts old).store.honest →
    (law : laws.Ask) → IsAskOf ask law → List StoreCall) where
  -- whatever else the node is asked while it has a permit out at the moment of the ask
  abbrev pub PermitIsAlone : Type 0
  PermitIsAlone = (old new : M) (caller : ℕ) (ask : Ask) (answer : Answer) (step : steps old caller ask answer new)
      (disk : IsTrue (parts old).store.honest) (law : laws.Ask) (is : IsAskOf ask law) →
      IsSome (permit_out (at_ask (parts old) ask).standing) → (IsUnder (permit_out (at_ask (parts old) ask).standing) ask → ⊥) → All IsPrune (calls old new caller ask answer step disk law is)
