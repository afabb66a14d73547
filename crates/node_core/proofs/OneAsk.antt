-- What a step tells as an ask of the laws, it tells as the same ask.
use Rattle.std.proofs.Common.{◌≡◌, sym, subst}
use Rattle.lf_disk.specs.History.{History}
use Rattle.world_laws.specs.Node as laws
use Rattle.world_laws.specs.Node.{NodeState}
use Rattle.world_laws.specs.Step.{KeepsRole}
use Rattle.node_core.specs.Safely.{StepsSafely}

module _ {old new : NodeState} {answer : laws.Answer} {start end : History} {told law : laws.Ask} (same : law ≡ told) (safe : StepsSafely old told answer new start end) where
  pub told-as : StepsSafely old law answer new start end
  told-as = subst (λ (a : laws.Ask). StepsSafely old a answer new start end) (sym same) safe

  -- in the role that the node has afterwards, where that ask leaves it
  pub role-as : ((r : laws.Role) → KeepsRole told r new.role → r ≡ new.role) → told-as.facts.role ≡ new.role
  role-as keeps = keeps told-as.facts.role (subst (λ (a : laws.Ask). KeepsRole a told-as.facts.role new.role) same told-as.facts.role_is)
