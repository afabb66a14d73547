-- A step of which the calls are known.
use Rattle.std.proofs.Common.{◌≡◌, List, Option}
use Rattle.world_laws.specs.Node.{Answer, Ask, NodeState}
use Rattle.world_laws.specs.Step.{StepFacts}
use Rattle.world_laws.specs.Store.{Failure, StoreCall}

-- a step in which these calls were done, and this failed
pub record Made (old new : NodeState) (ask : Ask) (answer : Answer) (did : List StoreCall) (failed : Option Failure) : Type 0 where
  pub facts : StepFacts old ask answer new
  pub did_is : facts.did ≡ did
  pub failed_is : facts.failed ≡ failed
