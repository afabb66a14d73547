-- A law of roles: a step that makes a committing call, whether or not it fails, is of a node that was primary before it
-- and is primary after it.
use Rattle.std.specs.Prelude.{◌≡◌, Contains}
use Rattle.ltx_codec.specs.declared.file.Ltx.{Ltx}
use Rattle.world_laws.specs.Node.{Answer, Ask, NodeState, Primary}
use Rattle.world_laws.specs.Step.{StepFacts, calls_of}
use Rattle.world_laws.specs.Store.{Commit}

abbrev pub OnlyPrimariesCommit : Type 0
OnlyPrimariesCommit = (old new : NodeState) (ask : Ask) (answer : Answer) (file : Ltx) → (facts : StepFacts old ask answer new) →
    Contains (calls_of facts) (Commit file) → (old.role ≡ Primary) × (new.role ≡ Primary)
