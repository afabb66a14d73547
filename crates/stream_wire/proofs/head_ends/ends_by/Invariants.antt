use Rattle.std.proofs.Common.{ℕ, ◌<◌, ◌++◌, drop}
use Rattle.stream_wire.specs.Ends.{TakesHead}
use Rattle.stream_wire.proofs.head_ends.ends_by.Given as goal

abbrev pub invariant-loop-at : goal.invariant-loop-at
invariant-loop-at l = (k : ℕ) → k < l.at → TakesHead l.kind (l.bytes ++ drop k l.text) → ⊥
