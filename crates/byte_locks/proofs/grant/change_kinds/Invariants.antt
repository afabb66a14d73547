use Rattle.std.proofs.Common.{◌≡◌, ◌++◌, map, take, drop}
use Rattle.byte_locks.specs.LockEntry.{in_kind}
use Rattle.byte_locks.proofs.grant.change_kinds.Given as goal

abbrev pub invariant-loop-entry : goal.invariant-loop-entry
invariant-loop-entry l =
    l.entry-items ≡ map (in_kind l.owner l.locks l.kind) (take l.entry-index l.initial.entry-items) ++ drop l.entry-index l.initial.entry-items
