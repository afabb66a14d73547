use Rattle.std.proofs.Common.{◌<◌, arith, length}
use Rattle.std.proofs.lemmas.List.{get_or_default}
use Rattle.std.proofs.lemmas.List.Edits.{map_over_more}
use Rattle.byte_locks.specs.LockEntry.{in_kind}
use Rattle.byte_locks.proofs.grant.change_kinds.Goals as goal

pub loop-entry-preserved : goal.loop-entry-preserved
loop-entry-preserved c =
    let within : c.loop-entry.entry-index < length c.loop-entry.entry-items = omega arith in
    rw c.in_kind.ensures
    (map_over_more (in_kind c.args.owner c.args.locks c.args.kind) c.deref_mut-entry-items.result.now c.loop-entry.entry-items
    c.loop-entry.entry-index _ c.loop-entry-test.true c.loop-entry.invariant (get_or_default _ _ _ _ within))
