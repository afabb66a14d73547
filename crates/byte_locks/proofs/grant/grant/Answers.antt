use Rattle.byte_locks.proofs.Grants.{granted_from_steps}
use Rattle.byte_locks.proofs.grant.grant.Goals as goal

pub returns-clause-ok : goal.returns-clause-ok
returns-clause-ok c =
    rw c.make_room.ensures.same at (granted_from_steps _ _ _ c.args.owner c.args.locks c.args.kind c.append_missing.ensures c.change_kinds.ensures)
