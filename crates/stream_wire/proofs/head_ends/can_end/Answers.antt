use Rattle.stream_wire.proofs.NeverEnds.{never_ends}
use Rattle.stream_wire.proofs.head_ends.can_end.Goals as goal

pub returns-else-ends_by-clause-never : goal.returns-else-ends_by-clause-never
returns-else-ends_by-clause-never c = λ fails.
    never_ends c.args.kind c.args.bytes.now (c.ends_by.ensures.none c.if-ends_by.false) (c.ends_rarely.ensures.start fails) (c.ends_rarely.ensures.length fails) (c.ends_rarely.ensures.character fails)
