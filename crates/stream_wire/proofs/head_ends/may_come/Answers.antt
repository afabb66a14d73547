use Rattle.stream_wire.proofs.NeverEnds.{never_late}
use Rattle.stream_wire.proofs.head_ends.may_come.Goals as goal

pub returns-else-bytes-lt-HEAD_MAX-clause-never : goal.returns-else-bytes-lt-HEAD_MAX-clause-never
returns-else-bytes-lt-HEAD_MAX-clause-never c = λ fails none_yet. never_late c.args.kind c.args.bytes.now none_yet c.if-bytes-lt-HEAD_MAX.false
