use Rattle.stream_primary.proofs.Requests.{wants_other}
use Rattle.stream_primary.proofs.stream_call.wish_by.Goals as goal

pub returns-else-is_same : goal.returns-else-is_same
returns-else-is_same c = λ request is e. wants_other c.args.name.now c.args.other.now request c.args.pos c.if-is_same.ensures is e
