use Rattle.stream_primary.proofs.halt_calls.number_by.Goals as goal

pub returns-else-is_same : goal.returns-else-is_same
returns-else-is_same c = λ body is e. (c.args.other.now, c.args.number, is, c.if-is_same.ensures, e)
