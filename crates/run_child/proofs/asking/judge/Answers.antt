use Rattle.run_child.proofs.Readings.{unfit_by_form}
use Rattle.run_child.proofs.asking.judge.Goals as goal

pub returns-in-Err-clause-refused : goal.returns-in-Err-clause-refused
returns-in-Err-clause-refused c = unfit_by_form c.args.request.now c.args.bytes.now c.decode_reply.result c.in-Err.field-0
    c.decode_reply.ensures.read c.decode_reply.ensures.memory c.requires.askable.plain c.in-Err.is
