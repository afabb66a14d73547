use Rattle.std.proofs.Common.{refl}
use Rattle.std.proofs.KnownBytes.{Keeps-refl}
use Rattle.node_core.specs.declared.answer.Answer.{Answer}
use Rattle.stream_primary.specs.Asking.{answered, never_asked}
use Rattle.stream_primary.proofs.Asks.{ended_asking}
use Rattle.stream_primary.proofs.asking.ask_once.Goals as goal

pub returns-in-Ok-clause-serves : goal.returns-in-Ok-clause-serves
returns-in-Ok-clause-serves g c = answered c.in-Ok.answer c.in-Ok.ensures.asked c.reply_to.ensures.end

pub returns-in-Err-clause-serves : goal.returns-in-Err-clause-serves
returns-in-Err-clause-serves g c =
    never_asked (ended_asking Answer (Unit {0}) (g.S.Steps.is_worn c.take_step.new.steps) c.take_step.new.turns c.in-Err.end c.in-Err.ensures.cause)
    (record { written = Keeps-refl (g.L.Link.taken c.args.link.now); asked = c.in-Err.ensures.still }) refl
