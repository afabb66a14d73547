use Rattle.std.proofs.Common.{refl}
use Rattle.std.proofs.KnownBytes.{Keeps-refl}
use Rattle.node_core.specs.declared.answer.Answer.{Answer}
use Rattle.stream_primary.specs.WatchCalls.{never_told, told_of}
use Rattle.stream_primary.proofs.Asks.{ended_asking}
use Rattle.stream_primary.proofs.watch_call.inform.Goals as goal

pub returns-in-Ok-clause-tells : goal.returns-in-Ok-clause-tells
returns-in-Ok-clause-tells g c = told_of c.in-Ok.answer c.in-Ok.ensures.asked c.reply_info.ensures.end

pub returns-in-Err-clause-tells : goal.returns-in-Err-clause-tells
returns-in-Err-clause-tells g c =
    never_told (ended_asking Answer (Unit {0}) (g.S.Steps.is_worn c.ask_info.new.steps) c.ask_info.new.turns c.in-Err.end c.in-Err.ensures.cause)
    (record { written = Keeps-refl (g.L.Link.taken c.args.session.now.link.now); asked = c.in-Err.ensures.still }) refl
