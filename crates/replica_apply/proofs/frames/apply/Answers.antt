use Rattle.link_session.specs.Stands.{asker}
use Rattle.replica_apply.proofs.Streams.{frame_answered}
use Rattle.replica_apply.proofs.frames.apply.Goals as goal

pub returns-in-Ok-clause-end : goal.returns-in-Ok-clause-end
returns-in-Ok-clause-end g c = λ name text is.
    rw c.said_by.ensures (frame_answered (asker g.S.Steps g.C.Clock c.args.steps.now c.args.session.now.clock.now) name text c.args.ask c.in-Ok.answer
    (g.S.Steps.entries c.args.steps.now) (g.S.Steps.entries c.ask_until.new.steps) _ is c.in-Ok.ensures.answered)

pub returns-in-Err-Turns-clause-end : goal.returns-in-Err-Turns-clause-end
returns-in-Err-Turns-clause-end g c = λ name text is.
    (record { asked = c.args.ask; is = is; vain = c.in-Err-Turns.ensures.vain }, rw c.in-Err-Turns.field-0-is at c.in-Err-Turns.ensures.cause)
