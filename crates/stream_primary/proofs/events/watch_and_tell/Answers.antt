use Rattle.stream_primary.proofs.EventStreams.{told_on}
use Rattle.link_session.specs.Sessions.{asker_of}
use Rattle.stream_primary.proofs.events.watch_and_tell.Goals as goal

pub returns-in-Ok-clause-round : goal.returns-in-Ok-clause-round
returns-in-Ok-clause-round g c =
    told_on (asker_of g.S.Steps g.C.Clock c.args.session.now c.args.steps.now) c.args.name.now c.args.told.now c.in-Ok.answer _ _ (g.L.Link.faults c.args.session.now.link.now)
    (g.L.Link.faults c.tell_answer.new.session.link.now) c.tell_answer.new.session.turns c.tell_answer.result c.in-Ok.ensures.asked c.tell_answer.ensures.sent
