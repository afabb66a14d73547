use Rattle.stream_primary.proofs.EventStreams.{told_last}
use Rattle.stream_primary.proofs.events.tell_answer.Goals as goal

pub returns-in_default-clause-sent : goal.returns-in_default-clause-sent
returns-in_default-clause-sent g c =
    told_last c.args.name.now c.args.told.now c.args.answer.now (g.L.Link.taken c.args.session.now.link.now) (g.L.Link.taken c.end_events.new.link) (g.L.Link.faults c.args.session.now.link.now) (g.L.Link.faults c.end_events.new.link)
    c.end_events.new.turns c.end_events.result c.in_default.not-Watched c.end_events.ensures.end
