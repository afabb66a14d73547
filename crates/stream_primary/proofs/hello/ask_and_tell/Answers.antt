use Rattle.link_session.specs.Sessions.{asker_of, stand_of}
use Rattle.stream_primary.proofs.Streams.{sent_on}
use Rattle.stream_primary.proofs.hello.ask_and_tell.Goals as goal

pub returns-in-Ok-clause-round : goal.returns-in-Ok-clause-round
returns-in-Ok-clause-round g c =
    sent_on (asker_of g.S.Steps g.C.Clock c.args.session.now c.args.steps.now) c.args.name.now c.args.at c.in-Ok.answer (stand_of g.S.Steps g.L.Link c.args.session.now c.args.steps.now).place
    (stand_of g.S.Steps g.L.Link c.tell.new.session c.ask_hello.new.steps).place (g.L.Link.faults c.args.session.now.link.now) (g.L.Link.faults c.tell.new.session.link.now) c.tell.new.session.turns c.tell.result
    c.in-Ok.ensures.asked c.tell.ensures.sent
