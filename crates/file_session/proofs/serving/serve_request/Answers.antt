use Rattle.link_session.specs.Sessions.{stand_of}
use Rattle.link_session.specs.Stands.{stand}
use Rattle.file_session.proofs.Messages.{answered}
use Rattle.file_session.proofs.serving.serve_request.Goals as goal

pub returns-in-Ok-clause-end : goal.returns-in-Ok-clause-end
returns-in-Ok-clause-end g c =
    answered _ _ c.args.request c.in-Ok.answer
    (stand_of g.S.Steps g.L.Link c.args.session.now c.args.steps.now) (stand g.L.Link c.write_reply.new.link (g.S.Steps.entries c.ask_until.new.steps)) _
    c.write_reply.result c.requires (rw c.tries_of-tries.ensures at c.in-Ok.ensures.answered) (rw c.ask_until.ensures.link at (rw c.has_reply.ensures at c.write_reply.ensures.end))
