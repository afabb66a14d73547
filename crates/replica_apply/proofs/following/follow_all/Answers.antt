use Rattle.std.proofs.Common.{refl, subst}
use Rattle.link_session.specs.Sessions.{stand_of}
use Rattle.link_session.specs.Stands.{Asker, stand}
use Rattle.link_session.proofs.Stands.{same_asker}
use Rattle.replica_apply.specs.Following.{answered, unsent, EndsAnswer}
use Rattle.replica_apply.proofs.following.follow_all.Goals as goal

pub returns-in-Err-send_request-clause-ends : goal.returns-in-Err-send_request-clause-ends
returns-in-Err-send_request-clause-ends g c =
    unsent c.in-Ok.here c.in-Ok.ensures.says (record { why = c.in-Err-send_request.why; cause = c.in-Err-send_request.ensures.end; is = c.unsent_by.ensures }) c.send_request.ensures.left

pub returns-clause-ends : goal.returns-clause-ends
returns-clause-ends g c =
    answered c.in-Ok.here (stand g.L.Link c.send_request.new.link (g.S.Steps.entries c.ask_where.new.steps)) c.in-Ok.ensures.says
    c.in-Ok-send_request.ensures.end.0 c.send_request.ensures.left c.in-Ok-send_request.ensures.end.1
    (subst (λ (w : Asker). EndsAnswer w c.args.name.now (stand g.L.Link c.send_request.new.link (g.S.Steps.entries c.ask_where.new.steps))
    (stand_of g.S.Steps g.L.Link c.follow_reply.new.session c.follow_reply.new.steps) c.follow_reply.new.session.turns c.follow_reply.result)
    (same_asker _ _ _ _ c.ask_where.ensures.same.1 refl) c.follow_reply.ensures.answer)
