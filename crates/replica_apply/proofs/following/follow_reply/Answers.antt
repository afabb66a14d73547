use Rattle.std.proofs.Common.{List, ℕ, Option, refl, subst}
use Rattle.link_session.specs.Reading.{coming}
use Rattle.link_session.specs.Sessions.{stand_of}
use Rattle.link_session.specs.Stands.{asker, stand, stand_with}
use Rattle.replica_apply.specs.Following.{frame_limit, HasReadHead}
use Rattle.replica_apply.proofs.Streams.{changed, fresh, no_room, not_streamed, streamed, unheard}
use Rattle.replica_apply.proofs.following.follow_reply.Goals as goal

pub returns-in-Err-read_head-clause-answer : goal.returns-in-Err-read_head-clause-answer
returns-in-Err-read_head-clause-answer g c =
    unheard (asker g.S.Steps g.C.Clock c.args.steps.now c.args.session.now.clock.now) c.args.name.now
    (stand g.L.Link c.args.session.now.link.now (g.S.Steps.entries c.args.steps.now)) (stand g.L.Link c.read_head.new.link (g.S.Steps.entries c.args.steps.now))
    c.read_head.new.turns c.in-Err-read_head.why c.end_of.result (coming c.in-Ok.heads (g.L.Link.left c.args.session.now.link.now))
    (fresh c.in-Ok.heads c.new.result (g.L.Link.left c.args.session.now.link.now) c.in-Ok.ensures c.new.ensures) c.in-Err-read_head.ensures.cause c.end_of.ensures c.read_head.ensures.taken refl

pub returns-then-status-ne-OK-clause-answer : goal.returns-then-status-ne-OK-clause-answer
returns-then-status-ne-OK-clause-answer g c =
    not_streamed (asker g.S.Steps g.C.Clock c.args.steps.now c.args.session.now.clock.now) c.args.name.now
    (stand g.L.Link c.args.session.now.link.now (g.S.Steps.entries c.args.steps.now)) (stand g.L.Link c.read_head.new.link (g.S.Steps.entries c.args.steps.now))
    c.read_head.new.turns c.in-Ok-read_head.status c.read_head.new.heads (coming c.in-Ok.heads (g.L.Link.left c.args.session.now.link.now))
    (fresh c.in-Ok.heads c.new.result (g.L.Link.left c.args.session.now.link.now) c.in-Ok.ensures c.new.ensures) c.in-Ok-read_head.ensures.head c.in-Ok-read_head.ensures.empty
    c.if-status-ne-OK.true c.read_head.ensures.taken refl c.in-Ok-read_head.ensures.cause

pub returns-in-Err-new-clause-answer : goal.returns-in-Err-new-clause-answer
returns-in-Err-new-clause-answer g c =
    no_room (asker g.S.Steps g.C.Clock c.args.steps.now c.args.session.now.clock.now) c.args.name.now
    (stand g.L.Link c.args.session.now.link.now (g.S.Steps.entries c.args.steps.now)) (stand g.L.Link c.read_head.new.link (g.S.Steps.entries c.args.steps.now))
    c.read_head.new.turns c.in-Ok-read_head.status c.read_head.new.heads (coming c.in-Ok.heads (g.L.Link.left c.args.session.now.link.now))
    (fresh c.in-Ok.heads c.new.result (g.L.Link.left c.args.session.now.link.now) c.in-Ok.ensures c.new.ensures) c.in-Ok-read_head.ensures.head c.in-Ok-read_head.ensures.empty
    c.read_head.ensures.taken refl c.in-Ok-read_head.ensures.cause

pub returns-clause-answer : goal.returns-clause-answer
returns-clause-answer g c =
    streamed (asker g.S.Steps g.C.Clock c.args.steps.now c.args.session.now.clock.now) c.args.name.now
    (stand g.L.Link c.args.session.now.link.now (g.S.Steps.entries c.args.steps.now)) (stand_with g.L.Link c.change-frames.result c.read_head.new.link (g.S.Steps.entries c.args.steps.now))
    (stand_of g.S.Steps g.L.Link c.follow_frames.new.session c.follow_frames.new.steps)
    c.follow_frames.new.session.turns c.in-Ok-read_head.status c.follow_frames.result (coming c.in-Ok.heads (g.L.Link.left c.args.session.now.link.now))
    (fresh c.in-Ok.heads c.new.result (g.L.Link.left c.args.session.now.link.now) c.in-Ok.ensures c.new.ensures) c.if-status-ne-OK.false
    (subst (λ (t : Option (List ℕ)). HasReadHead c.in-Ok-read_head.status (coming c.in-Ok.heads (g.L.Link.left c.args.session.now.link.now)) t)
    (changed c.read_head.new.heads c.change-frames.result c.in-Ok-new.feed frame_limit (g.L.Link.left c.read_head.new.link)
    c.in-Ok-read_head.ensures.empty c.change-frames.ensures c.in-Ok-new.ensures) c.in-Ok-read_head.ensures.head)
    c.read_head.ensures.taken refl c.in-Ok-read_head.ensures.cause c.follow_frames.ensures.frames
