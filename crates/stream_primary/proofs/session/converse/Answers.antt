use Rattle.std.proofs.Common.{refl}
use Rattle.link_session.specs.Stands.{stand}
use Rattle.stream_primary.specs.Refusing.{too_long_reply}
use Rattle.stream_primary.specs.Session.{serving, too_long}
use Rattle.stream_primary.proofs.Requests.{came_of, is_unread, request_of, serves_behind, unasked_behind, was_heard, was_read}
use Rattle.link_session.specs.Sessions.{stand_of}
use Rattle.stream_primary.proofs.session.converse.Goals as goal

pub returns-clause-ends : goal.returns-clause-ends
returns-clause-ends g c =
    let request = request_of c.in-Ok.ensures.read in
    let whole = was_read _ _ (g.L.Link.left c.args.session.now.link.now) (g.L.Link.left c.read_call.new.link) (g.L.Link.left c.serve_call.new.session.link.now) c.in-Ok.called c.in-Ok.ensures.read c.if-is_unread.ensures c.serve_call.ensures.left in
    let came = came_of _ _ (g.L.Link.left c.args.session.now.link.now) (g.L.Link.left c.read_call.new.link) c.in-Ok.called refl c.in-Ok.ensures.read c.if-is_unread.ensures in
    serving request whole
    (serves_behind request.call _ c.args.about.now.name request (stand_of g.S.Steps g.L.Link c.args.session.now c.args.steps.now) (stand g.L.Link c.read_call.new.link (g.S.Steps.entries c.args.steps.now))
    (stand_of g.S.Steps g.L.Link c.serve_call.new.session c.serve_call.new.steps) c.serve_call.new.session.turns c.serve_call.result
    (record { still = record { written = c.in-Ok.ensures.taken; asked = refl }; count = c.in-Ok.ensures.cause })
    (c.serve_call.ensures.serves request came))

pub returns-then-is_unread-clause-ends : goal.returns-then-is_unread-clause-ends
returns-then-is_unread-clause-ends g c =
    too_long c.in-Ok.called.call c.in-Ok.ensures.read.len
    (was_heard _ _ (g.L.Link.left c.args.session.now.link.now) (g.L.Link.left c.read_call.new.link) (g.L.Link.left c.refuse_too_long.new.link) c.in-Ok.called c.in-Ok.ensures.read c.refuse_too_long.ensures.left)
    (is_unread _ _ (g.L.Link.left c.args.session.now.link.now) (g.L.Link.left c.read_call.new.link) c.in-Ok.called refl c.in-Ok.ensures.read c.if-is_unread.ensures)
    (unasked_behind too_long_reply (stand_of g.S.Steps g.L.Link c.args.session.now c.args.steps.now) (stand g.L.Link c.read_call.new.link (g.S.Steps.entries c.args.steps.now))
    (stand g.L.Link c.refuse_too_long.new.link (g.S.Steps.entries c.args.steps.now)) c.refuse_too_long.new.turns c.refuse_too_long.result
    (record { still = record { written = c.in-Ok.ensures.taken; asked = refl }; count = c.in-Ok.ensures.cause })
    (record { written = c.refuse_too_long.ensures.end; unasked = refl }))
