use Rattle.std.proofs.Common.{ap}
use Rattle.turn_desk.specs.Seats.{opened_on, view}
use Rattle.link_session.proofs.Seats.{has_gone_on}
use Rattle.node_mount.specs.declared.hearing.HeardPlace.{HeardPlace}
use Rattle.node_mount.proofs.hearing.serve_heard.Goals as goal

pub returns-clause-history : goal.returns-clause-history
returns-clause-history g c =
    has_gone_on g.M.Machine.steps (λ desk. opened_on desk) (record { seat = c.args.at.now.seat.ghost_name; desk = c.args.at.now.desk.now }) _ _
    (view c.args.at.now.seat.now) (view c.edition.new.seat) (view c.serve_link.new.steps.seat.now)
    c.edition.ensures.legal c.edition.ensures.same.0 (ap (λ (p : HeardPlace _). p.place) c.serve_link.ensures.same.1.0) c.serve_link.ensures.same.1.2 c.serve_link.new.steps.seat.now.seated.own
