use Rattle.std.proofs.Common.{sym}
use Rattle.turn_desk.specs.Seats.{opened_on, view}
use Rattle.link_session.proofs.Seats.{has_gone_on}
use Rattle.lease_link.proofs.seat.give_up_lease.Goals as goal

pub returns-clause-history : goal.returns-clause-history
returns-clause-history g c = rw (sym c.look.ensures.desk)
    (has_gone_on g.M.Machine.steps (λ desk. opened_on desk) (record { seat = c.look.new.self.seat.ghost_name; desk = c.look.new.self.desk.now }) _ _
    (view c.args.at.now.seat.now) (view c.look.new.self.seat.now) (view c.give_up.new.steps.seat.now)
    c.look.ensures.legal c.look.ensures.same.0 c.give_up.ensures.same.1.0 c.give_up.ensures.same.1.2 c.give_up.new.steps.seat.now.seated.own)
