use Rattle.std.proofs.Common.{sym}
use Rattle.turn_desk.specs.Seats.{number_of, opened_on, view}
use Rattle.link_session.proofs.Seats.{has_gone_on}
use Rattle.lease_link.proofs.Rounds.{by_seat}
use Rattle.lease_link.proofs.seat.keep_lease.Goals as goal

pub returns-clause-history : goal.returns-clause-history
returns-clause-history g c = rw (sym c.look.ensures.desk)
    (has_gone_on g.M.Machine.steps (λ desk. opened_on desk) (record { seat = c.look.new.self.seat.ghost_name; desk = c.look.new.self.desk.now }) _ _
    (view c.args.at.now.seat.now) (view c.look.new.self.seat.now) (view c.keep.new.steps.seat.now)
    c.look.ensures.legal c.look.ensures.same.0 c.keep.ensures.same.1.0 c.keep.ensures.same.1.2 c.keep.new.steps.seat.now.seated.own)

pub returns-clause-round : goal.returns-clause-round
returns-clause-round g c =
    by_seat g.B.Bringing g.V.Service (number_of c.args.at.now.seat.now) (number_of c.look.new.self.seat.now) _ _ _ _ _ (view c.args.at.now.seat.now).mine (view c.look.new.self.seat.now).mine _ _ _ _
    c.look.ensures.number c.look.ensures.same.1 c.keep.ensures.round
