use Rattle.std.proofs.Common.{ap, sym}
use Rattle.turn_desk.specs.Seats.{opened_on, view}
use Rattle.link_session.specs.declared.seat.SeatPlace.{SeatPlace}
use Rattle.link_session.proofs.Seats.{has_gone_on}
use Rattle.txid_proxy.proofs.seat.pass_seat.Goals as goal

pub returns-clause-history : goal.returns-clause-history
returns-clause-history g c = rw (c.seat-1.given.1 (sym (ap (λ (p : SeatPlace _). p.seat) c.pass_link.ensures.same.0)))
    (has_gone_on g.M.Machine.steps (λ desk. opened_on desk) _ _ _ (view c.args.seat.now) (view c.edition.new.seat) (view c.pass_link.new.steps.seat.now)
    c.edition.ensures.legal c.edition.ensures.same.0 c.pass_link.ensures.same.0 c.pass_link.ensures.same.2 c.pass_link.new.steps.seat.now.seated.own)
