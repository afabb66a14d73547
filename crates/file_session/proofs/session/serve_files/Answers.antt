use Rattle.std.proofs.Common.{sym}
use Rattle.turn_desk.specs.Seats.{opened_on, view}
use Rattle.turn_desk.proofs.Lists.{starts_refl}
use Rattle.link_session.proofs.Seats.{has_gone_on}
use Rattle.file_session.proofs.session.serve_files.Goals as goal

pub returns-clause-history : goal.returns-clause-history
returns-clause-history g c = rw (sym c.look.ensures.desk)
    (has_gone_on g.M.Machine.steps (λ desk. opened_on desk) (record { seat = c.look.new.self.seat.ghost_name; desk = c.look.new.self.desk.now }) _ _
    (view c.args.at.now.seat.now) (view c.look.new.self.seat.now) (view c.serve_steps.new.steps.seat.now)
    c.look.ensures.legal c.look.ensures.same.0 c.serve_steps.ensures.same.1.0 c.serve_steps.ensures.same.1.2 c.serve_steps.new.steps.seat.now.seated.own)

pub serve_steps-requires-clause-seen : goal.serve_steps-requires-clause-seen
serve_steps-requires-clause-seen g c = record { legal = c.look.ensures.legal; begins = starts_refl _ }
