use Rattle.turn_desk.specs.Seats.{view}
use Rattle.file_session.specs.Primary.{phone}
use Rattle.file_session.proofs.session.serve_files.Given as goal

-- what the seat has seen, and its entries and the dials, before the session
abbrev pub ghosts-serve_steps : goal.ghosts-serve_steps
ghosts-serve_steps g a = record {
  seen = (view a.steps.now.seat.now).seen;
  entries = (view a.steps.now.seat.now).mine;
  phone = phone (g.T.Dialer.dials a.dialer.now) (g.T.Dialer.faults a.dialer.now);
}
