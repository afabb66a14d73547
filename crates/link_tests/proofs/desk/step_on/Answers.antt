use Rattle.std.proofs.Common.{sym, ◌∙◌, ◌++◌, []}
use mathlib.Core.List.{append-nil}
use Rattle.turn_desk.specs.Seats.{view}
use Rattle.link_tests.proofs.desk.step_on.Goals as goal

pub returns-in-Ok-clause-has : goal.returns-in-Ok-clause-has
returns-in-Ok-clause-has g c =
    let h = c.in-Ok.ensures.ok.history in
    ((view c.args.seat).seen ++ h.0, ([], append-nil _ ∙ sym h.1))
