use Rattle.std.specs.Prelude.{All}
use Rattle.lf_base.specs.Doors.{IsUnused}
use Rattle.link_tests.proofs.etcd_rounds.lines_of.Given as goal

abbrev pub invariant-loop-met : goal.invariant-loop-met
invariant-loop-met g l = All IsUnused l.lines.links.items
