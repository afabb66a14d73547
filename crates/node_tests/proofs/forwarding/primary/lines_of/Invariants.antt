use Rattle.std.specs.Prelude.{All}
use Rattle.lf_base.specs.Doors.{IsUnused}
use Rattle.node_tests.proofs.forwarding.primary.lines_of.Given as goal

abbrev pub invariant-loop-reply : goal.invariant-loop-reply
invariant-loop-reply g l = All IsUnused l.lines.links.items
