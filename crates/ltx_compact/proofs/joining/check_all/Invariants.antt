use Rattle.ltx_compact.specs.Joining.{JoinUpTo}
use Rattle.ltx_compact.proofs.joining.check_all.Given as goal

abbrev pub invariant-loop-index : goal.invariant-loop-index
invariant-loop-index l = JoinUpTo l.files l.index
