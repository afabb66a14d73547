use Rattle.lf_base.specs.Name.{HasNameBytes}
use Rattle.lf_base.proofs.name.first_refused.Given as goal

-- the bytes so far may stand in a name
abbrev pub invariant-loop-at : goal.invariant-loop-at
invariant-loop-at l = HasNameBytes l.bytes l.at
