-- Zeros are kept for one page more.
use Rattle.std.proofs.Common.{arith}
use Rattle.database_file.proofs.ZeroLemmas.{zeros_end}
use Rattle.database_file.proofs.keeping.fill.Goals as goal

pub returns-clause-zeros : goal.returns-clause-zeros
returns-clause-zeros g c =
    zeros_end _ _ _ _ _ _ (omega (arith, c.loop-number-test.false)) c.loop-number.invariant.end c.loop-number.invariant.zeros
