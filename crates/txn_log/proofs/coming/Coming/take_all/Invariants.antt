use Rattle.std.proofs.Common.{length}
use Rattle.txn_log.proofs.Comings.{TakenSome}
use Rattle.txn_log.proofs.coming.Coming.take_all.Given as goal

-- some bytes of the piece were taken
abbrev pub invariant-loop-rest : goal.invariant-loop-rest
invariant-loop-rest l = TakenSome l.fn.self l.self l.piece l.rest

abbrev pub decreases-loop-rest : goal.decreases-loop-rest
decreases-loop-rest l = length l.rest
