use Rattle.std.proofs.Common.{length}
use Rattle.litefs_tool.proofs.ConsumerLemmas.{HasConsumedPrefix}
use Rattle.litefs_tool.proofs.input.consume_all.Given as goal

-- a prefix of the bytes was taken
abbrev pub invariant-loop-rest : goal.invariant-loop-rest
invariant-loop-rest g l = HasConsumedPrefix g.T.Consumer.has_consumed l.fn.consumer l.consumer l.bytes l.rest

abbrev pub decreases-loop-rest : goal.decreases-loop-rest
decreases-loop-rest g l = length l.rest
