use Rattle.std.proofs.Common.{◌≡◌}
use Rattle.conversations.specs.Replaying.{sum_to}
use Rattle.conversations.proofs.replay.position_of.Given as goal

-- the sum is that of the pages before this one
abbrev pub invariant-loop-before : goal.invariant-loop-before
invariant-loop-before l = l.sum ≡ sum_to l.image l.before
