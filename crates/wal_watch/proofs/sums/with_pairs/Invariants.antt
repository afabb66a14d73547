use Rattle.std.proofs.Common.{◌≡◌}
use Rattle.wal_watch.specs.Sums.{with_pairs}
use Rattle.wal_watch.proofs.sums.with_pairs.Given as goal

-- the sums of the pairs so far
abbrev pub invariant-loop-k : goal.invariant-loop-k
invariant-loop-k l = l.sums ≡ with_pairs l.little l.fn.sums l.place l.contents l.k
