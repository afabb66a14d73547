use Rattle.std.proofs.Common.{◌≡◌}
use Rattle.stream_primary.specs.Metric.{up_to}
use Rattle.stream_primary.proofs.histogram.up_to.Given as goal

abbrev pub invariant-loop-below : goal.invariant-loop-below
invariant-loop-below l = l.count ≡ up_to l.buckets l.below
