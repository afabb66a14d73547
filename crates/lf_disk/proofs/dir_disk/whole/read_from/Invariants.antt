use Rattle.std.proofs.Common.{length, ◌-◌, ◌≤◌}
use Rattle.lf_disk.proofs.dir_disk.whole.read_from.Given as goal

abbrev pub invariant-loop-count : goal.invariant-loop-count
invariant-loop-count g l = l.count ≤ length l.out

abbrev pub decreases-loop-count : goal.decreases-loop-count
decreases-loop-count g l = length l.initial.out - l.count
