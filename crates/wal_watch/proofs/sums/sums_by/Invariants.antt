use Rattle.std.proofs.Common.{◌≡◌, ◌+◌, ◌*◌, ◌-◌, ◌≤◌, ℕ}
use Rattle.lf_base.specs.FileBytes.{resized}
use Rattle.wal_watch.specs.Sums.{with_pairs}
use Rattle.wal_watch.proofs.sums.sums_by.Given as goal

-- the sums of the pairs so far
abbrev pub invariant-loop-done : goal.invariant-loop-done
invariant-loop-done l = record {
  within : l.done ≤ l.count;
  sums : (len : ℕ) → l.place + 8 * l.count ≤ len → l.sums ≡ with_pairs l.little l.fn.sums l.place (resized len l.blocks.bytes) l.done;
}

abbrev pub decreases-loop-done : goal.decreases-loop-done
decreases-loop-done l = l.count - l.done
