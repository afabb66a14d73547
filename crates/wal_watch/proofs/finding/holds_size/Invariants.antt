use Rattle.std.proofs.Common.{◌<◌, ◌≡◌, ℕ}
use Rattle.wal_watch.specs.Frames.{size_in}
use Rattle.wal_watch.proofs.finding.holds_size.Given as goal

-- none of the frames so far states the size
abbrev pub invariant-loop-frame : goal.invariant-loop-frame
invariant-loop-frame l = (k : ℕ) → k < l.frame → size_in l.contents.bytes k ≡ l.pages → ⊥
