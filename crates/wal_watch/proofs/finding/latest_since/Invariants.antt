use Rattle.std.proofs.Common.{◌≡◌}
use Rattle.wal_watch.specs.News.{latest_frame}
use Rattle.wal_watch.proofs.finding.latest_since.Given as goal

-- the latest of the frames so far
abbrev pub invariant-loop-frame : goal.invariant-loop-frame
invariant-loop-frame l = l.latest ≡ latest_frame l.contents.bytes l.page l.from l.frame
