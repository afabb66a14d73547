use Rattle.std.proofs.Common.{◌-◌}
use Rattle.lf_base.specs.FileBytes.{resized}
use Rattle.wal_watch.specs.Scanning.{AreMarks}
use Rattle.wal_watch.proofs.scan.Marks.go_on.Given as goal

abbrev pub invariant-loop-frame : goal.invariant-loop-frame
invariant-loop-frame l = AreMarks (resized l.len l.blocks.bytes) l.marks

abbrev pub decreases-loop-frame : goal.decreases-loop-frame
decreases-loop-frame l = l.len - l.marks.last.place
