use Rattle.std.proofs.Common.{◌≡◌}
use Rattle.lf_disk.specs.Folder.{bytes_of}
use Rattle.lf_disk.specs.History.{now, Rests}
use Rattle.node_recovery.specs.Reading.{to_come}
use Rattle.node_recovery.proofs.Readings.{Reads}
use Rattle.node_recovery.proofs.reading.read_file.Given as goal

abbrev pub invariant-parts : goal.invariant-parts
invariant-parts g l = record {
  honest : g.D.Disk.honest l.disk ≡ g.D.Disk.honest l.fn.disk;
  faults : g.D.Disk.faults l.disk ≡ g.D.Disk.faults l.fn.disk;
  rests : Rests (g.D.Disk.history l.fn.disk) (g.D.Disk.history l.disk);
  reads : Reads (g.D.Disk.honest l.fn.disk) l.pages (bytes_of (now (g.D.Disk.history l.fn.disk) l.name)) l.reader l.tally;
}

abbrev pub decreases-parts : goal.decreases-parts
decreases-parts g l = to_come l.reader
