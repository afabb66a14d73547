use Rattle.std.proofs.Common.{◌≡◌}
use Rattle.node_recovery.specs.Reading.{to_come}
use Rattle.node_recovery.proofs.Rewritings.{Passed}
use Rattle.node_recovery.proofs.rewriting.write_pages.Given as goal

abbrev pub invariant-parts : goal.invariant-parts
invariant-parts g l = record {
  honest : g.D.Disk.honest l.disk ≡ g.D.Disk.honest l.fn.disk;
  faults : g.D.Disk.faults l.disk ≡ g.D.Disk.faults l.fn.disk;
  passed : Passed (g.D.Disk.honest l.fn.disk) l.name l.header (g.D.Disk.history l.fn.disk) (g.D.Disk.history l.disk) l.reader;
}

abbrev pub decreases-parts : goal.decreases-parts
decreases-parts g l = to_come l.reader
