use Rattle.std.proofs.Common.{◌≡◌, IsTrue, take}
use Rattle.lf_disk.specs.History.{now, EachMoment}
use Rattle.ltx_backup.specs.Trimming.{IsTrimmed, HasTrimmed}
use Rattle.ltx_backup.proofs.trimming.trim.Given as goal

abbrev pub invariant-loop-entry : goal.invariant-loop-entry
invariant-loop-entry g l = record {
  honest : g.D.Disk.honest l.disk ≡ g.D.Disk.honest l.initial.disk;
  faults : g.D.Disk.faults l.disk ≡ g.D.Disk.faults l.initial.disk;
  runs : IsTrue (g.D.Disk.honest l.initial.disk)
      → EachMoment (g.D.Disk.history l.initial.disk) (g.D.Disk.history l.disk) (IsTrimmed l.number (now (g.D.Disk.history l.initial.disk)));
  here : IsTrue (g.D.Disk.honest l.initial.disk)
      → HasTrimmed l.number (take l.entry-index l.entries) (now (g.D.Disk.history l.initial.disk)) (g.D.Disk.history l.disk);
}
