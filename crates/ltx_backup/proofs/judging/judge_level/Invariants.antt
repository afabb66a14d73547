use Rattle.std.proofs.Common.{◌≡◌, IsTrue, take}
use Rattle.lf_disk.specs.History.{now, Rests}
use Rattle.ltx_backup.specs.Making.{JudgingInto}
use Rattle.ltx_backup.proofs.judging.judge_level.Given as goal

abbrev pub invariant-loop-name : goal.invariant-loop-name
invariant-loop-name g l = record {
  honest : g.D.Disk.honest l.disk ≡ g.D.Disk.honest l.initial.disk;
  faults : g.D.Disk.faults l.disk ≡ g.D.Disk.faults l.initial.disk;
  rests : Rests (g.D.Disk.history l.initial.disk) (g.D.Disk.history l.disk);
  runs : IsTrue (g.D.Disk.honest l.initial.disk)
      → JudgingInto (now (g.D.Disk.history l.initial.disk)) l.level l.here (take l.name-index l.names) l.initial.found.target l.found;
}
