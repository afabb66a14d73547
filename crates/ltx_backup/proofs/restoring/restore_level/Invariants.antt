use Rattle.std.proofs.Common.{◌≡◌, IsTrue, List, drop}
use Rattle.lf_disk.specs.History.{now, Rests}
use Rattle.ltx_codec.specs.declared.file.Ltx.{Ltx}
use Rattle.ltx_backup.specs.Entries.{entries_of}
use Rattle.ltx_backup.specs.Levels.{AllStand}
use Rattle.ltx_backup.specs.Restoring.{up_to}
use Rattle.ltx_backup.proofs.Restores.{GoesOn}
use Rattle.ltx_backup.proofs.restoring.restore_level.Given as goal

abbrev pub invariant-loop-entry : goal.invariant-loop-entry
invariant-loop-entry g l = record {
  honest : g.D.Disk.honest l.disk ≡ g.D.Disk.honest l.initial.disk;
  faults : g.D.Disk.faults l.disk ≡ g.D.Disk.faults l.initial.disk;
  rests : Rests (g.D.Disk.history l.initial.disk) (g.D.Disk.history l.disk);
  runs : IsTrue (g.D.Disk.honest l.initial.disk) → (files : List Ltx) → l.entries ≡ entries_of files → AllStand (now (g.D.Disk.history l.initial.disk)) files
      → GoesOn (up_to l.txid files) (up_to l.txid (drop l.entry-index files)) l.initial.state l.state;
}
