use Rattle.std.proofs.Common.{◌≡◌, List, length, IsTrue}
use Rattle.lf_sqlite_pages.specs.Image.{DatabaseImage}
use Rattle.txn_log.specs.Kept.{LogFile}
use Rattle.txn_log.specs.Pruning.{AreFirst}
use Rattle.txn_log.proofs.Prunings.{Pruning}
use Rattle.txn_log.proofs.settling.remove_files.Given as goal

abbrev pub invariant-loop-entry : goal.invariant-loop-entry
invariant-loop-entry g l = record {
  honest : g.D.Disk.honest l.disk ≡ g.D.Disk.honest l.initial.disk;
  faults : g.D.Disk.faults l.disk ≡ g.D.Disk.faults l.initial.disk;
  runs : IsTrue (g.D.Disk.honest l.initial.disk) → (image : DatabaseImage) (files : List LogFile) → AreFirst image files l.entries (g.D.Disk.history l.initial.disk)
      → Pruning image files (length l.entries) l.entry-index (g.D.Disk.history l.initial.disk) (g.D.Disk.history l.disk);
}
