use Rattle.std.proofs.Common.{◌≡◌, IsTrue}
use Rattle.lf_disk.specs.declared.name.FileName.TheVariants.{Staged}
use Rattle.lf_disk.specs.History.{IsSettledBut}
use Rattle.txn_log.proofs.Clearings.{Clearing}
use Rattle.txn_log.proofs.settling.clear.Given as goal

abbrev pub invariant-loop-entry : goal.invariant-loop-entry
invariant-loop-entry g l = record {
  honest : g.D.Disk.honest l.disk ≡ g.D.Disk.honest l.initial.disk;
  faults : g.D.Disk.faults l.disk ≡ g.D.Disk.faults l.initial.disk;
  runs : IsTrue (g.D.Disk.honest l.initial.disk) → IsSettledBut Staged (g.D.Disk.history l.initial.disk)
      → Clearing l.entries l.entry-index (g.D.Disk.history l.initial.disk) (g.D.Disk.history l.disk);
}
