use Rattle.std.proofs.Common.{◌≡◌, length, IsTrue}
use Rattle.lf_disk.specs.declared.name.FileName.TheVariants.{Database}
use Rattle.lf_disk.specs.Folder.{bytes_of}
use Rattle.lf_disk.specs.History.{now, Rests}
use Rattle.lf_sqlite_pages.specs.Change.{PageChange, IsChange}
use Rattle.node_recovery.specs.Summing.{IsTallied, AreKnown}
use Rattle.node_recovery.proofs.summing.add_pages.Given as goal

abbrev pub invariant-loop-before : goal.invariant-loop-before
invariant-loop-before g l = record {
  honest : g.D.Disk.honest l.disk ≡ g.D.Disk.honest l.initial.disk;
  faults : g.D.Disk.faults l.disk ≡ g.D.Disk.faults l.initial.disk;
  rests : Rests (g.D.Disk.history l.initial.disk) (g.D.Disk.history l.disk);
  long : length l.page.items ≡ l.header.page_size;
  count : length l.tally.sums.sums ≡ l.header.commit;
  known : IsTrue (g.D.Disk.honest l.initial.disk) → (change : PageChange) → IsChange change → change.page_size ≡ l.header.page_size → IsTallied change l.initial.tally
      → AreKnown change (bytes_of (now (g.D.Disk.history l.initial.disk) Database)) l.before l.tally;
}
