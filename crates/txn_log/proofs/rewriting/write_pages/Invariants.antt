use Rattle.std.proofs.Common.{◌≡◌, ◌+◌, ◌<◌, length, take, IsTrue}
use Rattle.lf_base.specs.FileBytes.{written}
use Rattle.lf_disk.specs.Folder.{bytes_of, SameBut}
use Rattle.lf_disk.specs.History.{now}
use Rattle.lf_disk.specs.Change.{OnFile}
use Rattle.lf_disk.specs.declared.name.FileName.TheVariants.{Database}
use Rattle.lf_disk.specs.Stretch.{Stretch}
use Rattle.txn_log.specs.PageRun.{LeavesOut}
use Rattle.txn_log.specs.Pages.{Wears, patched}
use Rattle.txn_log.proofs.rewriting.write_pages.Given as goal

abbrev pub invariant-loop-page : goal.invariant-loop-page
invariant-loop-page g l = record {
  honest : g.D.Disk.honest l.disk ≡ g.D.Disk.honest l.initial.disk;
  faults : g.D.Disk.faults l.disk ≡ g.D.Disk.faults l.initial.disk;
  room : l.run.at + length l.run.bytes.items < 18446744073709551616;
  out : LeavesOut l.change l.run.at (length l.run.bytes.items);
  moments : IsTrue (g.D.Disk.honest l.initial.disk) → Stretch (OnFile Database (Wears l.change)) (g.D.Disk.history l.initial.disk) (g.D.Disk.history l.disk);
  seen : IsTrue (g.D.Disk.honest l.initial.disk) → written l.run.at l.run.bytes.items (bytes_of (now (g.D.Disk.history l.disk) Database))
      ≡ patched l.change.page_size (bytes_of (now (g.D.Disk.history l.initial.disk) Database)) (take l.page-index l.change.pages);
  others : IsTrue (g.D.Disk.honest l.initial.disk) → SameBut Database (now (g.D.Disk.history l.initial.disk)) (now (g.D.Disk.history l.disk));
}
