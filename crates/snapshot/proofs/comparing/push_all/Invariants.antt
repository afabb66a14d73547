use Rattle.std.proofs.Common.{◌≡◌, ◌-◌, ◌≤◌, IsTrue, length}
use Rattle.lf_disk.specs.History.{now, Rests}
use Rattle.lf_sqlite_pages.specs.Change.{last_number}
use Rattle.lf_sqlite_pages.specs.Writes.{writes_of}
use Rattle.database_file.specs.Commit.{page_changed}
use Rattle.txn_log.specs.Store.{image_in}
use Rattle.snapshot.specs.Bytes.{image_of_pages}
use Rattle.snapshot.specs.Pages.{HasPages}
use Rattle.snapshot.proofs.comparing.push_all.Given as goal

-- the pages up to the number were added where they differ, and no read failed
abbrev pub invariant-loop-number : goal.invariant-loop-number
invariant-loop-number g l = record {
  within : l.number ≤ l.count;
  size : l.change.page_size ≡ l.fn.change.page_size;
  commit : l.change.commit ≡ l.fn.change.commit;
  last : last_number l.change.pages ≤ l.number;
  room : length l.standing ≡ l.fn.change.page_size;
  pages : IsTrue (g.D.Disk.honest l.fn.disk) → HasPages l.page_size l.commit (now (g.D.Disk.history l.fn.disk))
      → l.change.pages ≡ writes_of (page_changed (image_in l.page_size l.commit (now (g.D.Disk.history l.fn.disk))) (image_of_pages l.fn.change.page_size l.fn.change.commit l.bytes)) l.number;
  rests : Rests (g.D.Disk.history l.fn.disk) (g.D.Disk.history l.disk);
  honest : g.D.Disk.honest l.disk ≡ g.D.Disk.honest l.fn.disk;
  faults : g.D.Disk.faults l.disk ≡ g.D.Disk.faults l.fn.disk;
}

abbrev pub decreases-loop-number : goal.decreases-loop-number
decreases-loop-number g l = l.count - l.number
