use Rattle.std.proofs.Common.{◌≡◌, ◌-◌, length}
use Rattle.txn_log.proofs.Republishings.{Copied}
use Rattle.txn_log.proofs.rewriting_from.copy_pages.Given as goal

-- some pages were read and written
abbrev pub invariant-loop-at : goal.invariant-loop-at
invariant-loop-at g l = record {
  honest : g.D.Disk.honest l.disk ≡ g.D.Disk.honest l.fn.disk;
  faults : g.D.Disk.faults l.disk ≡ g.D.Disk.faults l.fn.disk;
  room : length l.page ≡ 65536;
  size : l.size ≡ l.header.page_size;
  copied : Copied (g.D.Disk.honest l.fn.disk) l.name l.header l.len l.at (g.D.Disk.history l.fn.disk) (g.D.Disk.history l.disk);
}

abbrev pub decreases-loop-at : goal.decreases-loop-at
decreases-loop-at g l = l.len - l.at
