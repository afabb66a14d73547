use Rattle.std.proofs.Common.{◌≡◌, ◌-◌, ◌≤◌, length, take, drop}
use Rattle.txn_log.specs.Reserve.{spare_of}
use Rattle.txn_log.proofs.TakingSources.{Going}
use Rattle.txn_log.proofs.taking_source.take_source.Given as goal

-- some bytes of the source were taken in, which never failed
abbrev pub invariant-parts : goal.invariant-parts
invariant-parts g l = record {
  going : Going (g.D.Disk.honest l.fn.disk) (g.S.Source.left l.fn.source) (g.S.Source.left l.source) l.coming l.taken l.table.sums l.old.sums l.count l.wal l.room (drop l.at (take l.end l.page)) (g.D.Disk.history l.fn.disk) (g.D.Disk.history l.disk);
  order : l.at ≤ l.end;
  within : l.end ≤ 65536;
  page : length l.page ≡ 65536;
  spare : spare_of l.table ≡ spare_of l.fn.table;
  honest : g.D.Disk.honest l.disk ≡ g.D.Disk.honest l.fn.disk;
  source_faults : g.S.Source.faults l.source ≡ g.S.Source.faults l.fn.source;
  disk_faults : g.D.Disk.faults l.disk ≡ g.D.Disk.faults l.fn.disk;
}

abbrev pub decreases-parts : goal.decreases-parts
decreases-parts g l = 4294967297 - l.coming.taken
