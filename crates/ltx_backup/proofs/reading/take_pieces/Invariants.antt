use Rattle.std.proofs.Common.{◌≡◌, ◌<◌, ◌≤◌, ◌-◌, IsTrue, length, take}
use Rattle.lf_disk.specs.Folder.{bytes_of}
use Rattle.lf_disk.specs.History.{now, Rests}
use Rattle.ltx_backup.specs.Coming.{HasComeFrom}
use Rattle.ltx_backup.proofs.reading.take_pieces.Given as goal

-- the first bytes of the file came
abbrev pub invariant-loop-at : goal.invariant-loop-at
invariant-loop-at g l = record {
  honest : g.D.Disk.honest l.disk ≡ g.D.Disk.honest l.initial.disk;
  faults : g.D.Disk.faults l.disk ≡ g.D.Disk.faults l.initial.disk;
  rests : Rests (g.D.Disk.history l.initial.disk) (g.D.Disk.history l.disk);
  room : 0 < length l.piece;
  within : l.at ≤ l.size;
  come : HasComeFrom (IsTrue (g.D.Disk.honest l.initial.disk) × (l.size ≡ length (bytes_of (now (g.D.Disk.history l.initial.disk) l.name))))
      (take l.at (bytes_of (now (g.D.Disk.history l.initial.disk) l.name))) l.coming;
}

abbrev pub decreases-loop-at : goal.decreases-loop-at
decreases-loop-at g l = l.size - l.at
