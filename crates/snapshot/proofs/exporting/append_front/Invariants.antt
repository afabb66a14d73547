use Rattle.std.proofs.Common.{◌≡◌, ◌+◌, ◌-◌, ◌≤◌, ◌++◌, IsTrue, length, take}
use Rattle.std.specs.Io.{StartsWith}
use Rattle.lf_disk.specs.Folder.{bytes_of}
use Rattle.lf_disk.specs.declared.name.FileName.TheVariants.{Database}
use Rattle.lf_disk.specs.History.{now, Rests}
use Rattle.snapshot.proofs.exporting.append_front.Given as goal

-- the bytes up to that place were appended, and no read failed
abbrev pub invariant-loop-done : goal.invariant-loop-done
invariant-loop-done g l = record {
  within : l.done ≤ l.len;
  room : length l.room ≡ 131072;
  counts : length l.out.items ≡ length l.fn.out.items + l.done;
  bytes : IsTrue (g.D.Disk.honest l.fn.disk) → l.len ≡ length (bytes_of (now (g.D.Disk.history l.fn.disk) Database))
      → l.out.items ≡ l.fn.out.items ++ take l.done (bytes_of (now (g.D.Disk.history l.fn.disk) Database));
  grows : StartsWith l.out.items l.fn.out.items;
  rests : Rests (g.D.Disk.history l.fn.disk) (g.D.Disk.history l.disk);
  honest : g.D.Disk.honest l.disk ≡ g.D.Disk.honest l.fn.disk;
  faults : g.D.Disk.faults l.disk ≡ g.D.Disk.faults l.fn.disk;
}

abbrev pub decreases-loop-done : goal.decreases-loop-done
decreases-loop-done g l = l.len - l.done
