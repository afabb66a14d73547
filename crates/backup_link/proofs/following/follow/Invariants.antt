use Rattle.std.proofs.Common.{◌≡◌, ◌≤◌, [], List, false}
use Rattle.ltx_backup.specs.Causes.{AllStay, AreHonest}
use Rattle.ltx_codec.specs.declared.file.Ltx.{Ltx}
use Rattle.stream_wire.specs.Feeding.{holding}
use Rattle.backup_link.specs.Frames.{frame_limit}
use Rattle.backup_link.specs.Keeping.{KeepsAdded}
use Rattle.backup_link.proofs.Streams.{FollowsOn}
use Rattle.backup_link.proofs.following.follow.Given as goal

-- so far these files came, and are kept
abbrev pub invariant-frames : goal.invariant-frames
invariant-frames g l = record {
  files : List Ltx;
  on : FollowsOn g.L.Link l.name l.initial.link l.link l.initial.frames.piece l.frames.piece files;
  kept : KeepsAdded (AreHonest (g.D.Disk.honest l.initial.backup.low) (g.D.Disk.honest l.initial.backup.middle) (g.D.Disk.honest l.initial.backup.high))
      (record { index = l.initial.backup.index; low = g.D.Disk.history l.initial.backup.low; middle = g.D.Disk.history l.initial.backup.middle; high = g.D.Disk.history l.initial.backup.high })
      (record { index = l.backup.index; low = g.D.Disk.history l.backup.low; middle = g.D.Disk.history l.backup.middle; high = g.D.Disk.history l.backup.high }) files;
  sound : l.backup.broken ≡ false;
  between : l.frames.feed ≡ holding frame_limit [];
  honest : (g.D.Disk.honest l.backup.low ≡ g.D.Disk.honest l.initial.backup.low) × (g.D.Disk.honest l.backup.middle ≡ g.D.Disk.honest l.initial.backup.middle)
      × (g.D.Disk.honest l.backup.high ≡ g.D.Disk.honest l.initial.backup.high);
  faults : AllStay (record { low = g.D.Disk.faults l.initial.backup.low; middle = g.D.Disk.faults l.initial.backup.middle; high = g.D.Disk.faults l.initial.backup.high })
      (record { low = g.D.Disk.faults l.backup.low; middle = g.D.Disk.faults l.backup.middle; high = g.D.Disk.faults l.backup.high });
  turns : l.turns ≤ l.initial.turns;
  count : g.L.Link.faults l.link ≡ g.L.Link.faults l.initial.link;
}

abbrev pub decreases-frames : goal.decreases-frames
decreases-frames g l = l.turns
