use Rattle.std.proofs.Common.{◌≡◌, ◌+◌, ◌≤◌, false, length}
use Rattle.ltx_backup.specs.Causes.{AreHonest, AllStay}
use Rattle.ltx_backup.specs.Entries.{IsKept}
use Rattle.ltx_backup.specs.Levels.{Levels}
use Rattle.ltx_backup.specs.Settling.{KeepsSettled, HoldsSettled}
use Rattle.ltx_backup.specs.Stops.{Stops}
use Rattle.ltx_backup.proofs.backup.Backup.settle.Given as goal

-- so far so many compactions
abbrev pub invariant-folds : goal.invariant-folds
invariant-folds g l = record {
  sound : l.self.broken ≡ false;
  honest : (g.D.Disk.honest l.self.low ≡ g.D.Disk.honest l.initial.self.low) × (g.D.Disk.honest l.self.middle ≡ g.D.Disk.honest l.initial.self.middle)
      × (g.D.Disk.honest l.self.high ≡ g.D.Disk.honest l.initial.self.high);
  faults : AllStay (record { low = g.D.Disk.faults l.initial.self.low; middle = g.D.Disk.faults l.initial.self.middle; high = g.D.Disk.faults l.initial.self.high })
      (record { low = g.D.Disk.faults l.self.low; middle = g.D.Disk.faults l.self.middle; high = g.D.Disk.faults l.self.high });
  end : l.self.index.end ≡ l.initial.self.index.end;
  fewer : l.count + (length l.self.index.entries.lows.items + length l.self.index.entries.middles.items)
      ≤ length l.initial.self.index.entries.lows.items + length l.initial.self.index.entries.middles.items;
  keeps : AreHonest (g.D.Disk.honest l.initial.self.low) (g.D.Disk.honest l.initial.self.middle) (g.D.Disk.honest l.initial.self.high) → (levels : Levels)
      → IsKept levels l.initial.self.index (g.D.Disk.history l.initial.self.low) (g.D.Disk.history l.initial.self.middle) (g.D.Disk.history l.initial.self.high)
      → KeepsSettled l.count levels l.self.index (g.D.Disk.history l.self.low) (g.D.Disk.history l.self.middle) (g.D.Disk.history l.self.high);
  stops : AreHonest (g.D.Disk.honest l.initial.self.low) (g.D.Disk.honest l.initial.self.middle) (g.D.Disk.honest l.initial.self.high) → (levels : Levels)
      → IsKept levels l.initial.self.index (g.D.Disk.history l.initial.self.low) (g.D.Disk.history l.initial.self.middle) (g.D.Disk.history l.initial.self.high)
      → Stops (g.D.Disk.history l.initial.self.low) (g.D.Disk.history l.initial.self.middle) (g.D.Disk.history l.initial.self.high)
      (g.D.Disk.history l.self.low) (g.D.Disk.history l.self.middle) (g.D.Disk.history l.self.high) (HoldsSettled levels);
}

abbrev pub decreases-folds : goal.decreases-folds
decreases-folds g l = length l.self.index.entries.lows.items + length l.self.index.entries.middles.items
