use Rattle.std.proofs.Common.{◌-◌, ◌≤◌, length}
use Rattle.lf_sqlite_pages.specs.BlockTable.{IsRead}
use Rattle.lf_sqlite_pages.proofs.blocks.table.read.Given as goal

-- the first bytes were read
abbrev pub invariant-loop-done : goal.invariant-loop-done
invariant-loop-done l = record {
  within : l.done ≤ length l.out;
  read : IsRead l.blocks l.at l.done l.initial.out l.out;
}

abbrev pub decreases-loop-done : goal.decreases-loop-done
decreases-loop-done l = length l.out - l.done
