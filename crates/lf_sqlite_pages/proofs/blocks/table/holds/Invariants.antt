use Rattle.std.proofs.Common.{◌≡◌, ◌+◌, ◌-◌, ◌<◌, ◌≤◌, ℕ, length, get_or}
use Rattle.lf_sqlite_pages.specs.BlockTable.{byte_in}
use Rattle.lf_sqlite_pages.proofs.blocks.table.holds.Given as goal

-- the first bytes stand there
abbrev pub invariant-loop-done : goal.invariant-loop-done
invariant-loop-done l = record {
  within : l.done ≤ length l.piece;
  held : (k : ℕ) → k < l.done → byte_in l.blocks (l.at + k) ≡ get_or l.piece k 0;
}

abbrev pub decreases-loop-done : goal.decreases-loop-done
decreases-loop-done l = length l.piece - l.done
