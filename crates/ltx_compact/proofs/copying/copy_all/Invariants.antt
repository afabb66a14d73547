use Rattle.std.proofs.Common.{◌≤◌, length, drop}
use Rattle.ltx_compact.specs.Slots.{HoldPages}
use Rattle.ltx_compact.proofs.Filled.{AreLeftPast}
use Rattle.ltx_compact.proofs.copying.copy_all.Given as goal

-- the slots hold what the files from one place on leave, and every page past low is there
abbrev pub invariant-loop-index : goal.invariant-loop-index
invariant-loop-index l = record {
  held : HoldPages (drop l.index l.files) (length l.fn.slots) l.slots;
  low : l.low ≤ length l.fn.slots;
  past : AreLeftPast (drop l.index l.files) l.low (length l.fn.slots);
}
