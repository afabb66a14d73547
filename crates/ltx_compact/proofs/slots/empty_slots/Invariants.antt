use Rattle.std.proofs.Common.{◌≡◌, None, replicate}
use Rattle.ltx_compact.proofs.slots.empty_slots.Given as goal

abbrev pub invariant-loop-added : goal.invariant-loop-added
invariant-loop-added l = l.slots.items ≡ replicate l._added None
