use Rattle.std.proofs.Common.{◌≡◌, drop}
use Rattle.ltx_backup.proofs.folding.forget_eight.Given as goal

abbrev pub invariant-loop-i : goal.invariant-loop-i
invariant-loop-i l = l.entries.items ≡ drop l._i l.initial.entries.items
