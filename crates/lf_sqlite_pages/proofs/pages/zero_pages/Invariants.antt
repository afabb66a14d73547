use Rattle.std.proofs.Common.{◌≡◌, replicate}
use Rattle.lf_sqlite_pages.proofs.pages.zero_pages.Given as goal

abbrev pub invariant-loop-made : goal.invariant-loop-made
invariant-loop-made l = l.pages.items ≡ replicate l._made (replicate l.size 0)
