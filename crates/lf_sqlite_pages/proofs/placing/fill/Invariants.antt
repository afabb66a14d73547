use Rattle.std.proofs.Common.{◌≡◌, ◌++◌, replicate}
use Rattle.lf_sqlite_pages.proofs.placing.fill.Given as goal

abbrev pub invariant-loop-added : goal.invariant-loop-added
invariant-loop-added l = l.pages.items ≡ l.initial.pages.items ++ replicate l._added (replicate l.size 0)
