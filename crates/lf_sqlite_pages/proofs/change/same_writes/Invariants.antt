use Rattle.std.proofs.Common.{◌≡◌, take}
use Rattle.lf_sqlite_pages.proofs.change.same_writes.Given as goal

abbrev pub invariant-loop-i : goal.invariant-loop-i
invariant-loop-i l = take l.i l.ones ≡ take l.i l.others
