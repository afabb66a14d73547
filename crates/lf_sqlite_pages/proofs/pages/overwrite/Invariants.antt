use Rattle.std.proofs.Common.{take}
use Rattle.lf_sqlite_pages.proofs.Applying.{Overwriting}
use Rattle.lf_sqlite_pages.proofs.pages.overwrite.Given as goal

abbrev pub invariant-loop-w : goal.invariant-loop-w
invariant-loop-w l = Overwriting l.change l.initial.pages.items (take l.w-index l.writes) l.pages.items
