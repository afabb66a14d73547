use Rattle.std.proofs.Common.{take}
use Rattle.lf_sqlite_pages.specs.Change.{written}
use Rattle.ltx_compact.specs.Slots.{AreFilled}
use Rattle.ltx_compact.proofs.copying.copy.Given as goal

abbrev pub invariant-loop-page : goal.invariant-loop-page
invariant-loop-page l = AreFilled l.fn.slots (written (take l.page-index l.pages)) l.slots
