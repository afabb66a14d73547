-- The pages so far are the image's.
use Rattle.std.proofs.Common.{◌≡◌, length}
use Rattle.std.specs.Prelude.{IfSome}
use Rattle.database_file.specs.Fault.{SameBase}
use Rattle.database_under_log.proofs.AlterLemmas.{AreThere}
use Rattle.database_under_log.proofs.altering.writes_the_same.Given as goal

abbrev pub invariant-loop-at : goal.invariant-loop-at
invariant-loop-at g l = record {
  base : SameBase g.S.PageStore l.fn.base l.base;
  faults : g.S.PageStore.faults l.base ≡ g.S.PageStore.faults l.fn.base;
  page_is : length l.page ≡ l.change.page_size;
  there : IfSome (g.S.PageStore.image l.fn.base) (AreThere l.change l.at);
}
