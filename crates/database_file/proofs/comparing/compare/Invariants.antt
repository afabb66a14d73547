-- So far each page was compared, and the base stays.
use Rattle.std.proofs.Common.{◌≡◌, length}
use Rattle.database_file.specs.Fault.{SameBase}
use Rattle.database_file.specs.WritingParts.{TellAllSame}
use Rattle.database_file.proofs.comparing.compare.Given as goal

abbrev pub invariant-loop-at : goal.invariant-loop-at
invariant-loop-at g l = record {
  base : SameBase g.S.PageStore l.fn.base l.base;
  count : length l.same.items ≡ l.at;
  same : TellAllSame (g.S.PageStore.image l.fn.base) l.first l.bytes l.page_size l.same.items;
  faults : g.S.PageStore.faults l.base ≡ g.S.PageStore.faults l.fn.base;
  standing : length l.standing.items ≡ l.page_size;
}
