-- The text so far is that of the pages so far, and the base stays.
use Rattle.std.proofs.Common.{◌≡◌, ◌+◌, ◌-◌, ◌*◌, length, map}
use Rattle.std.specs.Prelude.{IfSome}
use Rattle.std.specs.List.{concat, range_with_len}
use Rattle.lf_sqlite_pages.specs.Image.{DatabaseImage}
use Rattle.database_file.specs.DatabaseFile.{page_of, without_pages}
use Rattle.database_file.specs.Fault.{SameBase}
use Rattle.database_file.proofs.database_file.DatabaseFile.append_all.Given as goal

abbrev pub invariant-loop-number : goal.invariant-loop-number
invariant-loop-number g l = record {
  base : SameBase g.S.PageStore l.fn.base l.base;
  bytes : IfSome (g.S.PageStore.image l.fn.base)
      (λ (i : DatabaseImage). l.text.items ≡ concat (map (page_of (without_pages l.self l.passed) i) (range_with_len (l.fn.span.before + 1) (l.number - l.fn.span.before))));
  faults : g.S.PageStore.faults l.base ≡ g.S.PageStore.faults l.fn.base;
  size : length l.text.items ≡ (l.number - l.fn.span.before) * l.page_size;
}
