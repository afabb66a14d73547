-- The pages so far were noted, and what was added can be let go.
use Rattle.std.proofs.Common.{◌≡◌, ◌+◌, ◌<◌, ◌≤◌, ℕ, length, get_or}
use Rattle.std.specs.Prelude.{IfSome}
use Rattle.lf_sqlite_pages.specs.Image.{DatabaseImage}
use Rattle.lf_sqlite_pages.specs.declared.page_write.PageWrite.{PageWrite}
use Rattle.database_file.specs.DatabaseFile.{FitsShape, KeepsDifferences}
use Rattle.database_file.specs.Fault.{SameBase}
use Rattle.database_under_log.specs.HoldingParts.{IsBack, AreBelow, ReadsOn, StaysBy, StaysTo}
use Rattle.database_under_log.proofs.holding.hold_pages.Given as goal

abbrev pub invariant-loop-at : goal.invariant-loop-at
invariant-loop-at g l = record {
  base : SameBase g.S.PageStore l.fn.base l.base;
  faults : g.S.PageStore.faults l.base ≡ g.S.PageStore.faults l.fn.base;
  page : length l.page ≡ l.change.page_size;
  page_size : l.file.page_size ≡ l.fn.file.page_size;
  count_is : l.file.count ≡ l.fn.file.count;
  back : IsBack l.fn.file.kept l.file.kept l.held.added.items;
  fits : FitsShape l.file (g.S.PageStore.page_size l.fn.base) (g.S.PageStore.commit l.fn.base);
  low : (k : ℕ) (d : PageWrite) → l.at ≤ k → k < length l.pages → AreBelow l.held.same.items (get_or l.pages k d).number;
  few : AreBelow l.held.same.items (l.change.commit + 1);
  told : IfSome (g.S.PageStore.image l.fn.base)
      (λ (i : DatabaseImage). KeepsDifferences l.fn.file i → ReadsOn l.fn.file l.file i × StaysBy l.fn.file l.file l.held.same.items i l.change l.at);
}

abbrev pub invariant-loop-before : goal.invariant-loop-before
invariant-loop-before g l = record {
  base : SameBase g.S.PageStore l.fn.base l.base;
  faults : g.S.PageStore.faults l.base ≡ g.S.PageStore.faults l.fn.base;
  page : length l.page ≡ l.change.page_size;
  page_size : l.file.page_size ≡ l.fn.file.page_size;
  count_is : l.file.count ≡ l.fn.file.count;
  back : IsBack l.fn.file.kept l.file.kept l.held.added.items;
  fits : FitsShape l.file (g.S.PageStore.page_size l.fn.base) (g.S.PageStore.commit l.fn.base);
  from : l.change.commit ≤ l.before;
  few : AreBelow l.held.same.items (l.before + 1);
  told : IfSome (g.S.PageStore.image l.fn.base)
      (λ (i : DatabaseImage). KeepsDifferences l.fn.file i → ReadsOn l.fn.file l.file i × StaysTo l.fn.file l.file l.held.same.items i l.change l.before);
}
