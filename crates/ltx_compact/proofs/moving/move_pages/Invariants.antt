use Rattle.std.proofs.Common.{◌≡◌, ◌≤◌, length}
use Rattle.std.specs.List.{All}
use Rattle.std.specs.Vec.Iter.{into_iter_items, into_iter_len}
use Rattle.lf_sqlite_pages.specs.Change.{written}
use Rattle.ltx_compact.specs.Slots.{Slots, AreFilled}
use Rattle.ltx_compact.proofs.moving.move_pages.Given as goal

-- filling the slots with the pages that are left fills those of the beginning with all pages
abbrev pub invariant-loop-page : goal.invariant-loop-page
invariant-loop-page l = record {
  counted : into_iter_len l.page-iterator ≡ length (into_iter_items l.page-iterator);
  numbered : All (λ page. 1 ≤ page.number) (into_iter_items l.page-iterator);
  filled : (after : Slots) → AreFilled l.slots (written (into_iter_items l.page-iterator)) after → AreFilled l.fn.slots (written l.fn.pages.items) after;
}
