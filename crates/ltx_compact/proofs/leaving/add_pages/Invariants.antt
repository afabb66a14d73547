use Rattle.std.proofs.Common.{◌≡◌, ◌≤◌, length, drop}
use Rattle.lf_sqlite_pages.specs.Change.{last_number}
use Rattle.ltx_compact.specs.Slots.{pages_in}
use Rattle.ltx_compact.proofs.leaving.add_pages.Given as goal

-- the slots from the one reached on are as they were
abbrev pub invariant-loop-before : goal.invariant-loop-before
invariant-loop-before l = record {
  so_far : l.change ≡ record l.fn.change { pages = pages_in l.fn.change.page_size l.fn.slots l.before };
  last : last_number l.change.pages ≤ l.before;
  count : length l.slots ≡ length l.fn.slots;
  left : drop l.before l.slots ≡ drop l.before l.fn.slots;
}
