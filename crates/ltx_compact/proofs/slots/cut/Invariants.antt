use Rattle.std.proofs.Common.{◌≡◌, ◌≤◌}
use Rattle.ltx_compact.specs.Slots.{AreFilled, cut_page}
use Rattle.ltx_compact.proofs.slots.cut.Given as goal

-- the pages past commit, up to the one reached, are cut off; none is where low is not past commit
abbrev pub invariant-loop-index : goal.invariant-loop-index
invariant-loop-index l = record {
  filled : AreFilled l.fn.slots (cut_page l.commit l.index l.zeros) l.slots;
  none : l.low ≤ l.commit → l.index ≡ l.commit;
}
