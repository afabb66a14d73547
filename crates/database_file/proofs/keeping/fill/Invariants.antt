-- So far zeros are kept where they have to be, and the base stays.
use Rattle.std.proofs.Common.{◌≡◌, ◌≤◌, max, length}
use Rattle.std.specs.Prelude.{IfSome}
use Rattle.database_file.specs.Fault.{SameBase}
use Rattle.database_file.specs.WritingParts.{HasRooms, MayKeepZeros, KeepsZeros}
use Rattle.database_file.proofs.keeping.fill.Given as goal

abbrev pub invariant-loop-number : goal.invariant-loop-number
invariant-loop-number g l = record {
  base : SameBase g.S.PageStore l.fn.base l.base;
  zeros : MayKeepZeros l.fn.kept.pages l.fn.span.before l.number (length l.blank) l.kept.pages;
  told : IfSome (g.S.PageStore.image l.fn.base) (KeepsZeros l.kept.pages l.fn.span.before l.number (length l.blank));
  room : HasRooms l.kept l.more (length l.blank);
  faults : g.S.PageStore.faults l.base ≡ g.S.PageStore.faults l.fn.base;
  end : l.number ≤ max l.fn.span.before l.fn.span.after;
  buffer : length l.standing ≡ length l.blank;
}
