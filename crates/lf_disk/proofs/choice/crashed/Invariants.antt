use Rattle.std.proofs.Common.{take, drop}
use Rattle.lf_disk.specs.Folder.{Same}
use Rattle.lf_disk.specs.Slots.{folder_of, IsOrderly}
use Rattle.lf_disk.specs.Crash.{left_as}
use Rattle.lf_disk.specs.Replay.{replay, at_rest}
use Rattle.lf_disk.proofs.choice.crashed.Given as goal

abbrev pub invariant-loop-call : goal.invariant-loop-call
invariant-loop-call l = record {
  left : (replay (at_rest (folder_of l.first)) (take l.call-index l.calls)).leaves (folder_of l.image.items);
  shows : Same (replay (at_rest (folder_of l.first)) (take l.call-index l.calls)).seen (folder_of l.seen.items);
  chosen : Same (left_as l.calls l.fn.number (folder_of l.first) (folder_of l.first)) (left_as (drop l.call-index l.calls) l.choices (folder_of l.seen.items) (folder_of l.image.items));
  orderly : IsOrderly l.image.items;
}
