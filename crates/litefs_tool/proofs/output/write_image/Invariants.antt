use Rattle.std.proofs.Common.{◌≡◌, ◌-◌, ◌≤◌, length, take, vec_capacity}
use Rattle.std.specs.List.{concat}
use Rattle.litefs_tool.specs.steps.Buffer.{AppendsAllBut}
use Rattle.litefs_tool.proofs.output.write_image.Given as goal

-- the sink took the pages up to the number but for those in the buffer, and never failed
abbrev pub invariant-loop-number : goal.invariant-loop-number
invariant-loop-number g l = record {
  within : l.number ≤ length l.image.pages;
  taken : AppendsAllBut (g.S.Sink.taken l.fn.sink) (g.S.Sink.taken l.sink) (concat (take l.number l.image.pages)) l.buffer.items;
  room : 131072 ≤ vec_capacity l.buffer;
  faults : g.S.Sink.faults l.sink ≡ g.S.Sink.faults l.fn.sink;
}

abbrev pub decreases-loop-number : goal.decreases-loop-number
decreases-loop-number g l = length l.image.pages - l.number
