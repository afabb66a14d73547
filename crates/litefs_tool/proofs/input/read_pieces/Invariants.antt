use Rattle.std.proofs.Common.{◌≡◌}
use Rattle.litefs_tool.proofs.InputLemmas.{HasConsumedSome}
use Rattle.litefs_tool.proofs.input.read_pieces.Given as goal

-- the consumer took what the source gave so far, and the source never failed
abbrev pub invariant-loop-count : goal.invariant-loop-count
invariant-loop-count g l = record {
  some : HasConsumedSome (g.T.Consumer.has_consumed l.consumer) l.limit l.room (g.S.Source.left l.fn.source) (g.S.Source.left l.source);
  faults : g.S.Source.faults l.source ≡ g.S.Source.faults l.fn.source;
}

abbrev pub decreases-loop-count : goal.decreases-loop-count
decreases-loop-count g l = l.room
