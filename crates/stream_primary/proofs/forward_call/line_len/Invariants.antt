use Rattle.std.proofs.Common.{take}
use Rattle.stream_primary.specs.ForwardCall.{IsUnbroken}
use Rattle.stream_primary.proofs.forward_call.line_len.Given as goal

abbrev pub invariant-loop-at : goal.invariant-loop-at
invariant-loop-at l = IsUnbroken (take l.at l.body)
