use Rattle.litefs_tool.proofs.InputLemmas.{LosesBytes-past, LosesBytes-consumed}
use Rattle.litefs_tool.proofs.OutputLemmas.{if_err}
use Rattle.litefs_tool.proofs.input.read_pieces.Goals as goal

pub returns-then-room-count-clause-lost : goal.returns-then-room-count-clause-lost
returns-then-room-count-clause-lost g c =
    LosesBytes-past _ _ _ _ _ _ _ _ c.loop-count.invariant.some c.in_ok-count.ensures.bytes.0 c.in_ok-count.ensures.count.0 c.if-room-count.true

pub returns-in_err-consumer-clause-lost : goal.returns-in_err-consumer-clause-lost
returns-in_err-consumer-clause-lost g c =
    if_err _ _ _ c.from_residual-in_err-consumer.ensures.1
    (λ why is. LosesBytes-consumed _ _ _ _ _ _ _ why c.loop-count.invariant.some c.in_ok-count.ensures.bytes.0 is)
