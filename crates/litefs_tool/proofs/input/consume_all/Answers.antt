use Rattle.litefs_tool.proofs.ConsumerLemmas.{HasConsumedPrefix-more}
use Rattle.litefs_tool.proofs.input.consume_all.Goals as goal

pub loop-rest-preserved : goal.loop-rest-preserved
loop-rest-preserved g c = rw c.split_at.ensures.back (HasConsumedPrefix-more g.T.Consumer.has_consumed c.args.consumer c.loop-rest.consumer c.in_ok-next.next
    c.args.bytes.now c.loop-rest.rest.now c.in_ok-next.used c.loop-rest.invariant c.in_ok-next.ensures.consumed)
