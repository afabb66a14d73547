use Rattle.replica_apply.proofs.Heads.{empty_head}
use Rattle.replica_apply.proofs.head_feed.HeadFeedFeed.next.Goals as goal

pub invariant_of-self : goal.invariant_of-self
invariant_of-self c = empty_head c.take.new.self c.new.result.items c.take.ensures.after c.new.ensures.items
