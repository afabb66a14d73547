use Rattle.std.proofs.Common.{ap, ◌∙◌}
use Rattle.fuse_msgs.specs.Feed.{is_whole}
use Rattle.fuse_msgs.proofs.Run.{empty_unfinished}
use Rattle.fuse_msgs.proofs.feed.MessageFeed.clear.Goals as goal

pub returns-then-is_whole-clause-unfinished : goal.returns-then-is_whole-clause-unfinished
returns-then-is_whole-clause-unfinished c = ap is_whole c.clear.ensures.items ∙ empty_unfinished
