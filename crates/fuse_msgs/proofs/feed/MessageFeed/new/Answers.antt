use Rattle.std.proofs.Common.{ap, ◌∙◌}
use Rattle.fuse_msgs.specs.Feed.{is_whole}
use Rattle.fuse_msgs.proofs.Run.{empty_unfinished}
use Rattle.fuse_msgs.proofs.feed.MessageFeed.new.Goals as goal

pub returns-clause-unfinished : goal.returns-clause-unfinished
returns-clause-unfinished c = ap is_whole c.in_ok-bytes.ensures.items ∙ empty_unfinished
