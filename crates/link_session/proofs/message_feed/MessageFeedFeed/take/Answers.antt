use Rattle.std.proofs.Common.{Ok, ap, ◌∙◌}
use Rattle.link_session.proofs.Feeds.{took_whole, is_open}
use Rattle.link_session.proofs.message_feed.MessageFeedFeed.take.Goals as goal

pub returns-in-Ok-Whole-clause-took : goal.returns-in-Ok-Whole-clause-took
returns-in-Ok-Whole-clause-took c =
    took_whole c.args.self.now c.args.piece.now c.feed.new.self c.in-Ok-Whole.used _ (is_open _ c.requires) c.feed.ensures.answer c.feed.ensures.held c.feed.ensures.whole
    (c.in-Ok-Whole.is ∙ ap Ok c.in-Ok-Whole.field-0-is) c.feed.ensures.used
