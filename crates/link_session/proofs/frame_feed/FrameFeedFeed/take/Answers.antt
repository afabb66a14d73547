use Rattle.std.proofs.Common.{Ok, Result, ap, ◌∙◌, subst}
use Rattle.stream_wire.specs.declared.feed.Fed.{Fed}
use Rattle.stream_wire.specs.declared.wire_fault.WireFault.{WireFault}
use Rattle.stream_wire.specs.Feeding.{Feeds}
use Rattle.link_session.proofs.Frames.{frames_open, took_frame}
use Rattle.link_session.proofs.frame_feed.FrameFeedFeed.take.Goals as goal

pub returns-in-Ok-Whole-clause-took : goal.returns-in-Ok-Whole-clause-took
returns-in-Ok-Whole-clause-took c =
    took_frame c.args.self.now c.feed.new.self c.args.piece.now c.in-Ok-Whole.used c.requires
    (subst (λ (r : Result Fed WireFault). Feeds c.args.self.now c.args.piece.now r c.feed.new.self) (c.in-Ok-Whole.is ∙ ap Ok c.in-Ok-Whole.field-0-is)
    (c.feed.ensures.gives (frames_open _ _ _ c.requires).0))
