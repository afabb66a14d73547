use Rattle.backup_link.proofs.Keeps.{keeps_none}
use Rattle.backup_link.proofs.Streams.{last_frame, last_none, no_turn}
use Rattle.backup_link.proofs.following.follow_next.Goals as goal

pub returns-in-Err-clause-last : goal.returns-in-Err-clause-last
returns-in-Err-clause-last g c other = no_turn g.L.Link c.args.name.now c.args.link.now c.args.frames.now.piece _ (keeps_none _ _)

pub returns-in-Ok-next-clause-last : goal.returns-in-Ok-next-clause-last
returns-in-Ok-next-clause-last g c other =
    last_frame g.L.Link c.args.name.now c.args.link.now c.next.new.link c.args.frames.now.piece c.next.new.self.piece _ c.in-Ok-next.frame c.add_frame.result
    c.in-Ok-next.ensures.frame c.add_frame.ensures.level c.add_frame.ensures.stops (c.add_frame.ensures.same other) other

pub returns-in-Err-next-clause-last : goal.returns-in-Err-next-clause-last
returns-in-Err-next-clause-last g c other =
    last_none g.L.Link c.args.name.now c.args.link.now c.next.new.link c.args.frames.now.piece _ c.in-Err-next.why c.in-Err-next.ensures.none (keeps_none _ _)
