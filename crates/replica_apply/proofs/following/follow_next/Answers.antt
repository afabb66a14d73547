use Rattle.std.proofs.Common.{ℕ, true, Err, refl, sym, subst}
use Rattle.std.specs.Io.KnownBytes.{Consumes}
use Rattle.link_session.specs.Frames.{IsBrokenFrame, IsFrame, IsFramePart}
use Rattle.link_session.specs.Reading.{Held, coming}
use Rattle.link_session.specs.Stands.{asker, stand, stand_with}
use Rattle.link_session.specs.Unread.{LeavesUnread}
use Rattle.stream_wire.specs.Frame.{frame_text}
use Rattle.replica_apply.specs.Following.{between}
use Rattle.replica_apply.proofs.Streams.{behind, falls, next_followed, next_stopped}
use Rattle.replica_apply.proofs.following.follow_next.Goals as goal

pub returns-in-Err-clause-stops : goal.returns-in-Err-clause-stops
returns-in-Err-clause-stops g c =
    between c.in-Err.why
    (subst (λ (n : ℕ). LeavesUnread {T = Unit {0}} true (IsFramePart n) (IsBrokenFrame n) (coming c.args.frames.now (g.L.Link.left c.args.session.now.link.now)) (g.L.Link.left c.gather.new.link)
    (g.L.Link.faults c.args.session.now.link.now) (g.L.Link.faults c.gather.new.link) c.gather.new.turns (Err c.in-Err.why)) c.requires.1 c.in-Err.ensures.cause)
    c.end_of.ensures (record { written = c.gather.ensures.taken; asked = refl })

pub returns-clause-next : goal.returns-clause-next
returns-clause-next g c =
    rw c.follow_frame.ensures.link (next_followed (asker g.S.Steps g.C.Clock c.args.steps.now c.args.session.now.clock.now) c.args.name.now c.gather.new.self.message (frame_text c.next.result)
    (stand_with g.L.Link c.args.frames.now c.args.session.now.link.now (g.S.Steps.entries c.args.steps.now)).place
    (stand_with g.L.Link c.next.new.self c.gather.new.link (g.S.Steps.entries c.follow_frame.new.steps)).place
    (g.L.Link.faults c.args.session.now.link.now) (g.L.Link.faults c.gather.new.link) c.follow_frame.new.session.turns c.follow_frame.result
    c.next.ensures.message (subst (λ (n : ℕ). IsFrame n c.gather.new.self.message) c.requires.1 c.in-Ok.ensures.whole.0)
    (subst (λ (h : Held). Consumes (coming c.args.frames.now (g.L.Link.left c.args.session.now.link.now)) (coming h (g.L.Link.left c.gather.new.link)) c.gather.new.self.message)
    (sym c.next.ensures.next)
    (behind (coming c.args.frames.now (g.L.Link.left c.args.session.now.link.now)) (g.L.Link.left c.gather.new.link) c.gather.new.self.message c.gather.new.self.ahead c.in-Ok.ensures.same.0))
    c.gather.ensures.taken c.in-Ok.ensures.cause c.follow_frame.ensures.end)

pub returns-clause-stops : goal.returns-clause-stops
returns-clause-stops g c =
    rw c.follow_frame.ensures.link (next_stopped (asker g.S.Steps g.C.Clock c.args.steps.now c.args.session.now.clock.now) c.args.name.now (frame_text c.next.result) c.gather.new.self
    (stand_with g.L.Link c.args.frames.now c.args.session.now.link.now (g.S.Steps.entries c.args.steps.now)).place (g.L.Link.faults c.args.session.now.link.now)
    (stand g.L.Link c.gather.new.link (g.S.Steps.entries c.follow_frame.new.steps)) c.follow_frame.new.session.turns c.follow_frame.result
    c.next.ensures.message (subst (λ (n : ℕ). IsFrame n c.gather.new.self.message) c.requires.1 c.in-Ok.ensures.whole.0)
    c.in-Ok.ensures.same.0 c.gather.ensures.taken c.in-Ok.ensures.cause c.follow_frame.ensures.end)

pub returns-clause-within : goal.returns-clause-within
returns-clause-within g c =
    falls _ _ _ c.args.frames.now c.gather.new.self c.next.new.self _ _ c.follow_frame.result c.in-Ok.ensures.within
    (subst (λ (n : ℕ). IsFrame n c.gather.new.self.message) c.requires.1 c.in-Ok.ensures.whole.0) c.next.ensures.next c.follow_frame.ensures.spent
