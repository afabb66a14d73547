use Rattle.std.proofs.Common.{subst}
use Rattle.std.specs.Io.KnownBytes.{Appends}
use Rattle.run_child.specs.Talk.{Wrote, place}
use Rattle.run_child.proofs.Course.{then_wrote}
use Rattle.run_child.proofs.closing.close_handle.Goals as goal

pub returns-then-say : goal.returns-then-say
returns-then-say g c = then_wrote c.args.closing.now.release c.args.closing.now.destroy (place g.L.Link c.args.link.now c.args.room.now)
    (place g.L.Link c.say.new.link c.say.new.room) (place g.L.Link c.say-then-say.new.link c.say-then-say.new.room)
    (subst (λ text. Appends (g.L.Link.taken c.args.link.now) (g.L.Link.taken c.say.new.link) text) c.as_slice.ensures (c.say.ensures.whole c.if-say.true))
    c.say.ensures.count
    (subst (λ text. Wrote text (place g.L.Link c.say.new.link c.say.new.room) (place g.L.Link c.say-then-say.new.link c.say-then-say.new.room))
    c.as_slice-then-say.ensures c.say-then-say.ensures.wrote)
