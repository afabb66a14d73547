use Rattle.std.proofs.Common.{refl, subst}
use Rattle.std.specs.Io.KnownBytes.{Appends}
use Rattle.run_child.specs.Talk.{place}
use Rattle.run_child.proofs.Talk.{asked_of, judged_of}
use Rattle.run_child.proofs.asking.exchange.Goals as goal

pub returns-in-Ok-gather-clause-asked : goal.returns-in-Ok-gather-clause-asked
returns-in-Ok-gather-clause-asked g c =
    asked_of c.args.request.now _ (place g.L.Link c.args.link.now c.args.room.now) (place g.L.Link c.send.new.link c.args.room.now)
    (place g.L.Link c.gather.new.link c.gather.new.room) c.judge.result
    (record {
      written = subst (λ text. Appends (g.L.Link.taken c.args.link.now) (g.L.Link.taken c.send.new.link) text)
          c.requires.bytes c.in-Ok.ensures.whole;
      unread = c.send.ensures.left;
      room = refl;
      faults = c.in-Ok.ensures.cause;
      unwritten = c.gather.ensures.taken;
    })
    c.in-Ok-gather.ensures.whole c.judge.ensures.said

pub returns-in-Ok-gather-clause-stopped : goal.returns-in-Ok-gather-clause-stopped
returns-in-Ok-gather-clause-stopped g c =
    judged_of c.args.request.now _ (place g.L.Link c.args.link.now c.args.room.now) (place g.L.Link c.send.new.link c.args.room.now)
    (place g.L.Link c.gather.new.link c.gather.new.room) c.judge.result
    (record {
      written = subst (λ text. Appends (g.L.Link.taken c.args.link.now) (g.L.Link.taken c.send.new.link) text)
          c.requires.bytes c.in-Ok.ensures.whole;
      unread = c.send.ensures.left;
      room = refl;
      faults = c.in-Ok.ensures.cause;
      unwritten = c.gather.ensures.taken;
    })
    c.in-Ok-gather.ensures.whole c.judge.ensures.refused
