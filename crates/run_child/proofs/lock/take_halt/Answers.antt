use Rattle.run_child.specs.Talk.{place}
use Rattle.run_child.proofs.Steps.{lock_stops}
use Rattle.run_child.proofs.lock.take_halt.Goals as goal

pub returns-in-Ok-clause-stopped : goal.returns-in-Ok-clause-stopped
returns-in-Ok-clause-stopped g c = lock_stops c.args.name.now c.in-Ok.handle.node c.in-Ok.handle.fh (place g.L.Link c.args.link.now c.args.room.now)
    (place g.L.Link c.open_lock.new.link c.open_lock.new.room) (place g.L.Link c.hold.new.link c.hold.new.room) c.hold.result
    c.in-Ok.ensures.opened c.hold.ensures.stopped
