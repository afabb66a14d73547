use Rattle.run_child.specs.Talk.{place}
use Rattle.run_child.proofs.Steps.{look_up_stops}
use Rattle.run_child.proofs.lock.find_lock.Goals as goal

pub returns-in-Ok-clause-stopped : goal.returns-in-Ok-clause-stopped
returns-in-Ok-clause-stopped g c = look_up_stops c.args.name.now (place g.L.Link c.args.link.now c.args.room.now)
    (place g.L.Link c.begin.new.link c.begin.new.room) (place g.L.Link c.ask_node.new.link c.ask_node.new.room) c.ask_node.result
    c.in-Ok.ensures.begun c.ask_node.ensures.stopped
