use Rattle.run_child.specs.Talk.{place}
use Rattle.run_child.proofs.Steps.{open_stops}
use Rattle.run_child.proofs.lock.open_lock.Goals as goal

pub returns-in-Err-ask_open-clause-stopped : goal.returns-in-Err-ask_open-clause-stopped
returns-in-Err-ask_open-clause-stopped g c = open_stops c.args.name.now c.in-Ok.node (place g.L.Link c.args.link.now c.args.room.now)
    (place g.L.Link c.find_lock.new.link c.find_lock.new.room) (place g.L.Link c.ask_open.new.link c.ask_open.new.room) c.in-Err-ask_open.end
    c.in-Ok.ensures.found c.in-Err-ask_open.ensures.stopped
