use Rattle.std.proofs.Common.{refl}
use Rattle.run_child.specs.Requests as spec
use Rattle.run_child.specs.Talk.{place}
use Rattle.run_child.proofs.Readings.{lock_answer}
use Rattle.run_child.proofs.Talk.{asked_same, stopped_same}
use Rattle.run_child.proofs.lock.ask_lock.Goals as goal

pub unreachable-requires : goal.unreachable-requires
unreachable-requires g c =
    let old = place g.L.Link c.args.link.now c.args.room.now in
    let new = place g.L.Link c.ask.new.link c.ask.new.room in
    c.in_default.not-Empty (lock_answer c.args.handle.node c.args.handle.fh c.in-Ok.answer old new
    (asked_same c.take_lock-request.result (spec.take_lock c.args.handle.node c.args.handle.fh) c.in-Ok.answer c.in-Ok.answer old new c.take_lock-request.ensures.value refl c.in-Ok.ensures.asked) c.in-Ok.ensures.answer)

pub returns-clause-stopped : goal.returns-clause-stopped
returns-clause-stopped g c = stopped_same c.take_lock-request.result (spec.take_lock c.args.handle.node c.args.handle.fh) (place g.L.Link c.args.link.now c.args.room.now)
    (place g.L.Link c.ask.new.link c.ask.new.room) c.in-Err.end c.take_lock-request.ensures.value c.in-Err.ensures.stopped
