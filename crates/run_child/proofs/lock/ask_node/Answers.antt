use Rattle.std.proofs.Common.{refl}
use Rattle.run_child.specs.Requests as spec
use Rattle.run_child.specs.Talk.{place}
use Rattle.run_child.proofs.Readings.{look_up_answer}
use Rattle.run_child.proofs.Talk.{asked_same, stopped_same}
use Rattle.run_child.proofs.lock.ask_node.Goals as goal

pub unreachable-requires : goal.unreachable-requires
unreachable-requires g c =
    let old = place g.L.Link c.args.link.now c.args.room.now in
    let new = place g.L.Link c.ask.new.link c.ask.new.room in
    let found = look_up_answer c.args.name.now c.in-Ok-ask.answer old new
    (asked_same c.in-Ok.request (spec.look_up c.args.name.now) c.in-Ok-ask.answer c.in-Ok-ask.answer old new c.in-Ok.ensures.value refl c.in-Ok-ask.ensures.asked) c.in-Ok-ask.ensures.answer in
    c.in_default-answer.not-Entry found.0 found.1 found.2

pub returns-clause-stopped : goal.returns-clause-stopped
returns-clause-stopped g c = stopped_same c.in-Ok.request (spec.look_up c.args.name.now) (place g.L.Link c.args.link.now c.args.room.now)
    (place g.L.Link c.ask.new.link c.ask.new.room) c.in-Err.end c.in-Ok.ensures.value c.in-Err.ensures.stopped
