use Rattle.std.proofs.Common.{refl}
use Rattle.run_child.specs.Requests as spec
use Rattle.run_child.specs.Talk.{place}
use Rattle.run_child.proofs.Readings.{open_answer}
use Rattle.run_child.proofs.Talk.{asked_same, stopped_same}
use Rattle.run_child.proofs.lock.ask_open.Goals as goal

pub unreachable-requires : goal.unreachable-requires
unreachable-requires g c =
    let old = place g.L.Link c.args.link.now c.args.room.now in
    let new = place g.L.Link c.ask.new.link c.ask.new.room in
    let found = open_answer c.args.node c.in-Ok.answer old new
    (asked_same c.open_file-request.result (spec.open_file c.args.node) c.in-Ok.answer c.in-Ok.answer old new c.open_file-request.ensures.value refl c.in-Ok.ensures.asked) c.in-Ok.ensures.answer in
    c.in_default.not-Opened found.0 found.1

pub returns-clause-stopped : goal.returns-clause-stopped
returns-clause-stopped g c = stopped_same c.open_file-request.result (spec.open_file c.args.node) (place g.L.Link c.args.link.now c.args.room.now)
    (place g.L.Link c.ask.new.link c.ask.new.room) c.in-Err.end c.open_file-request.ensures.value c.in-Err.ensures.stopped
