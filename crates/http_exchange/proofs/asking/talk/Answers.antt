use Rattle.http_exchange.proofs.Stops.{faults_on, turns_on}
use Rattle.http_exchange.proofs.Talking.{request_has_bytes, sending_faults, sending_turns, talk_ends, talk_sent}
use Rattle.http_exchange.proofs.asking.talk.Goals as goal

pub returns-in-Ok-clause-talks : goal.returns-in-Ok-clause-talks
returns-in-Ok-clause-talks g c =
    talk_sent g.L.Link _ c.args.link.now c.send.new.link c.read_reply.new.link c.read_reply.result c.send.ensures.left.1 c.in-Ok.ensures.end.0 c.read_reply.ensures.reads

pub returns-in-Ok-clause-fault : goal.returns-in-Ok-clause-fault
returns-in-Ok-clause-fault g c =
    faults_on (g.L.Link.faults c.args.link.now) (g.L.Link.faults c.send.new.link) (g.L.Link.faults c.read_reply.new.link) c.read_reply.result c.in-Ok.ensures.end.1 c.read_reply.ensures.fault

pub returns-in-Ok-clause-turns : goal.returns-in-Ok-clause-turns
returns-in-Ok-clause-turns g c = turns_on c.args.turns.now c.send.new.turns c.read_reply.new.turns c.read_reply.result c.send.ensures.turns c.read_reply.ensures.turns

pub returns-in-Err-clause-talks : goal.returns-in-Err-clause-talks
returns-in-Err-clause-talks g c = rw c.untold_by.ensures
    (talk_ends g.L.Link _ c.args.link.now c.send.new.link c.send.new.turns c.in-Err.end c.send.ensures.left.1
    (request_has_bytes c.args.request.call.now c.args.request.host.now c.args.request.front.now c.args.request.back.now) c.in-Err.ensures.end)

pub returns-in-Err-clause-fault : goal.returns-in-Err-clause-fault
returns-in-Err-clause-fault g c = rw c.untold_by.ensures
    (sending_faults _ (g.L.Link.taken c.args.link.now) (g.L.Link.taken c.send.new.link) (g.L.Link.faults c.args.link.now) (g.L.Link.faults c.send.new.link) c.send.new.turns c.in-Err.end c.in-Err.ensures.end)

pub returns-in-Err-clause-turns : goal.returns-in-Err-clause-turns
returns-in-Err-clause-turns g c = rw c.untold_by.ensures
    (sending_turns _ (g.L.Link.taken c.args.link.now) (g.L.Link.taken c.send.new.link) (g.L.Link.faults c.args.link.now) (g.L.Link.faults c.send.new.link) c.args.turns.now c.send.new.turns c.in-Err.end
    c.send.ensures.turns c.in-Err.ensures.end)
