use Rattle.http_exchange.proofs.Stops.{faults_on, turns_on}
use Rattle.http_exchange.proofs.Talking.{letter_has_bytes, sending_faults, sending_turns, talk_ends, talk_sent}
use Rattle.http_exchange.proofs.posting.post.Goals as goal

pub returns-in-Ok-clause-talks : goal.returns-in-Ok-clause-talks
returns-in-Ok-clause-talks g c =
    talk_sent g.L.Link _ c.args.link.now c.send_letter.new.link c.read_reply.new.link c.read_reply.result c.send_letter.ensures.left.1 c.in-Ok.ensures.end.0 c.read_reply.ensures.reads

pub returns-in-Ok-clause-fault : goal.returns-in-Ok-clause-fault
returns-in-Ok-clause-fault g c =
    faults_on (g.L.Link.faults c.args.link.now) (g.L.Link.faults c.send_letter.new.link) (g.L.Link.faults c.read_reply.new.link) c.read_reply.result c.in-Ok.ensures.end.1 c.read_reply.ensures.fault

pub returns-in-Ok-clause-turns : goal.returns-in-Ok-clause-turns
returns-in-Ok-clause-turns g c = turns_on c.args.turns.now c.send_letter.new.turns c.read_reply.new.turns c.read_reply.result c.send_letter.ensures.turns c.read_reply.ensures.turns

pub returns-in-Err-clause-talks : goal.returns-in-Err-clause-talks
returns-in-Err-clause-talks g c = rw c.untold_by.ensures
    (talk_ends g.L.Link _ c.args.link.now c.send_letter.new.link c.send_letter.new.turns c.in-Err.end c.send_letter.ensures.left.1
    (letter_has_bytes c.args.letter.method.now c.args.letter.path.now c.args.host.now c.args.letter.body.now) c.in-Err.ensures.end)

pub returns-in-Err-clause-fault : goal.returns-in-Err-clause-fault
returns-in-Err-clause-fault g c = rw c.untold_by.ensures
    (sending_faults _ (g.L.Link.taken c.args.link.now) (g.L.Link.taken c.send_letter.new.link) (g.L.Link.faults c.args.link.now) (g.L.Link.faults c.send_letter.new.link) c.send_letter.new.turns c.in-Err.end c.in-Err.ensures.end)

pub returns-in-Err-clause-turns : goal.returns-in-Err-clause-turns
returns-in-Err-clause-turns g c = rw c.untold_by.ensures
    (sending_turns _ (g.L.Link.taken c.args.link.now) (g.L.Link.taken c.send_letter.new.link) (g.L.Link.faults c.args.link.now) (g.L.Link.faults c.send_letter.new.link) c.args.turns.now c.send_letter.new.turns c.in-Err.end
    c.send_letter.ensures.turns c.in-Err.ensures.end)
