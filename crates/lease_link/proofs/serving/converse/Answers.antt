use Rattle.std.proofs.Common.{refl}
use Rattle.http_exchange.specs.declared.called.Called.{Called}
use Rattle.lease_link.specs.Serving.{asking, reading, refusing, unserved_reply}
use Rattle.lease_link.proofs.Replies.{as_read, asked, not_read, replied, spent_unread, stays_read, turns_on}
use Rattle.lease_link.proofs.serving.converse.Goals as goal

pub returns-in-Err-clause-ends : goal.returns-in-Err-clause-ends
returns-in-Err-clause-ends g c =
    reading (not_read Called (g.L.Link.left c.args.link.now) (g.L.Link.left c.read_call.new.link) (g.L.Link.faults c.args.link.now) (g.L.Link.faults c.read_call.new.link)
    c.read_call.new.turns c.in-Err.end c.in-Err.ensures.cause) c.in-Err.ensures.taken refl

pub returns-in-Err-clause-spent : goal.returns-in-Err-clause-spent
returns-in-Err-clause-spent g c =
    spent_unread Called c.args.turns.now (g.L.Link.moves c.args.link.now) c.read_call.new.turns (g.L.Link.moves c.read_call.new.link) c.in-Err.end c.in-Err.ensures.spent

pub returns-in-Ok-asked_by-clause-ends : goal.returns-in-Ok-asked_by-clause-ends
returns-in-Ok-asked_by-clause-ends g c =
    asking c.in-Ok.called c.in-Ok-asked_by.asked c.now_ms.result
    (stays_read (g.L.Link.left c.args.link.now) (g.L.Link.left c.read_call.new.link) (g.L.Link.left c.answer_ask.new.link) c.in-Ok.called
    (as_read _ _ (g.L.Link.left c.args.link.now) (g.L.Link.left c.read_call.new.link) c.in-Ok.called refl c.in-Ok.ensures.read) c.answer_ask.ensures.left)
    c.in-Ok-asked_by.ensures.ok c.now_ms.ensures.meets
    (asked _ _ c.in-Ok-asked_by.asked (g.L.Link.taken c.args.link.now) (g.L.Link.taken c.read_call.new.link) (g.L.Link.taken c.answer_ask.new.link)
    (g.L.Link.faults c.args.link.now) (g.L.Link.faults c.read_call.new.link) (g.L.Link.faults c.answer_ask.new.link) c.answer_ask.new.turns c.answer_ask.result
    c.in-Ok.ensures.taken c.in-Ok.ensures.cause c.answer_ask.ensures.answer)

pub returns-in-Ok-asked_by-clause-spent : goal.returns-in-Ok-asked_by-clause-spent
returns-in-Ok-asked_by-clause-spent g c =
    turns_on c.args.turns.now (g.L.Link.moves c.args.link.now) c.read_call.new.turns (g.L.Link.moves c.read_call.new.link) c.answer_ask.new.turns (g.L.Link.moves c.answer_ask.new.link)
    c.answer_ask.result c.in-Ok.ensures.spent.0 c.in-Ok.ensures.spent.1 c.answer_ask.ensures.spent

pub returns-clause-ends : goal.returns-clause-ends
returns-clause-ends g c =
    refusing c.in-Ok.called c.in-Err-asked_by.why
    (stays_read (g.L.Link.left c.args.link.now) (g.L.Link.left c.read_call.new.link) (g.L.Link.left c.refuse.new.link) c.in-Ok.called
    (as_read _ _ (g.L.Link.left c.args.link.now) (g.L.Link.left c.read_call.new.link) c.in-Ok.called refl c.in-Ok.ensures.read) c.refuse.ensures.left)
    c.in-Err-asked_by.ensures.unserved
    (replied (unserved_reply c.in-Err-asked_by.why) (g.L.Link.taken c.args.link.now) (g.L.Link.taken c.read_call.new.link) (g.L.Link.taken c.refuse.new.link)
    (g.L.Link.faults c.args.link.now) (g.L.Link.faults c.read_call.new.link) (g.L.Link.faults c.refuse.new.link) c.refuse.new.turns c.refuse.result
    c.in-Ok.ensures.taken c.in-Ok.ensures.cause c.refuse.ensures.reply) refl

pub returns-clause-spent : goal.returns-clause-spent
returns-clause-spent g c =
    turns_on c.args.turns.now (g.L.Link.moves c.args.link.now) c.read_call.new.turns (g.L.Link.moves c.read_call.new.link) c.refuse.new.turns (g.L.Link.moves c.refuse.new.link)
    c.refuse.result c.in-Ok.ensures.spent.0 c.in-Ok.ensures.spent.1 c.refuse.ensures.spent
