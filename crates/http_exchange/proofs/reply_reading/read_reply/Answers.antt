use Rattle.std.proofs.Common.{List, ℕ, [], ap, drop, ◌∙◌}
use Rattle.http_exchange.proofs.Giving.{gave_none}
use Rattle.http_exchange.proofs.Replies.{told_rest, untold_head, untold_memory, untold_rest, within}
use Rattle.http_exchange.proofs.reply_reading.read_reply.Goals as goal

pub returns-in-Err-clause-reads : goal.returns-in-Err-clause-reads
returns-in-Err-clause-reads g c = untold_memory g.L.Link _ c.args.link.now c.args.link.now [] (gave_none g.L.Link c.args.link.now)

pub returns-in-Err-read_reply_head-clause-reads : goal.returns-in-Err-read_reply_head-clause-reads
returns-in-Err-read_reply_head-clause-reads g c =
    untold_head g.L.Link _ c.args.link.now c.read_reply_head.new.link c.in-Err-read_reply_head.why (c.in-Err-read_reply_head.ensures.untold _)

pub split_at-requires : goal.split_at-requires
split_at-requires g c = rw c.as_slice.ensures.value
    (within c.read_reply_head.new.held.items c.in-Ok-read_reply_head.head.used c.in-Ok-read_reply_head.head.status c.in-Ok-read_reply_head.head.length c.in-Ok-read_reply_head.ensures.head)

pub returns-in-Err-from_slice-clause-reads : goal.returns-in-Err-from_slice-clause-reads
returns-in-Err-from_slice-clause-reads g c =
    untold_memory g.L.Link _ c.args.link.now c.read_reply_head.new.link c.read_reply_head.new.held.items c.in-Ok-read_reply_head.ensures.gave

pub returns-in-Ok-read_rest-clause-reads : goal.returns-in-Ok-read_rest-clause-reads
returns-in-Ok-read_rest-clause-reads g c = rw c.of.ensures
    (told_rest g.L.Link _ c.args.link.now c.read_reply_head.new.link c.read_rest.new.link c.read_reply_head.new.held.items _ c.in-Ok-read_reply_head.ensures.gave
    (c.in-Ok-read_rest.ensures.whole c.read_reply_head.new.held.items c.in-Ok-read_reply_head.head.used c.in-Ok-read_reply_head.head.status c.in-Ok-read_reply_head.ensures.head
    (c.in-Ok-from_slice.ensures.items ∙ c.split_at.ensures.back ∙ ap (λ (xs : List ℕ). drop c.in-Ok-read_reply_head.head.used xs) c.as_slice.ensures.value)))

pub returns-clause-reads : goal.returns-clause-reads
returns-clause-reads g c =
    untold_rest g.L.Link _ c.args.link.now c.read_reply_head.new.link c.read_rest.new.link c.read_reply_head.new.held.items c.in-Err-read_rest.why c.in-Ok-read_reply_head.ensures.gave
    (c.in-Err-read_rest.ensures.untold c.read_reply_head.new.held.items c.in-Ok-read_reply_head.head.used c.in-Ok-read_reply_head.head.status c.in-Ok-read_reply_head.ensures.head
    (c.in-Ok-from_slice.ensures.items ∙ c.split_at.ensures.back ∙ ap (λ (xs : List ℕ). drop c.in-Ok-read_reply_head.head.used xs) c.as_slice.ensures.value))
