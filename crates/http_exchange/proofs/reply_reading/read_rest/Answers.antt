use Rattle.std.proofs.Common.{arith}
use Rattle.http_exchange.proofs.Stops.{fewer_faults, fewer_turns}
use Rattle.http_exchange.proofs.Replies.{none_long, none_sized, none_unsaid, rest_sized, unsaid_untold, unsaid_whole}
use Rattle.http_exchange.proofs.reply_reading.read_rest.Goals as goal

pub returns-then-length-limit-clause-untold : goal.returns-then-length-limit-clause-untold
returns-then-length-limit-clause-untold g c = λ bytes size status h is.
    none_long g.L.Link _ bytes c.args.link.now size status c.in-Some.length (rw c.in-Some.is at h) c.if-length-limit.true

pub returns-in-Ok-clause-whole : goal.returns-in-Ok-clause-whole
returns-in-Ok-clause-whole g c = λ bytes size status h is.
    rest_sized g.L.Link _ bytes c.args.body.now.items c.args.link.now c.read_sized.new.link size status c.in-Some.length c.read_sized.new.body.items (rw c.in-Some.is at h) is
    (omega (arith, c.if-length-limit.false)) c.in-Ok.ensures.whole

pub returns-in-Err-clause-untold : goal.returns-in-Err-clause-untold
returns-in-Err-clause-untold g c = rw c.untold_by.ensures (λ bytes size status h is.
    none_sized g.L.Link _ bytes c.args.body.now.items c.args.link.now c.read_sized.new.link size status c.in-Some.length c.read_sized.new.turns c.in-Err.end (rw c.in-Some.is at h) is
    (omega (arith, c.if-length-limit.false)) c.in-Err.ensures.cause)

pub returns-in-Err-clause-fault : goal.returns-in-Err-clause-fault
returns-in-Err-clause-fault g c = rw c.untold_by.ensures
    (fewer_faults g.L.Link c.args.link.now c.read_sized.new.link c.args.body.now.items c.in-Some.length c.read_sized.new.turns c.in-Err.end c.in-Err.ensures.cause)

pub returns-in-Err-clause-turns : goal.returns-in-Err-clause-turns
returns-in-Err-clause-turns g c = rw c.untold_by.ensures
    (fewer_turns g.L.Link c.args.link.now c.read_sized.new.link c.args.body.now.items c.in-Some.length c.args.turns.now c.read_sized.new.turns c.in-Err.end
    c.read_sized.ensures.turns c.in-Err.ensures.cause)

pub returns-then-sized-clause-untold : goal.returns-then-sized-clause-untold
returns-then-sized-clause-untold g c = λ bytes size status h is.
    none_unsaid g.L.Link _ bytes c.args.link.now size status (rw c.in-None.is at h) c.if-sized.true

pub returns-else-sized-clause-whole : goal.returns-else-sized-clause-whole
returns-else-sized-clause-whole g c =
    unsaid_whole g.L.Link (record { sized = c.args.sized; limit = c.args.limit }) c.args.body.now.items c.read_to_end.new.body.items c.args.link.now c.read_to_end.new.link c.args.length c.read_to_end.result
    c.in-None.is c.if-sized.false c.read_to_end.ensures.whole

pub returns-else-sized-clause-untold : goal.returns-else-sized-clause-untold
returns-else-sized-clause-untold g c =
    unsaid_untold g.L.Link (record { sized = c.args.sized; limit = c.args.limit }) c.args.body.now.items c.args.link.now c.read_to_end.new.link c.args.length c.read_to_end.result
    c.in-None.is c.if-sized.false c.read_to_end.ensures.cause
