use Rattle.std.proofs.Common.{List, ℕ, drop, ap, subst, ◌∙◌}
use Rattle.http_exchange.specs.declared.called.Body.{Body}
use Rattle.http_exchange.specs.declared.called.Called.{Called}
use Rattle.http_exchange.specs.declared.wants.Kept.{Kept}
use Rattle.http_exchange.specs.Called.{ReadsBody}
use Rattle.http_exchange.proofs.Calls.{call_body_ends, was_called}
use Rattle.http_exchange.proofs.call_reading.read_call.Goals as goal

pub returns-in-Ok-read_call_body-clause-read : goal.returns-in-Ok-read_call_body-clause-read
returns-in-Ok-read_call_body-clause-read g c =
    was_called g.W.Wants c.args.wants.now (g.L.Link.left c.args.link.now) (g.L.Link.left c.read_call_head.new.link) (g.L.Link.left c.read_call_body.new.link) c.read_call_head.new.held.items
    c.in-Ok-read_call_head.head.used c.in-Ok-read_call_head.head.length (record { head = c.of.result; call = c.in-Ok-read_call_head.head.call; body = c.in-Ok-read_call_body.body })
    c.in-Ok-read_call_head.ensures.head (c.of.ensures ∙ c.truncate.ensures.items) c.in-Ok-read_call_head.ensures.read
    (subst (λ (kept : Kept). ReadsBody kept c.read_call_head.new.held.items c.in-Ok-read_call_head.head.used c.in-Ok-read_call_head.head.length (g.L.Link.left c.read_call_head.new.link)
    (g.L.Link.left c.read_call_body.new.link) c.in-Ok-read_call_body.body) c.keeps-kept.ensures
    (c.in-Ok-read_call_body.ensures.body c.read_call_head.new.held.items c.in-Ok-read_call_head.head.used c.in-Ok-read_call_head.head.call c.in-Ok-read_call_head.ensures.head
    (c.split_at.ensures.back ∙ ap (λ (xs : List ℕ). drop c.in-Ok-read_call_head.head.used xs) c.as_slice.ensures.value)))

pub returns-clause-cause : goal.returns-clause-cause
returns-clause-cause g c =
    call_body_ends Body Called g.L.Link c.read_call_head.new.link c.read_call_body.new.link c.read_call_head.new.held.items _ c.in-Ok-read_call_head.head.used
    c.in-Ok-read_call_head.head.length c.in-Ok-read_call_head.head.call (g.L.Link.left c.args.link.now) (g.L.Link.faults c.args.link.now) c.read_call_body.new.turns c.in-Err-read_call_body.end
    c.in-Ok-read_call_head.ensures.head (c.split_at.ensures.back ∙ ap (λ (xs : List ℕ). drop c.in-Ok-read_call_head.head.used xs) c.as_slice.ensures.value)
    c.in-Ok-read_call_head.ensures.read c.in-Ok-read_call_head.ensures.cause c.in-Err-read_call_body.ensures.cause
