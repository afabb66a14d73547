use Rattle.std.proofs.Common.{rules, ◌≡◌, ◌++◌}
use Rattle.http_exchange.specs.Writing.{request_text}
use Rattle.http_exchange.proofs.Talking.{request_behind}
use Rattle.http_exchange.proofs.sending.send.Goals as goal

pub returns-in-Ok-write_whole-clause-end : goal.returns-in-Ok-write_whole-clause-end
returns-in-Ok-write_whole-clause-end g c =
    let is : request_text c.args.request.call.now c.args.request.host.now c.args.request.front.now c.args.request.back.now
    ≡ c.as_slice.result.now ++ (c.args.request.front.now ++ c.args.request.back.now) = search rules in
    request_behind (g.L.Link.taken c.args.link.now) (g.L.Link.taken c.write_whole.new.link) (g.L.Link.taken c.write_both.new.link) _ c.as_slice.result.now
    (c.args.request.front.now ++ c.args.request.back.now) (g.L.Link.faults c.args.link.now) (g.L.Link.faults c.write_whole.new.link) (g.L.Link.faults c.write_both.new.link) c.write_both.new.turns
    c.write_both.result is c.in-Ok-write_whole.ensures.whole c.in-Ok-write_whole.ensures.cause c.write_both.ensures.whole c.write_both.ensures.part c.write_both.ensures.cause
