use Rattle.std.proofs.Common.{◌∙◌}
use Rattle.http_exchange.proofs.Talking.{text_sent}
use Rattle.http_exchange.proofs.posting.send_letter.Goals as goal

pub returns-clause-end : goal.returns-clause-end
returns-clause-end g c =
    text_sent (g.L.Link.taken c.args.link.now) (g.L.Link.taken c.write_whole.new.link) _ c.as_slice.result.now (g.L.Link.faults c.args.link.now) (g.L.Link.faults c.write_whole.new.link)
    c.write_whole.new.turns c.write_whole.result (c.as_slice.ensures.value ∙ c.in-Ok.ensures) c.write_whole.ensures.whole c.write_whole.ensures.part c.write_whole.ensures.cause
