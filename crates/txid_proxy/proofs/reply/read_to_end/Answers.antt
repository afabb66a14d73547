use Rattle.std.proofs.Common.{[], arith}
use Rattle.http_exchange.proofs.Stops.{end_cause}
use Rattle.txid_proxy.proofs.Passed.{all_more}
use Rattle.txid_proxy.proofs.reply.read_to_end.Goals as goal

pub returns-in-Err-read_more-clause-cause : goal.returns-in-Err-read_more-clause-cause
returns-in-Err-read_more-clause-cause g c = rw c.at_end.ensures
    (end_cause g.L.Link c.args.link.now c.reads.link c.read_more.new.link [] c.reads.reply.items c.read_more.new.held.items 67108864 c.read_more.new.turns
    c.in-Err-read_more.end
    (all_more g.L.Link c.args.link.now c.reads.link c.reads.reply.items c.reads.invariant.gave) (omega
    (arith, c.len.ensures, c.reads-test.true)) c.in-Err-read_more.ensures.end)
