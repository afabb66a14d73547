use Rattle.lease_core.specs.declared.lease_ask.LeaseAsk.TheVariants as ask
use Rattle.lease_link.proofs.Tables.{refused_or_starved}
use Rattle.lease_link.proofs.answering.acquire.Goals as goal

pub returns-in-Err-clause-ok : goal.returns-in-Err-clause-ok
returns-in-Err-clause-ok c =
    refused_or_starved _ _ (ask.Acquire c.args.node c.args.url.now c.args.host.now) c.in-Err.fault c.refused.result c.in-Err.ensures.cause c.in-Err.ensures.unchanged c.refused.ensures.ok
