use Rattle.lease_core.specs.declared.lease_ask.LeaseAsk.TheVariants as ask
use Rattle.lease_link.proofs.Tables.{refused_with}
use Rattle.lease_link.proofs.answering.renew.Goals as goal

pub returns-in-Err-clause-ok : goal.returns-in-Err-clause-ok
returns-in-Err-clause-ok c =
    refused_with _ _ (ask.Renew c.args.node c.args.term) c.in-Err.fault c.refused.result c.in-Err.ensures.cause c.in-Err.ensures.unchanged c.refused.ensures.ok
