use Rattle.cluster_laws.proofs.ClusterNodes.{failed_forward, forwarded, sent_forward}
use Rattle.cluster_laws.proofs.laws.cluster_forwards_once.Goals as goal

pub returns-clause-stands : goal.returns-clause-stands
returns-clause-stands g c = forwarded c.forwarded_once.ensures.stands

pub returns-clause-sent : goal.returns-clause-sent
returns-clause-sent g c = sent_forward c.forwarded_once.ensures.send

pub returns-clause-failed : goal.returns-clause-failed
returns-clause-failed g c = failed_forward c.forwarded_once.ensures.refusal
