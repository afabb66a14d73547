use Rattle.cluster_laws.proofs.Leading.{service_is_event-of, service_leads-of}
use Rattle.cluster_laws.proofs.laws.service_leads.Goals as goal

pub returns-clause-event : goal.returns-clause-event
returns-clause-event c = service_is_event-of

pub returns-clause-leads : goal.returns-clause-leads
returns-clause-leads c = service_leads-of c.holder_believes.ensures.holder
