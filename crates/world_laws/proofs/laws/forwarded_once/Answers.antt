use Rattle.world_laws.proofs.laws.forwarded_once.Goals as goal
use Rattle.world_laws.proofs.Forwarding.{forwarded-of, refusal_leaves-of, send_leaves-of}

pub returns-clause-stands : goal.returns-clause-stands
returns-clause-stands c = forwarded-of

pub returns-clause-send : goal.returns-clause-send
returns-clause-send c = send_leaves-of

pub returns-clause-refusal : goal.returns-clause-refusal
returns-clause-refusal c = refusal_leaves-of
