use Rattle.node_core.proofs.node.Node.take_reply.Goals as goal

pub returns-then-is_due-clause-safe : goal.returns-then-is_due-clause-safe
returns-then-is_due-clause-safe g c = rw c.if-ok.true c.finish_sent.ensures.safe
