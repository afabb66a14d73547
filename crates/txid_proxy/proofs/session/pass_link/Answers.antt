use Rattle.txid_proxy.proofs.session.pass_link.Goals as goal

pub returns-clause-session : goal.returns-clause-session
returns-clause-session g c = record { left = c.converse.new.turns; ends = rw c.new-turns.ensures at c.converse.ensures.ends }
