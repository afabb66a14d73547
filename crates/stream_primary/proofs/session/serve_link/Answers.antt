use Rattle.stream_primary.proofs.session.serve_link.Goals as goal

pub returns-clause-session : goal.returns-clause-session
returns-clause-session g c = record { left = c.converse.new.session.turns; ends = c.converse.ensures.ends; spent = c.converse.ensures.spent }
