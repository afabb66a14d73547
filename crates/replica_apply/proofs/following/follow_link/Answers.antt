use Rattle.replica_apply.proofs.following.follow_link.Goals as goal

pub returns-clause-follows : goal.returns-clause-follows
returns-clause-follows g c = record { left = c.follow_all.new.session.turns; ends = c.follow_all.ensures.ends; spent = c.follow_all.ensures.spent }
