use Rattle.link_session.proofs.Seats.{goes_on, if_ok, step_gives}
use Rattle.node_mount.proofs.hearing.HeardSeatSteps.ask.Goals as goal

pub returns-clause-gives : goal.returns-clause-gives
returns-clause-gives g c = if_ok c.step-answered.result (λ answer h. step_gives _ _ _ _ _ _ _ h) c.step-answered.ensures.ok

pub returns-clause-on : goal.returns-clause-on
returns-clause-on g c = goes_on _ _ _ _ _ _ c.step-answered.result c.step-answered.ensures.ok c.step-answered.ensures.same
