use Rattle.link_session.proofs.Seats.{goes_on, if_ok, step_gives}
use Rattle.link_session.proofs.seat.AtSeatSteps.ask.Goals as goal

pub returns-clause-gives : goal.returns-clause-gives
returns-clause-gives g c = if_ok c.step.result (λ answer h. step_gives _ _ _ _ _ _ _ h) c.step.ensures.ok

pub returns-clause-on : goal.returns-clause-on
returns-clause-on g c = goes_on _ _ _ _ _ _ c.step.result c.step.ensures.ok c.step.ensures.same
