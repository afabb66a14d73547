use Rattle.world_laws.proofs.laws.safe_kept.Goals as goal
use Rattle.world_laws.proofs.Leading.{led_kept-of}
use Rattle.world_laws.proofs.Whole.{safe_kept-of}

pub returns-clause-kept : goal.returns-clause-kept
returns-clause-kept c = safe_kept-of

pub returns-clause-led : goal.returns-clause-led
returns-clause-led c = led_kept-of
