use Rattle.std.proofs.Common.{refl}
use Rattle.lease_link.specs.Learning.{grants}
use Rattle.lease_link.proofs.learning.learn_of.Goals as goal

pub returns-in-Ok : goal.returns-in-Ok
returns-in-Ok c = grants c.in-Ok.said refl (record { fits = c.in-Ok.ensures.fits; json = c.in-Ok.ensures.ok }) c.granted.ensures
