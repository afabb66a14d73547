use Rattle.std.proofs.Common.{rules, refl}
use Rattle.turn_desk.proofs.turn.stepped.Goals as goal

pub returns-clause-last : goal.returns-clause-last
returns-clause-last g c = (record { ask = c.of.result; answer = c.of-2.result }, refl, search rules, search rules)
