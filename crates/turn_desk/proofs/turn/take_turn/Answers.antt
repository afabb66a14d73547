use Rattle.std.proofs.Common.{rules, arith, ap, ◌∙◌, ◌≡◌, ◌%◌}
use Rattle.turn_desk.proofs.Keeps.{looks, takes_turn}
use Rattle.turn_desk.proofs.Turns.{as_noted}
use Rattle.turn_desk.proofs.turn.take_turn.Goals as goal

pub load-found-requires : goal.load-found-requires
load-found-requires g c = (search rules, search rules, looks g.M.Machine.steps c.args.top.now.key.value _ _ _)

pub compare_exchange-now-requires : goal.compare_exchange-now-requires
compare_exchange-now-requires g c =
    let odd = c.if-found-eq1.false in
    (search rules, search rules, takes_turn g.M.Machine.steps c.args.top.now.key.value _ _ _ _ (ap (λ m. m.1) c.load-found.ensures.2.0 ∙ c.requires.empty) (omega (arith, odd)))

pub returns-clause-taken : goal.returns-clause-taken
returns-clause-taken g c =
    let odd = c.if-found-eq1.false in
    let not_last = c.if-found.false in
    let top = c.load-found.ensures.2.1 in
    let even : c.load-found.result % 2 ≡ 0 = omega (arith, odd) in
    (as_noted g.M.Machine.steps _ _ c.args.place.now.me _ _ c.load-found.ensures.2.0 (c.compare_exchange-now.ensures.2.0 (search rules)), even, omega (arith, top, not_last, even))
