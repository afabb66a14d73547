use Rattle.std.proofs.Common.{rules, arith, sym, ap, ◌∙◌, ◌∷◌, Some}
use Rattle.atomic_table.specs.Table.{rest}
use Rattle.turn_desk.proofs.Keeps.{looks, takes_turn}
use Rattle.turn_desk.proofs.Turns.{as_noted, ends}
use Rattle.turn_desk.proofs.turn.take_out.Goals as goal

pub load-found-requires : goal.load-found-requires
load-found-requires g c = (search rules, search rules, looks g.M.Machine.steps c.args.top.now.key.value _ _ _)

pub compare_exchange-now-requires : goal.compare_exchange-now-requires
compare_exchange-now-requires g c =
    let even = c.if-found-eq0.true in
    (search rules, search rules, takes_turn g.M.Machine.steps c.args.top.now.key.value _ _ _ _ (ap (λ m. m.1) c.load-found.ensures.2.0 ∙ c.loop.invariant.3) (omega (arith, even)))

pub exchange-requires : goal.exchange-requires
exchange-requires g c =
    let took = c.compare_exchange-now.ensures.2.0 (search rules) in
    (search rules, (Some took.value, took.out ∙ ap (λ cs. (0, Some took.value) ∷ rest cs) (sym took.out)))

pub returns-then-now-found : goal.returns-then-now-found
returns-then-now-found g c =
    let took = as_noted g.M.Machine.steps _ _ c.loop.place.me _ _ c.load-found.ensures.2.0 (c.compare_exchange-now.ensures.2.0 (search rules)) in
    ends g.M.Machine.steps c.args.top.now.key.value c.load-found.result c.args.place.now.me.0 c.loop.place.me _ _ c.unwrap.result (c.loop.invariant.4 ∙ c.requires.opened) took c.exchange.ensures.2 (search rules)
    c.loop.invariant.5 c.loop.invariant.6 c.loop.invariant.7
