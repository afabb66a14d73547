use Rattle.std.proofs.Common.{rules, arith, sym, ap, subst, ◌∙◌, ◌∷◌, Some}
use Rattle.atomic_table.specs.Table.{rest}
use Rattle.turn_desk.proofs.Keeps.{gives_turn}
use Rattle.turn_desk.proofs.Turns.{home_again, done}
use Rattle.turn_desk.proofs.turn.try_turn.Goals as goal

pub exchange-requires : goal.exchange-requires
exchange-requires g c =
    let took = c.in-Ok.ensures.taken.0 in
    (search rules, (Some took.value, took.out ∙ ap (λ cs. (0, Some took.value) ∷ rest cs) (sym took.out)))

pub store-requires : goal.store-requires
store-requires g c =
    let h = home_again g.M.Machine.steps c.args.top.now.key.value c.args.number c.in-Ok.found c.args.place.now.me _ _ _ _ c.unwrap-value.result c.stepped-value.result.0 c.requires.opened c.requires.seated c.in-Ok.ensures.taken.0 c.exchange.ensures.2 c.exchange.ensures.3 (search rules) c.exchange-out.ensures.3 in
    let t' = c.stepped-value.result.0 in
    let l = c.stepped-value.ensures.last in
    let step = c.stepped-value.ensures.step in
    let count = h.0.count in
    let below = c.in-Ok.ensures.taken.2 in (
      search rules,
      search rules,
      gives_turn g.M.Machine.steps c.args.top.now.key.value _ _ _ _ c.args.number t' l.0 c.unwrap-value.result.machine h.1 h.0.holds h.0.number_is l.1 h.0.run
          (subst (λ z. g.M.Machine.steps c.unwrap-value.result.machine c.args.number z l.0.answer.value t'.machine) (sym l.2)
          (subst (λ z. g.M.Machine.steps c.unwrap-value.result.machine c.args.number c.args.ask.now z t'.machine) (sym l.3) step))
          (omega (arith, count)) (omega (arith, count, below)),
    )

pub returns-clause-seated : goal.returns-clause-seated
returns-clause-seated g c =
    let h = home_again g.M.Machine.steps c.args.top.now.key.value c.args.number c.in-Ok.found c.args.place.now.me _ _ _ _ c.unwrap-value.result c.stepped-value.result.0 c.requires.opened c.requires.seated c.in-Ok.ensures.taken.0 c.exchange.ensures.2 c.exchange.ensures.3 (search rules) c.exchange-out.ensures.3 in
    (done g.M.Machine.steps c.args.top.now.key.value c.args.number c.in-Ok.found _ _ c.stepped-value.result.0 c.args.ask.now _ _ _ c.in-Ok.ensures.taken.2 h.0 h.1 c.stepped-value.ensures.last c.stepped-value.ensures.step c.store.ensures.2).ready

pub returns-clause-ok : goal.returns-clause-ok
returns-clause-ok g c =
    let h = home_again g.M.Machine.steps c.args.top.now.key.value c.args.number c.in-Ok.found c.args.place.now.me _ _ _ _ c.unwrap-value.result c.stepped-value.result.0 c.requires.opened c.requires.seated c.in-Ok.ensures.taken.0 c.exchange.ensures.2 c.exchange.ensures.3 (search rules) c.exchange-out.ensures.3 in
    (done g.M.Machine.steps c.args.top.now.key.value c.args.number c.in-Ok.found _ _ c.stepped-value.result.0 c.args.ask.now _ _ _ c.in-Ok.ensures.taken.2 h.0 h.1 c.stepped-value.ensures.last c.stepped-value.ensures.step c.store.ensures.2).stepped
