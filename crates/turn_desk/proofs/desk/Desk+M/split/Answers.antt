use Rattle.std.proofs.Common.{rules, arith, ap}
use Rattle.turn_desk.proofs.Keeps.{cuts, counts, draws}
use Rattle.turn_desk.proofs.desk.Desk+M.split.Goals as goal

pub split_seat-place-requires : goal.split_seat-place-requires
split_seat-place-requires g c = (search rules, search rules, cuts g.M.Machine.steps c.args.self.now.table.shared.key.value _ _)

pub load-number-requires : goal.load-number-requires
load-number-requires g c = (search rules, search rules, counts g.M.Machine.steps c.args.self.now.table.shared.key.value _ _ _)

pub compare_exchange-found-requires : goal.compare_exchange-found-requires
compare_exchange-found-requires g c =
    let most = c.load-number.ensures.2.2 in
    let left = c.if-number-eq-NUMBERS.false in
    (search rules, search rules, draws g.M.Machine.steps c.args.self.now.table.shared.key.value _ _ _ _ (ap (λ m. m.0.number) c.loop.invariant.9) (omega (arith, most, left)))
