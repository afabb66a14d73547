use Rattle.std.proofs.Common.{rules, ◌≡◌, [], ◌∷◌, ◌++◌, Some, None, List, Option, sym, ap, ◌∙◌, subst}
use Rattle.atomic_table.specs.Table.{opening}
use Rattle.turn_desk.specs.declared.slot.SlotValue.{SlotValue}
use Rattle.turn_desk.specs.Rule.{Kept, first_view}
use Rattle.turn_desk.proofs.Keeps.{opens}
use Rattle.turn_desk.proofs.desk.Desk+M.open.Goals as goal

pub new-requires : goal.new-requires
new-requires g c =
    let start = c.of-opened.result.value in
    let turn : SlotValue g.row.M.Denot g.row.M-Ask.Denot g.row.M-Answer.Denot = record { machine = c.args.machine; last = None } in
    let empty : c.in-Ok.slots.items ≡ [] = search rules in
    let items : c.push_reserved.new.self.items ≡ Some turn ∷ [] = c.push_reserved.ensures.items ∙ ap (λ z. z ++ Some turn ∷ []) empty in
    let P : List (Option (SlotValue g.row.M.Denot g.row.M-Ask.Denot g.row.M-Answer.Denot)) → Type 0 = λ xs. Kept g.M.Machine.steps start (opening (0 ∷ 1 ∷ []) xs (first_view start)) in
    subst P (sym items) (opens g.M.Machine.steps start turn (sym c.of-opened.ensures))
