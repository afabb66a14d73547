use Rattle.std.proofs.Common.{rules}
use Rattle.turn_desk.proofs.Keeps.{glues, meets}
use Rattle.turn_desk.proofs.desk.Desk+M.join.Goals as goal

pub join_seat-requires : goal.join_seat-requires
join_seat-requires g c = (search rules, search rules, search rules, search rules, glues g.M.Machine.steps c.args.self.now.table.shared.key.value _ _ _ _ (search rules))

pub load-requires : goal.load-requires
load-requires g c = (search rules, search rules, meets g.M.Machine.steps c.args.self.now.table.shared.key.value _ _ _)
