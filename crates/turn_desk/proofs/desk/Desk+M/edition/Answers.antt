use Rattle.std.proofs.Common.{rules}
use Rattle.turn_desk.proofs.Keeps.{looks}
use Rattle.turn_desk.proofs.desk.Desk+M.edition.Goals as goal

pub load-requires : goal.load-requires
load-requires g c = (search rules, search rules, looks g.M.Machine.steps c.args.self.now.table.shared.key.value _ _ _)
