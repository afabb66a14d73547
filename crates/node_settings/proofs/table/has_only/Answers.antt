use Rattle.std.proofs.Common.{◌∙◌}
use Rattle.node_settings.proofs.Tables.{words, only}
use Rattle.node_settings.proofs.table.has_only.Goals as goal

pub returns-in-Some : goal.returns-in-Some
returns-in-Some c = rw c.in-Some.is (c.are_among.ensures ∙ only (words c.args.keys.now) c.in-Some.table.now.entries)
