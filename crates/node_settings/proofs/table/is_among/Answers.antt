use Rattle.std.proofs.Common.{◌∙◌}
use Rattle.node_settings.proofs.Tables.{among}
use Rattle.node_settings.proofs.table.is_among.Goals as goal

pub returns : goal.returns
returns c = c.contains.ensures.value ∙ among c.args.keys.now c.args.key.now
