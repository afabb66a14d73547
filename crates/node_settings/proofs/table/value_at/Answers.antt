use Rattle.toml.proofs.Views.{table_get}
use Rattle.node_settings.proofs.table.value_at.Goals as goal

pub returns-in-Some : goal.returns-in-Some
returns-in-Some c = rw c.in-Some.is (table_get c.get.result c.args.key.now _ c.get.ensures.value)
