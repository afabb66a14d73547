use Rattle.std.proofs.Common.{refl, sym, ap, ◌∙◌}
use Rattle.toml.proofs.Views.{table_get}
use Rattle.node_settings.specs.Values.{section_in}
use Rattle.node_settings.proofs.Tables.{in_table, in_no_table}
use Rattle.node_settings.proofs.table.section.Goals as goal

pub returns-in-Some-as_table-clause-ok : goal.returns-in-Some-as_table-clause-ok
returns-in-Some-as_table-clause-ok c =
    let found = table_get c.get.result c.args.key.now c.args.root.now.entries c.get.ensures.value in
    let at = rw c.in-Some.is at found in
    ap section_in (sym at) ∙ in_table _ _ c.in-Some-as_table.ensures

pub returns-in-None-as_table-clause-fault : goal.returns-in-None-as_table-clause-fault
returns-in-None-as_table-clause-fault c =
    let found = table_get c.get.result c.args.key.now c.args.root.now.entries c.get.ensures.value in
    let at = rw c.in-Some.is at found in
    (refl, ap section_in (sym at) ∙ in_no_table _ c.in-None-as_table.ensures)

pub returns-in-None-clause-ok : goal.returns-in-None-clause-ok
returns-in-None-clause-ok c =
    let found = table_get c.get.result c.args.key.now c.args.root.now.entries c.get.ensures.value in
    let at = rw c.in-None.is at found in
    ap section_in (sym at)
