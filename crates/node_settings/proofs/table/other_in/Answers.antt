use Rattle.std.proofs.Common.{◌∙◌, ap, sym}
use Rattle.node_settings.proofs.Tables.{bytes_or_none, first, words}
use Rattle.node_settings.proofs.table.other_in.Goals as goal

pub returns-in-Some : goal.returns-in-Some
returns-in-Some c = c.as_str.ensures.value ∙ ap bytes_or_none c.in-Some.ensures ∙ sym (first (words c.args.keys.now) c.args.table.now.entries)

pub returns-in-None : goal.returns-in-None
returns-in-None c = ap bytes_or_none c.in-None.ensures ∙ sym (first (words c.args.keys.now) c.args.table.now.entries)
