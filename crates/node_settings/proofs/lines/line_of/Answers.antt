use Rattle.std.proofs.Common.{Some, subst}
use Rattle.toml.specs.View.{table_view}
use Rattle.node_settings.specs.declared.lines.Walk.{Walk}
use Rattle.node_settings.specs.Rules.{Stands}
use Rattle.node_settings.specs.Walks.{WalksTo}
use Rattle.node_settings.proofs.Walking.{not_broken}
use Rattle.node_settings.proofs.lines.line_of.Goals as goal

pub unreachable-requires : goal.unreachable-requires
unreachable-requires c =
    let walks = subst (λ (w : Walk). WalksTo (Stands c.args.place (Some c.args.name)) c.args.text.now w) c.in-Ends.is c.in_ok-at.ensures in
    not_broken (Stands c.args.place (Some c.args.name)) c.args.text.now c.in-Ends.field-0 (table_view c.args.root.now) c.requires (c.stands.ensures.0 c.if-stands.true) walks
