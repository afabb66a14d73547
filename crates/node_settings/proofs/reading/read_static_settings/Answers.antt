use Rattle.std.proofs.Common.{List, subst}
use Rattle.toml.specs.Data.{Members}
use Rattle.toml.specs.View.{table_view}
use Rattle.node_settings.specs.declared.settings.Settings.{Settings}
use Rattle.node_settings.specs.declared.rule.Rule.{Rule}
use Rattle.node_settings.specs.Complaints.{Refuses}
use Rattle.node_settings.specs.Configuration.{IsRoot, IsStaticConfiguration, IsStaticRoot}
use Rattle.node_settings.specs.Rules.{AllKept, static_rules}
use Rattle.node_settings.proofs.Kept.{kept_static}
use Rattle.node_settings.proofs.Refusing.{answered, config_none, one_document, passed_on}
use Rattle.node_settings.proofs.reading.read_static_settings.Goals as goal

pub returns-in_err-root : goal.returns-in_err-root
returns-in_err-root c =
    passed_on (IsStaticConfiguration c.args.bytes.now) static_rules c.args.bytes.now _ c.from_residual.result
    (λ (s : Settings) is. (is.says.size, is.says.root, (is.says.text, is.says.is_toml))) c.from_residual.ensures.1 c.in_err-root.ensures.refused

pub returns-in-Ok : goal.returns-in-Ok
returns-in-Ok c = record {
  says = record { size = c.in_ok-root.ensures.ok.0; text = c.in_ok-root.ensures.ok.1.0; root = table_view c.in_ok-root.root; is_toml = c.in_ok-root.ensures.ok.1.1; says = c.in-Ok.ensures.0 };
  static = c.in-Ok.ensures.1;
}

pub returns-in-Err-Config : goal.returns-in-Err-Config
returns-in-Err-Config c =
    let text = c.args.bytes.now in
    let root = table_view c.in_ok-root.root in
    answered (IsStaticConfiguration text) static_rules text c.refused.result
    (λ (s : Settings) is. config_none (IsStaticRoot (table_view c.in_ok-root.root)) _ c.in-Err-Config.field-0-is c.in-Err-Config.ensures s (subst (λ (m : Members). IsRoot m s) (one_document text _ root (is.says.text, is.says.is_toml) c.in_ok-root.ensures.ok.1) is.says.says, is.static))
    (subst (λ (rs : List Rule). Refuses rs text c.refused.result) c.static_rules.ensures c.refused.ensures)

pub refused-requires-clause-broken : goal.refused-requires-clause-broken
refused-requires-clause-broken c = λ all.
    let said = kept_static (table_view c.in_ok-root.root) (subst (λ (rs : List Rule). AllKept rs (table_view c.in_ok-root.root)) c.static_rules.ensures all) in
    config_none (IsStaticRoot (table_view c.in_ok-root.root)) _ c.in-Err-Config.field-0-is c.in-Err-Config.ensures said.0 said.1
