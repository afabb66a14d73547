use Rattle.std.proofs.Common.{List, subst}
use Rattle.toml.specs.Data.{Members}
use Rattle.toml.specs.View.{table_view}
use Rattle.node_settings.specs.declared.settings.ServiceSettings.{ServiceSettings}
use Rattle.node_settings.specs.declared.rule.Rule.{Rule}
use Rattle.node_settings.specs.Complaints.{Refuses}
use Rattle.node_settings.specs.Service.{IsServiceConfiguration, IsServiceRoot}
use Rattle.node_settings.specs.Rules.{AllKept, service_rules}
use Rattle.node_settings.proofs.Kept.{kept_service}
use Rattle.node_settings.proofs.Refusing.{answered, config_none, one_document, passed_on}
use Rattle.node_settings.proofs.service.read_service_settings.Goals as goal

pub returns-in_err-root : goal.returns-in_err-root
returns-in_err-root c =
    passed_on (IsServiceConfiguration c.args.bytes.now) service_rules c.args.bytes.now _ c.from_residual.result (λ (s : ServiceSettings) is. (is.size, is.root, (is.text, is.is_toml))) c.from_residual.ensures.1 c.in_err-root.ensures.refused

pub returns-in-Ok : goal.returns-in-Ok
returns-in-Ok c = record { size = c.in_ok-root.ensures.ok.0; text = c.in_ok-root.ensures.ok.1.0; root = table_view c.in_ok-root.root; is_toml = c.in_ok-root.ensures.ok.1.1; says = c.in-Ok.ensures }

pub returns-in-Err-Config : goal.returns-in-Err-Config
returns-in-Err-Config c =
    let text = c.args.bytes.now in
    let root = table_view c.in_ok-root.root in
    answered (IsServiceConfiguration text) service_rules text c.refused.result
    (λ (s : ServiceSettings) is. config_none (IsServiceRoot (table_view c.in_ok-root.root)) _ c.in-Err-Config.field-0-is c.in-Err-Config.ensures s (subst (λ (m : Members). IsServiceRoot m s) (one_document text _ root (is.text, is.is_toml) c.in_ok-root.ensures.ok.1) is.says))
    (subst (λ (rs : List Rule). Refuses rs text c.refused.result) c.service_rules.ensures c.refused.ensures)

pub refused-requires-clause-broken : goal.refused-requires-clause-broken
refused-requires-clause-broken c = λ all.
    let said = kept_service (table_view c.in_ok-root.root) (subst (λ (rs : List Rule). AllKept rs (table_view c.in_ok-root.root)) c.service_rules.ensures all) in
    config_none (IsServiceRoot (table_view c.in_ok-root.root)) _ c.in-Err-Config.field-0-is c.in-Err-Config.ensures said.0 said.1
