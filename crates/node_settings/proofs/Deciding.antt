-- A text keeps all rules exactly where it says settings.
use Rattle.std.proofs.Common.{ℕ, ◌≤◌, ◌↔◌, List, length, subst}
use Rattle.toml.specs.Data.{Members}
use Rattle.node_settings.specs.declared.settings.Settings.{Settings}
use Rattle.node_settings.specs.declared.settings.ServiceSettings.{ServiceSettings}
use Rattle.node_settings.specs.Configuration.{IsConfiguration, IsRoot, IsStaticConfiguration}
use Rattle.node_settings.specs.Lines.{IsDocument}
use Rattle.node_settings.specs.Rules.{AllKept, node_rules, service_rules, static_rules}
use Rattle.node_settings.specs.Service.{IsServiceConfiguration, IsServiceRoot}
use Rattle.node_settings.proofs.Kept.{kept, kept_service, kept_static, keeps, keeps_service, keeps_static}
use Rattle.node_settings.proofs.Refusing.{one_document}

says : (bytes : List ℕ) (root : Members) (s : Settings) → length bytes ≤ 65536 → IsDocument bytes root → IsRoot root s → IsConfiguration bytes s
says bytes root s fits doc is = record { size = fits; text = doc.0; root = root; is_toml = doc.1; says = is }

said : (bytes : List ℕ) (root : Members) (s : Settings) → IsDocument bytes root → IsConfiguration bytes s → IsRoot root s
said bytes root s doc is = subst (λ (m : Members). IsRoot m s) (one_document bytes is.root root (is.text, is.is_toml) doc) is.says

pub rules_decide : (bytes : List ℕ) (root : Members) → length bytes ≤ 65536 → IsDocument bytes root → AllKept node_rules root ↔ ((s : Settings) × IsConfiguration bytes s)
rules_decide bytes root fits doc = (λ all. let x = kept root all in (x.0, says bytes root x.0 fits doc x.1), λ x. keeps root x.0 (said bytes root x.0 doc x.1))

pub static_rules_decide : (bytes : List ℕ) (root : Members) → length bytes ≤ 65536 → IsDocument bytes root → AllKept static_rules root ↔ ((s : Settings) × IsStaticConfiguration bytes s)
static_rules_decide bytes root fits doc = (
  λ all. let x = kept_static root all in (x.0, record { says = says bytes root x.0 fits doc x.1.0; static = x.1.1 }),
  λ x. keeps_static root x.0 (said bytes root x.0 doc x.1.says, x.1.static),
)

pub service_rules_decide : (bytes : List ℕ) (root : Members) → length bytes ≤ 65536 → IsDocument bytes root → AllKept service_rules root ↔ ((s : ServiceSettings) × IsServiceConfiguration bytes s)
service_rules_decide bytes root fits doc = (
  λ all. let x = kept_service root all in (x.0, record { size = fits; text = doc.0; root = root; is_toml = doc.1; says = x.1 }),
  λ x. keeps_service root x.0 (subst (λ (m : Members). IsServiceRoot m x.0) (one_document bytes x.1.root root (x.1.text, x.1.is_toml) doc) x.1.says),
)
