use Rattle.std.proofs.Common.{◌≡◌, ap, ◌∙◌}
use Rattle.toml.specs.View.{table_view}
use Rattle.node_settings.specs.declared.settings.Settings.{Settings}
use Rattle.node_settings.specs.declared.settings.LeaseType.TheVariants as lease
use Rattle.node_settings.specs.Configuration.{IsRoot, IsStaticRoot}
use Rattle.node_settings.proofs.Answering.{passed}
use Rattle.node_settings.proofs.OneConfiguration.{one_root}
use Rattle.node_settings.proofs.reading.static_settings.Goals as goal

pub returns-in_err-settings : goal.returns-in_err-settings
returns-in_err-settings c =
    let root = table_view c.args.root.now in
    passed (IsRoot root) (IsStaticRoot root) _ c.from_residual.result (λ (s : Settings) is. (s, is.0)) c.from_residual.ensures.1 c.in_err-settings.ensures

pub returns-in-Service : goal.returns-in-Service
returns-in-Service c = λ (t : Settings) is.
    let same = one_root (table_view c.args.root.now) c.in_ok-settings.settings t c.in_ok-settings.ensures is.0 in
    let kind : c.in_ok-settings.settings.lease.lease_type ≡ lease.Static = ap (λ (s : Settings). s.lease.lease_type) same ∙ is.1 in
    absurd (cc (kind, c.in-Service.is))

pub returns-in-Etcd : goal.returns-in-Etcd
returns-in-Etcd c = λ (t : Settings) is.
    let same = one_root (table_view c.args.root.now) c.in_ok-settings.settings t c.in_ok-settings.ensures is.0 in
    let kind : c.in_ok-settings.settings.lease.lease_type ≡ lease.Static = ap (λ (s : Settings). s.lease.lease_type) same ∙ is.1 in
    absurd (cc (kind, c.in-Etcd.is))
