use Rattle.std.proofs.Common.{List, ℕ, IsSomeAnd, codes, Bool, Option}
use Rattle.toml.specs.View.{table_view}
use Rattle.node_settings.specs.declared.settings.Settings.{Settings}
use Rattle.node_settings.specs.declared.settings.LeaseSettings.{LeaseSettings}
use Rattle.node_settings.specs.declared.settings.ProxySettings.{ProxySettings}
use Rattle.node_settings.specs.declared.fuse_table.FuseSettings.{FuseSettings}
use Rattle.node_settings.specs.Configuration.{IsRoot, IsFuse, IsHttp, IsProxy, IsData, IsLease}
use Rattle.node_settings.specs.Values.{section}
use Rattle.node_settings.proofs.Answering.{passed}
use Rattle.node_settings.proofs.reading.settings.Goals as goal

pub returns-in_err-socket : goal.returns-in_err-socket
returns-in_err-socket c =
    let root = table_view c.args.root.now in
    passed (λ (x : FuseSettings). IsSomeAnd (section (codes "fuse") root) (λ t. IsFuse t x.socket x.mount)) (IsRoot root) _ c.from_residual-in_err-socket.result
    (λ (s : Settings) is. (record { socket = s.socket; mount = s.mount }, is.fuse)) c.from_residual-in_err-socket.ensures.1 c.in_err-socket.ensures

pub returns-in_err-http : goal.returns-in_err-http
returns-in_err-http c =
    let root = table_view c.args.root.now in
    passed (λ (x : List ℕ). IsSomeAnd (section (codes "http") root) (λ t. IsHttp t x)) (IsRoot root) _ c.from_residual-in_err-http.result
    (λ (s : Settings) is. (s.http, is.http)) c.from_residual-in_err-http.ensures.1 c.in_err-http.ensures

pub returns-in_err-proxy : goal.returns-in_err-proxy
returns-in_err-proxy c =
    let root = table_view c.args.root.now in
    passed (λ (x : Option ProxySettings). IsSomeAnd (section (codes "proxy") root) (λ t. IsProxy t x)) (IsRoot root) _ c.from_residual-in_err-proxy.result
    (λ (s : Settings) is. (s.proxy, is.proxy)) c.from_residual-in_err-proxy.ensures.1 c.in_err-proxy.ensures

pub returns-in_err-compress : goal.returns-in_err-compress
returns-in_err-compress c =
    let root = table_view c.args.root.now in
    passed (λ (x : Bool × ℕ). IsSomeAnd (section (codes "data") root) (λ t. IsData t x.0 x.1)) (IsRoot root) _ c.from_residual-in_err-compress.result
    (λ (s : Settings) is. ((s.compress, s.retention_files), is.data_kept)) c.from_residual-in_err-compress.ensures.1 c.in_err-compress.ensures

pub returns-in_err-lease : goal.returns-in_err-lease
returns-in_err-lease c =
    let root = table_view c.args.root.now in
    passed (λ (x : LeaseSettings). IsSomeAnd (section (codes "lease") root) (λ t. IsLease t x)) (IsRoot root) _ c.from_residual-in_err-lease.result
    (λ (s : Settings) is. (s.lease, is.lease)) c.from_residual-in_err-lease.ensures.1 c.in_err-lease.ensures
