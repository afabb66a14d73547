use Rattle.std.proofs.Common.{List, ℕ, IsSomeAnd, codes, Bool}
use Rattle.toml.specs.View.{table_view}
use Rattle.node_settings.specs.declared.settings.ServiceSettings.{ServiceSettings}
use Rattle.node_settings.specs.declared.fuse_table.FuseTable.{FuseTable}
use Rattle.node_settings.specs.declared.proxy_table.ProxyTable.{ProxyTable}
use Rattle.node_settings.specs.Configuration.{IsFuseTable, IsHttp, IsProxyTable, IsData}
use Rattle.node_settings.specs.Service.{IsServiceRoot, IsServiceLease}
use Rattle.node_settings.specs.Values.{section}
use Rattle.node_settings.proofs.Answering.{passed}
use Rattle.node_settings.proofs.service.service_settings.Goals as goal

pub returns-in_err-_fuse : goal.returns-in_err-_fuse
returns-in_err-_fuse c =
    let root = table_view c.args.root.now in
    passed (λ (x : FuseTable). IsSomeAnd (section (codes "fuse") root) (λ t. IsFuseTable t x.socket x.dir x.program)) (IsServiceRoot root) _ c.from_residual-in_err-_fuse.result
    (λ (s : ServiceSettings) is. (record { socket = is.socket; dir = is.dir; program = is.program }, is.fuse)) c.from_residual-in_err-_fuse.ensures.1 c.in_err-_fuse.ensures

pub returns-in_err-_proxy : goal.returns-in_err-_proxy
returns-in_err-_proxy c =
    let root = table_view c.args.root.now in
    passed (λ (x : ProxyTable). IsSomeAnd (section (codes "proxy") root) (λ t. IsProxyTable t x.addr x.target)) (IsServiceRoot root) _ c.from_residual-in_err-_proxy.result
    (λ (s : ServiceSettings) is. (record { addr = is.addr; target = is.target }, is.proxy)) c.from_residual-in_err-_proxy.ensures.1 c.in_err-_proxy.ensures

pub returns-in_err-http : goal.returns-in_err-http
returns-in_err-http c =
    let root = table_view c.args.root.now in
    passed (λ (x : List ℕ). IsSomeAnd (section (codes "http") root) (λ t. IsHttp t x)) (IsServiceRoot root) _ c.from_residual-in_err-http.result
    (λ (s : ServiceSettings) is. (s.http, is.http)) c.from_residual-in_err-http.ensures.1 c.in_err-http.ensures

pub returns-in_err-_kept : goal.returns-in_err-_kept
returns-in_err-_kept c =
    let root = table_view c.args.root.now in
    passed (λ (x : Bool × ℕ). IsSomeAnd (section (codes "data") root) (λ t. IsData t x.0 x.1)) (IsServiceRoot root) _ c.from_residual-in_err-_kept.result
    (λ (s : ServiceSettings) is. ((is.packed, is.files), is.data_kept)) c.from_residual-in_err-_kept.ensures.1 c.in_err-_kept.ensures

pub returns-in_err-ttl : goal.returns-in_err-ttl
returns-in_err-ttl c =
    let root = table_view c.args.root.now in
    passed (λ (x : ℕ). IsSomeAnd (section (codes "lease") root) (λ t. IsServiceLease t x)) (IsServiceRoot root) _ c.from_residual-in_err-ttl.result
    (λ (s : ServiceSettings) is. (s.ttl, is.lease)) c.from_residual-in_err-ttl.ensures.1 c.in_err-ttl.ensures

pub returns : goal.returns
returns c = record {
  database = c.in_ok-_database._database;
  socket = c.in_ok-_fuse._fuse.socket;
  dir = c.in_ok-_fuse._fuse.dir;
  program = c.in_ok-_fuse._fuse.program;
  addr = c.in_ok-_proxy._proxy.addr;
  target = c.in_ok-_proxy._proxy.target;
  packed = c.in_ok-_kept._kept.0;
  files = c.in_ok-_kept._kept.1;
  keys = c.in_ok-check_root_keys.ensures.ok;
  named = c.in_ok-_database.ensures;
  fuse = c.in_ok-_fuse.ensures;
  proxy = c.in_ok-_proxy.ensures;
  http = c.in_ok-http.ensures;
  log = c.in_ok-log.ensures;
  data_kept = c.in_ok-_kept.ensures;
  lease = c.in_ok-ttl.ensures;
}
