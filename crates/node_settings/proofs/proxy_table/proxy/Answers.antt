use Rattle.std.proofs.Common.{Option, IsSomeAnd, codes, option_map}
use Rattle.toml.specs.View.{table_view}
use Rattle.node_settings.specs.declared.proxy_table.ProxyTable.{ProxyTable}
use Rattle.node_settings.specs.declared.settings.ProxySettings.{ProxySettings}
use Rattle.node_settings.specs.Configuration.{IsProxy, IsProxyTable}
use Rattle.node_settings.specs.Values.{section}
use Rattle.node_settings.proofs.Answering.{passed}
use Rattle.node_settings.proofs.proxy_table.proxy.Goals as goal

pub returns-in_err-table : goal.returns-in_err-table
returns-in_err-table c =
    let found = section (codes "proxy") (table_view c.args.root.now) in
    passed (λ (x : ProxyTable). IsSomeAnd found (λ t. IsProxyTable t x.addr x.target)) (λ (x : Option ProxySettings). IsSomeAnd found (λ t. IsProxy t x)) _
    c.from_residual.result (λ (s : Option ProxySettings) is. (record { addr = option_map (λ p. p.addr) s; target = option_map (λ p. p.target) s }, is)) c.from_residual.ensures.1 c.in_err-table.ensures
