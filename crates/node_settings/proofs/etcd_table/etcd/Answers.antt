use Rattle.std.proofs.Common.{List, ℕ, Option, IsSomeAnd, codes}
use Rattle.toml.specs.Data.{Members}
use Rattle.node_settings.specs.declared.etcd_table.EtcdTable.{EtcdTable}
use Rattle.node_settings.specs.declared.settings.EtcdPlace.{EtcdPlace}
use Rattle.node_settings.specs.Configuration.{IsEtcd, IsEtcdTable, endpoints_of, etcd_key_of}
use Rattle.node_settings.specs.Values.{members_at, section}
use Rattle.node_settings.proofs.Answering.{passed}
use Rattle.node_settings.proofs.Placing.{placed}
use Rattle.node_settings.proofs.etcd_table.etcd.Goals as goal

pub returns-in_err-table : goal.returns-in_err-table
returns-in_err-table c =
    let found = section (codes "etcd") (members_at c.args.lease) in
    passed (λ (x : EtcdTable). IsSomeAnd found (λ t. IsEtcdTable t x.endpoints x.key)) (λ (x : Option EtcdPlace). IsSomeAnd found (λ t. IsEtcd t x)) _
    c.from_residual.result (λ (s : Option EtcdPlace) is. (record { endpoints = endpoints_of s; key = etcd_key_of s }, is)) c.from_residual.ensures.1 c.in_err-table.ensures

pub returns : goal.returns
returns c =
    placed (section (codes "etcd") (members_at c.args.lease)) c.in_ok-table.table.endpoints c.in_ok-table.table.key c.place_of.result c.in_ok-table.ensures c.place_of.ensures
