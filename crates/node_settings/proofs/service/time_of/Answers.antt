use Rattle.std.proofs.Common.{None, Option, List, ℕ, IsSomeAnd, codes, subst}
use Rattle.node_settings.specs.declared.etcd_table.EtcdTable.{EtcdTable}
use Rattle.node_settings.specs.Configuration.{IsEtcdTable}
use Rattle.node_settings.specs.Service.{IsServiceLease}
use Rattle.node_settings.specs.Values.{HoldsOr, IsNumber, IsSomeOf, IsUrlText, members_at, section}
use Rattle.node_settings.proofs.Answering.{passed}
use Rattle.node_settings.proofs.OneConfiguration.{holds_or, one_number}
use Rattle.node_settings.proofs.service.time_of.Goals as goal

pub returns-in_err-_advertised : goal.returns-in_err-_advertised
returns-in_err-_advertised c =
    let members = members_at c.args.table in
    passed (λ (x : Option (List ℕ)). HoldsOr (codes "advertise-url") (IsSomeOf IsUrlText) None members x) (IsServiceLease members) _
    c.from_residual-in_err-_advertised.result (λ (ttl : ℕ) is. (is.advertise_url, is.advertised)) c.from_residual-in_err-_advertised.ensures.1
    c.in_err-_advertised.ensures

pub returns-in_err-_permit : goal.returns-in_err-_permit
returns-in_err-_permit c =
    let members = members_at c.args.table in
    passed (λ (x : ℕ). HoldsOr (codes "halt-ttl") (IsNumber 1 86400000) c.in_ok-ttl.ttl members x) (IsServiceLease members) _
    c.from_residual-in_err-_permit.result
    (λ (ttl : ℕ) is.
    let same = holds_or (IsNumber 1 86400000) (one_number 1 86400000) 10000 _ ttl c.in_ok-ttl.ttl is.lasts c.in_ok-ttl.ensures in
    (is.halt_ttl, subst (λ (d : ℕ). HoldsOr (codes "halt-ttl") (IsNumber 1 86400000) d members is.halt_ttl) same is.permitted))
    c.from_residual-in_err-_permit.ensures.1 c.in_err-_permit.ensures

pub returns-in_err-_etcd : goal.returns-in_err-_etcd
returns-in_err-_etcd c =
    let members = members_at c.args.table in
    passed (λ (x : EtcdTable). IsSomeAnd (section (codes "etcd") members) (λ t. IsEtcdTable t x.endpoints x.key)) (IsServiceLease members) _
    c.from_residual-in_err-_etcd.result (λ (ttl : ℕ) is. (record { endpoints = is.endpoints; key = is.etcd_key }, is.granted)) c.from_residual-in_err-_etcd.ensures.1
    c.in_err-_etcd.ensures

pub returns : goal.returns
returns c = record {
  kind = c.in_ok-_type._type;
  candidate = c.in_ok-_candidate._candidate;
  bootstrap = c.in_ok-_bootstrap._bootstrap;
  advertise_url = c.in_ok-_advertised._advertised;
  hostname = c.in_ok-_hostname._hostname;
  service_url = c.in_ok-_service._service;
  halt_ttl = c.in_ok-_permit._permit;
  endpoints = c.in_ok-_etcd._etcd.endpoints;
  etcd_key = c.in_ok-_etcd._etcd.key;
  keys = c.in_ok-check_lease_keys.ensures.ok;
  a_type = c.in_ok-_type.ensures;
  a_flag = c.in_ok-_candidate.ensures;
  begun = c.in_ok-_bootstrap.ensures;
  advertised = c.in_ok-_advertised.ensures;
  named = c.in_ok-_hostname.ensures;
  served = c.in_ok-_service.ensures;
  lasts = c.in_ok-ttl.ensures;
  permitted = c.in_ok-_permit.ensures;
  granted = c.in_ok-_etcd.ensures;
}
