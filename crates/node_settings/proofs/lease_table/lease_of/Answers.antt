use Rattle.std.proofs.Common.{None, Option, List, ℕ, IsSomeAnd, codes, subst}
use Rattle.node_settings.specs.declared.settings.EtcdPlace.{EtcdPlace}
use Rattle.node_settings.specs.declared.settings.LeaseSettings.{LeaseSettings}
use Rattle.node_settings.specs.declared.settings.LeaseType.{LeaseType}
use Rattle.node_settings.specs.declared.settings.LeaseType.TheVariants as lease
use Rattle.node_settings.specs.Configuration.{IsEtcd, IsLease}
use Rattle.node_settings.specs.Values.{HasEtcd, HasService, HasTtl, IsLeaseType, IsNumber, IsSomeOf, IsUrlText, members_at, section}
use Rattle.node_settings.proofs.Answering.{passed, refused}
use Rattle.node_settings.proofs.OneConfiguration.{holds_or, one_etcd, one_lease_type, one_number, one_some_url}
use Rattle.node_settings.proofs.lease_table.lease_of.Goals as goal

pub returns-in_err-check_service : goal.returns-in_err-check_service
returns-in_err-check_service c =
    refused (IsLease (members_at c.args.table)) _ c.from_residual-in_err-check_service.result c.from_residual-in_err-check_service.ensures.1 (λ (s : LeaseSettings) is.
    let kind = holds_or IsLeaseType one_lease_type lease.Static _ s.lease_type c.in_ok-lease_type.lease_type is.lease_type c.in_ok-lease_type.ensures in
    let url = holds_or (IsSomeOf IsUrlText) one_some_url None _ s.service_url c.in_ok-service_url.service_url is.service_url c.in_ok-service_url.ensures in
    c.in_err-check_service.ensures.fault.1
    (subst (λ (k : LeaseType). HasService k c.in_ok-service_url.service_url) kind (subst (λ (u : Option (List ℕ)). HasService s.lease_type u) url is.has_service)))

pub returns-in_err-check_ttl : goal.returns-in_err-check_ttl
returns-in_err-check_ttl c =
    refused (IsLease (members_at c.args.table)) _ c.from_residual-in_err-check_ttl.result c.from_residual-in_err-check_ttl.ensures.1 (λ (s : LeaseSettings) is.
    let kind = holds_or IsLeaseType one_lease_type lease.Static _ s.lease_type c.in_ok-lease_type.lease_type is.lease_type c.in_ok-lease_type.ensures in
    let ttl = holds_or (IsNumber 1 86400000) (one_number 1 86400000) 10000 _ s.ttl c.in_ok-ttl.ttl is.ttl c.in_ok-ttl.ensures in
    c.in_err-check_ttl.ensures.fault.1
    (subst (λ (k : LeaseType). HasTtl k c.in_ok-ttl.ttl) kind (subst (λ (t : ℕ). HasTtl s.lease_type t) ttl is.has_ttl)))

pub returns-in_err-check_etcd : goal.returns-in_err-check_etcd
returns-in_err-check_etcd c =
    refused (IsLease (members_at c.args.table)) _ c.from_residual-in_err-check_etcd.result c.from_residual-in_err-check_etcd.ensures.1 (λ (s : LeaseSettings) is.
    let kind = holds_or IsLeaseType one_lease_type lease.Static _ s.lease_type c.in_ok-lease_type.lease_type is.lease_type c.in_ok-lease_type.ensures in
    let etcd = one_etcd (members_at c.args.table) s.etcd c.in_ok-etcd.etcd is.etcd c.in_ok-etcd.ensures in
    c.in_err-check_etcd.ensures.fault.1
    (subst (λ (k : LeaseType). HasEtcd k c.in_ok-etcd.etcd) kind (subst (λ (e : Option EtcdPlace). HasEtcd s.lease_type e) etcd is.has_etcd)))

pub returns-in_err-etcd : goal.returns-in_err-etcd
returns-in_err-etcd c =
    let members = members_at c.args.table in
    passed (λ (x : Option EtcdPlace). IsSomeAnd (section (codes "etcd") members) (λ t. IsEtcd t x)) (IsLease members) _ c.from_residual-in_err-etcd.result
    (λ (s : LeaseSettings) is. (s.etcd, is.etcd)) c.from_residual-in_err-etcd.ensures.1 c.in_err-etcd.ensures
