-- What a lease service is told by a configuration: where it is served, how long a lease lasts, and whether it says what happens. Every key may be missing, also those
-- that a node must have; where one stands, it says something by its rule.
use Rattle.std.specs.Prelude.{◌≡◌, ℕ, ◌≤◌, List, length, Bool, Option, Some, None, true, false, IsUtf8, IsSomeAnd, codes}
use Rattle.toml.specs.Data.{Members}
use Rattle.toml.specs.Parse.{parse_document}
use Rattle.node_settings.specs.declared.settings.ServiceSettings.{ServiceSettings}
use Rattle.node_settings.specs.declared.settings.LeaseType.{LeaseType}
use Rattle.node_settings.specs.declared.settings.LeaseType.TheVariants as lease_type
use Rattle.node_settings.specs.Configuration.{IsEtcdTable, IsFuseTable, IsHttp, IsProxyTable, IsData, lease_keys, root_keys}
use Rattle.node_settings.specs.Values.{HoldsOr, HasOnly, section, IsSomeOf, IsText, IsNameText, IsUrlText, IsFlag, IsSwitch, IsNumber, IsLeaseType}

-- [lease]
pub record IsServiceLease (members : Members) (ttl : ℕ) : Type 0 where
  pub kind : LeaseType
  pub candidate : Bool
  pub bootstrap : Bool
  pub advertise_url : Option (List ℕ)
  pub hostname : Option (List ℕ)
  pub service_url : Option (List ℕ)
  pub halt_ttl : ℕ
  pub endpoints : Option (List (List ℕ))
  pub etcd_key : Option (List ℕ)
  pub keys : HasOnly lease_keys members
  pub a_type : HoldsOr (codes "type") IsLeaseType lease_type.Static members kind
  pub a_flag : HoldsOr (codes "candidate") IsFlag false members candidate
  pub begun : HoldsOr (codes "bootstrap") IsFlag false members bootstrap
  pub advertised : HoldsOr (codes "advertise-url") (IsSomeOf IsUrlText) None members advertise_url
  pub named : HoldsOr (codes "hostname") (IsSomeOf IsText) None members hostname
  pub served : HoldsOr (codes "service-url") (IsSomeOf IsUrlText) None members service_url
  pub lasts : HoldsOr (codes "ttl") (IsNumber 1 86400000) 10000 members ttl
  pub permitted : HoldsOr (codes "halt-ttl") (IsNumber 1 86400000) ttl members halt_ttl
  pub granted : IsSomeAnd (section (codes "etcd") members) (λ etcd. IsEtcdTable etcd endpoints etcd_key)

-- the whole table
pub record IsServiceRoot (members : Members) (s : ServiceSettings) : Type 0 where
  pub database : Option (List ℕ)
  pub socket : List ℕ
  pub dir : Option (List ℕ)
  pub program : Option (List ℕ)
  pub addr : Option (List ℕ)
  pub target : Option (List ℕ)
  pub packed : Bool
  pub files : ℕ
  pub keys : HasOnly root_keys members
  pub named : HoldsOr (codes "database") (IsSomeOf IsNameText) None members database
  pub log : HoldsOr (codes "log") IsSwitch true members s.log
  pub fuse : IsSomeAnd (section (codes "fuse") members) (λ fuse. IsFuseTable fuse socket dir program)
  pub http : IsSomeAnd (section (codes "http") members) (λ http. IsHttp http s.http)
  pub proxy : IsSomeAnd (section (codes "proxy") members) (λ proxy. IsProxyTable proxy addr target)
  pub data_kept : IsSomeAnd (section (codes "data") members) (λ kept. IsData kept packed files)
  pub lease : IsSomeAnd (section (codes "lease") members) (λ lease. IsServiceLease lease s.ttl)

-- the bytes are a configuration that says these settings of a lease service
pub record IsServiceConfiguration (bytes : List ℕ) (s : ServiceSettings) : Type 0 where
  pub size : length bytes ≤ 65536
  pub text : IsUtf8 bytes
  pub root : Members
  pub is_toml : parse_document bytes ≡ Some root
  pub says : IsServiceRoot root s
