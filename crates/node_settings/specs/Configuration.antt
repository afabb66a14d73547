-- The configuration of a node, `litefs.toml`: TOML of at most 65,536 bytes, with these keys and no others.
use Rattle.std.specs.Prelude.{◌≡◌, ℕ, ◌≤◌, ◌^◌, ◌-◌, List, [], ◌∷◌, length, Bool, Option, Some, None, option_map, true, false, IsUtf8, IsSomeAnd, codes}
use Rattle.toml.specs.Data.{Members}
use Rattle.toml.specs.Parse.{parse_document}
use Rattle.node_settings.specs.declared.settings.Settings.{Settings}
use Rattle.node_settings.specs.declared.settings.EtcdPlace.{EtcdPlace}
use Rattle.node_settings.specs.declared.settings.LeaseSettings.{LeaseSettings}
use Rattle.node_settings.specs.declared.settings.MountSettings.{MountSettings}
use Rattle.node_settings.specs.declared.settings.ProxySettings.{ProxySettings}
use Rattle.node_settings.specs.declared.settings.LeaseType.TheVariants as lease_type
use Rattle.node_settings.specs.Values.{Holds, HoldsOr, HasOnly, section, HasService, HasEtcd, HasTtl}
use Rattle.node_settings.specs.Values.{IsText, IsPath, IsNameText, IsAddressText, IsTargetText, IsUrlText, IsUrls, IsKeyText, IsSomeOf, IsFlag, IsOff, IsSwitch, IsNumber, IsLeaseType}

abbrev pub fuse_keys : List (List ℕ)
fuse_keys = codes "listen" ∷ codes "dir" ∷ codes "program" ∷ []

-- the keys of [fuse]
pub record IsFuseTable (members : Members) (socket : List ℕ) (dir program : Option (List ℕ)) : Type 0 where
  pub keys : HasOnly fuse_keys members
  pub listen : HoldsOr (codes "listen") IsText (codes "litefs.sock") members socket
  pub a_dir : HoldsOr (codes "dir") (IsSomeOf IsPath) None members dir
  pub a_program : HoldsOr (codes "program") (IsSomeOf IsPath) None members program

abbrev pub dir_of : Option MountSettings → Option (List ℕ)
dir_of mount = option_map (λ m. m.dir) mount

-- there is none without a mount
abbrev pub program_of : Option MountSettings → Option (List ℕ)
program_of None = None
program_of (Some mount) = mount.program

-- [fuse]
abbrev pub IsFuse : Members → List ℕ → Option MountSettings → Type 0
IsFuse members socket mount = IsFuseTable members socket (dir_of mount) (program_of mount)

-- [http]
pub record IsHttp (members : Members) (address : List ℕ) : Type 0 where
  pub keys : HasOnly (codes "addr" ∷ []) members
  pub addr : HoldsOr (codes "addr") IsAddressText (codes ":20202") members address

abbrev pub proxy_keys : List (List ℕ)
proxy_keys = codes "addr" ∷ codes "target" ∷ []

-- the keys of [proxy]
pub record IsProxyTable (members : Members) (addr target : Option (List ℕ)) : Type 0 where
  pub keys : HasOnly proxy_keys members
  pub an_addr : HoldsOr (codes "addr") (IsSomeOf IsAddressText) None members addr
  pub a_target : HoldsOr (codes "target") (IsSomeOf IsTargetText) None members target

-- [proxy]: both keys or neither
abbrev pub IsProxy : Members → Option ProxySettings → Type 0
IsProxy members proxy = IsProxyTable members (option_map (λ p. p.addr) proxy) (option_map (λ p. p.target) proxy)

-- [data]
pub record IsData (members : Members) (packed : Bool) (files : ℕ) : Type 0 where
  pub keys : HasOnly (codes "compress" ∷ codes "retention-files" ∷ []) members
  pub compress : HoldsOr (codes "compress") IsOff false members packed
  pub retention_files : HoldsOr (codes "retention-files") (IsNumber 1 (2 ^ 63 - 1)) 1000 members files

abbrev pub etcd_keys : List (List ℕ)
etcd_keys = codes "endpoints" ∷ codes "key" ∷ []

-- the keys of [lease.etcd]
pub record IsEtcdTable (members : Members) (endpoints : Option (List (List ℕ))) (key : Option (List ℕ)) : Type 0 where
  pub keys : HasOnly etcd_keys members
  pub some_endpoints : HoldsOr (codes "endpoints") (IsSomeOf IsUrls) None members endpoints
  pub a_key : HoldsOr (codes "key") (IsSomeOf IsKeyText) None members key

abbrev pub endpoints_of : Option EtcdPlace → Option (List (List ℕ))
endpoints_of etcd = option_map (λ e. e.endpoints) etcd

-- there is none without endpoints
abbrev pub etcd_key_of : Option EtcdPlace → Option (List ℕ)
etcd_key_of None = None
etcd_key_of (Some etcd) = etcd.key

-- [lease.etcd]
abbrev pub IsEtcd : Members → Option EtcdPlace → Type 0
IsEtcd members etcd = IsEtcdTable members (endpoints_of etcd) (etcd_key_of etcd)

abbrev pub lease_keys : List (List ℕ)
lease_keys = codes "type" ∷ codes "candidate" ∷ codes "bootstrap" ∷ codes "advertise-url" ∷ codes "hostname" ∷ codes "service-url" ∷ codes "ttl" ∷ codes "halt-ttl" ∷ codes "etcd" ∷ []

-- [lease]
pub record IsLease (members : Members) (lease : LeaseSettings) : Type 0 where
  pub keys : HasOnly lease_keys members
  pub lease_type : HoldsOr (codes "type") IsLeaseType lease_type.Static members lease.lease_type
  pub candidate : HoldsOr (codes "candidate") IsFlag false members lease.candidate
  pub bootstrap : HoldsOr (codes "bootstrap") IsFlag false members lease.bootstrap
  pub advertise_url : Holds (codes "advertise-url") IsUrlText members lease.advertise_url
  pub hostname : Holds (codes "hostname") IsText members lease.hostname
  pub service_url : HoldsOr (codes "service-url") (IsSomeOf IsUrlText) None members lease.service_url
  pub has_service : HasService lease.lease_type lease.service_url
  pub ttl : HoldsOr (codes "ttl") (IsNumber 1 86400000) 10000 members lease.ttl
  pub has_ttl : HasTtl lease.lease_type lease.ttl
  pub halt_ttl : HoldsOr (codes "halt-ttl") (IsNumber 1 86400000) lease.ttl members lease.halt_ttl
  pub etcd : IsSomeAnd (section (codes "etcd") members) (λ etcd. IsEtcd etcd lease.etcd)
  pub has_etcd : HasEtcd lease.lease_type lease.etcd

abbrev pub root_keys : List (List ℕ)
root_keys = codes "database" ∷ codes "log" ∷ codes "fuse" ∷ codes "http" ∷ codes "proxy" ∷ codes "data" ∷ codes "lease" ∷ []

-- the whole table
pub record IsRoot (members : Members) (s : Settings) : Type 0 where
  pub keys : HasOnly root_keys members
  pub database : Holds (codes "database") IsNameText members s.database
  pub log : HoldsOr (codes "log") IsSwitch true members s.log
  pub fuse : IsSomeAnd (section (codes "fuse") members) (λ fuse. IsFuse fuse s.socket s.mount)
  pub http : IsSomeAnd (section (codes "http") members) (λ http. IsHttp http s.http)
  pub proxy : IsSomeAnd (section (codes "proxy") members) (λ proxy. IsProxy proxy s.proxy)
  pub data_kept : IsSomeAnd (section (codes "data") members) (λ kept. IsData kept s.compress s.retention_files)
  pub lease : IsSomeAnd (section (codes "lease") members) (λ lease. IsLease lease s.lease)

-- the same of a node whose lease is granted by nobody
abbrev pub IsStaticRoot : Members → Settings → Type 0
IsStaticRoot members s = IsRoot members s × (s.lease.lease_type ≡ lease_type.Static)

-- the bytes are a configuration that says these settings
pub record IsConfiguration (bytes : List ℕ) (s : Settings) : Type 0 where
  pub size : length bytes ≤ 65536
  pub text : IsUtf8 bytes
  pub root : Members
  pub is_toml : parse_document bytes ≡ Some root
  pub says : IsRoot root s

-- the same of a node whose lease is granted by nobody
pub record IsStaticConfiguration (bytes : List ℕ) (s : Settings) : Type 0 where
  pub says : IsConfiguration bytes s
  pub static : s.lease.lease_type ≡ lease_type.Static
