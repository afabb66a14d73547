-- A configuration's settings are there where all of its rules are kept, and only there.
use Rattle.std.proofs.Common.{◌≡◌, ℕ, ◌≤◌, pos, ◌^◌, ◌-◌, ◌∷◌, ◌++◌, [], List, Option, Some, None, IsSome, IsSomeAnd, MatchOption, option_map, sym, ap, subst, refl, codes, true, false, arith}
use Rattle.toml.specs.Data.{Data, string, integer, Members, get_member}
use Rattle.node_settings.specs.declared.settings.Settings.{Settings}
use Rattle.node_settings.specs.declared.settings.ServiceSettings.{ServiceSettings}
use Rattle.node_settings.specs.declared.settings.EtcdPlace.{EtcdPlace}
use Rattle.node_settings.specs.declared.settings.LeaseSettings.{LeaseSettings}
use Rattle.node_settings.specs.declared.settings.MountSettings.{MountSettings}
use Rattle.node_settings.specs.declared.settings.ProxySettings.{ProxySettings}
use Rattle.node_settings.specs.declared.settings.LeaseType.{LeaseType}
use Rattle.node_settings.specs.declared.settings.LeaseType.TheVariants as lease
use Rattle.node_settings.specs.declared.rule.Rule.{Rule}
use Rattle.node_settings.specs.declared.rule.Rule.TheVariants as rule
use Rattle.node_settings.specs.Configuration.{IsEtcd, IsEtcdTable, IsFuse, IsFuseTable, IsHttp, IsProxy, IsProxyTable, IsData, IsLease, IsRoot, IsStaticRoot, dir_of, endpoints_of, etcd_key_of, etcd_keys, fuse_keys, lease_keys, program_of, proxy_keys}
use Rattle.node_settings.specs.Service.{IsServiceLease, IsServiceRoot}
use Rattle.node_settings.specs.Rules.{AllKept, Keeps, Says, members_or_none, node_rules, service_rules, static_rules}
use Rattle.node_settings.specs.Values.{HasEtcd, HasOnly, HasService, HasTtl, section, IsText, IsPath, IsNameText, IsAddressText, IsTargetText, IsUrlText, IsUrls, IsKeyText, IsSomeOf, IsFlag, IsOff, IsSwitch, IsNumber, IsLeaseType}

-- ---- one key

-- the rule of a key: where it is, its value says something
abbrev Allows : {A : Type 0} → (Data → A → Type 0) → Option Data → Type 0
Allows IsOf o = MatchOption o (Unit {0}) (λ d. Says IsOf d)

held_or : {A : Type 0} (IsOf : Data → A → Type 0) (default : A) (o : Option Data) → Allows IsOf o → (a : A) × MatchOption o (a ≡ default) (λ d. IsOf d a)
held_or IsOf default None h = (default, refl)
held_or IsOf default (Some d) h = h

allowed_or : {A : Type 0} (IsOf : Data → A → Type 0) (default : A) (o : Option Data) (a : A) → MatchOption o (a ≡ default) (λ d. IsOf d a) → Allows IsOf o
allowed_or IsOf default None a h = tt
allowed_or IsOf default (Some d) a h = (a, h)

held : {A : Type 0} (IsOf : Data → A → Type 0) (o : Option Data) → IsSome o → Allows IsOf o → (a : A) × IsSomeAnd o (λ d. IsOf d a)
held IsOf None is h = absurd (cc)
held IsOf (Some d) is h = h

there : {A : Type 0} (IsOf : Data → A → Type 0) (o : Option Data) (a : A) → IsSomeAnd o (λ d. IsOf d a) → IsSome o × Allows IsOf o
there IsOf None a h = absurd h
there IsOf (Some d) a h = (refl, (a, h))

-- the same of a value that may be missing
held_some : {A : Type 0} (IsOf : Data → A → Type 0) (o : Option Data) → Allows IsOf o → (a : Option A) × MatchOption o (a ≡ None) (λ d. IsSomeOf IsOf d a)
held_some IsOf None h = (None, refl)
held_some IsOf (Some d) h = (Some h.0, h.1)

allowed_some : {A : Type 0} (IsOf : Data → A → Type 0) (o : Option Data) (a : Option A) → MatchOption o (a ≡ None) (λ d. IsSomeOf IsOf d a) → Allows IsOf o
allowed_some IsOf None a h = tt
allowed_some IsOf (Some d) None h = absurd h
allowed_some IsOf (Some d) (Some a) h = (a, h)

-- ---- one table

in_table : (o : Option Members) (P : Members → Type 0) → IsSome o → P (members_or_none o) → IsSomeAnd o P
in_table None P is h = absurd (cc)
in_table (Some t) P is h = h

of_table : (o : Option Members) (P : Members → Type 0) → IsSomeAnd o P → IsSome o × P (members_or_none o)
of_table None P h = absurd h
of_table (Some t) P h = (refl, h)

-- ---- the lease's type, and what stands beside it

abbrev IsService : Option Data → Type 0
IsService o = o ≡ Some (string (codes "service"))

abbrev IsOfEtcd : Option Data → Type 0
IsOfEtcd o = o ≡ Some (string (codes "etcd"))

has_service : (o u : Option Data) (t : LeaseType) (url : Option (List ℕ)) → MatchOption o (t ≡ lease.Static) (λ d. IsLeaseType d t)
    → MatchOption u (url ≡ None) (λ d. IsSomeOf IsUrlText d url) → (IsService o → IsSome u) → HasService t url
has_service o u lease.Static url is at asks = tt
has_service o u lease.Etcd url is at asks = tt
has_service None u lease.Service url is at asks = absurd (cc)
has_service (Some d) None lease.Service url is at asks = absurd (cc (asks (ap Some is)))
has_service (Some d) (Some e) lease.Service None is at asks = absurd at
has_service (Some d) (Some e) lease.Service (Some a) is at asks = refl

asks_service : (o u : Option Data) (t : LeaseType) (url : Option (List ℕ)) → MatchOption o (t ≡ lease.Static) (λ d. IsLeaseType d t)
    → MatchOption u (url ≡ None) (λ d. IsSomeOf IsUrlText d url) → HasService t url → IsService o → IsSome u
asks_service None u t url is at has service = absurd (cc)
asks_service (Some d) u lease.Static url is at has service = absurd (cc)
asks_service (Some d) u lease.Etcd url is at has service = absurd (cc)
asks_service (Some d) None lease.Service None is at has service = absurd (cc)
asks_service (Some d) None lease.Service (Some a) is at has service = absurd (cc)
asks_service (Some d) (Some e) lease.Service url is at has service = refl

-- the same of etcd
has_etcd : (o n : Option Data) (t : LeaseType) (etcd : Option EtcdPlace) → MatchOption o (t ≡ lease.Static) (λ d. IsLeaseType d t)
    → MatchOption n (endpoints_of etcd ≡ None) (λ d. IsSomeOf IsUrls d (endpoints_of etcd)) → (IsOfEtcd o → IsSome n) → HasEtcd t etcd
has_etcd o n lease.Static etcd is at asks = tt
has_etcd o n lease.Service etcd is at asks = tt
has_etcd None n lease.Etcd etcd is at asks = absurd (cc)
has_etcd (Some d) None lease.Etcd etcd is at asks = absurd (cc (asks (ap Some is)))
has_etcd (Some d) (Some e) lease.Etcd None is at asks = absurd at
has_etcd (Some d) (Some e) lease.Etcd (Some p) is at asks = refl

asks_etcd : (o n : Option Data) (t : LeaseType) (etcd : Option EtcdPlace) → MatchOption o (t ≡ lease.Static) (λ d. IsLeaseType d t)
    → MatchOption n (endpoints_of etcd ≡ None) (λ d. IsSomeOf IsUrls d (endpoints_of etcd)) → HasEtcd t etcd → IsOfEtcd o → IsSome n
asks_etcd None n t etcd is at has typed = absurd (cc)
asks_etcd (Some d) n lease.Static etcd is at has typed = absurd (cc)
asks_etcd (Some d) n lease.Service etcd is at has typed = absurd (cc)
asks_etcd (Some d) None lease.Etcd None is at has typed = absurd (cc)
asks_etcd (Some d) None lease.Etcd (Some p) is at has typed = absurd (cc)
asks_etcd (Some d) (Some e) lease.Etcd etcd is at has typed = refl

-- a time that is said, of two seconds at least
abbrev IsSeconds : Option Data → Type 0
IsSeconds o = Allows (IsNumber 2000 86400000) o

has_ttl : (o l : Option Data) (t : LeaseType) (ttl : ℕ) → MatchOption o (t ≡ lease.Static) (λ d. IsLeaseType d t)
    → MatchOption l (ttl ≡ 10000) (λ d. IsNumber 1 86400000 d ttl) → (IsOfEtcd o → IsSeconds l) → HasTtl t ttl
has_ttl o l lease.Static ttl is at asks = tt
has_ttl o l lease.Service ttl is at asks = tt
has_ttl None l lease.Etcd ttl is at asks = absurd (cc)
has_ttl (Some d) None lease.Etcd ttl is at asks = omega (arith, at)
has_ttl (Some d) (Some e) lease.Etcd ttl is at asks =
    let said = asks (ap Some is) in
    let numbers : pos said.0 ≡ pos ttl = cc (said.1.0, at.0) in
    let same : said.0 ≡ ttl = cc in
    subst (λ (n : ℕ). 2000 ≤ n) same said.1.1

asks_ttl : (o l : Option Data) (t : LeaseType) (ttl : ℕ) → MatchOption o (t ≡ lease.Static) (λ d. IsLeaseType d t)
    → MatchOption l (ttl ≡ 10000) (λ d. IsNumber 1 86400000 d ttl) → HasTtl t ttl → IsOfEtcd o → IsSeconds l
asks_ttl o None t ttl is at has typed = tt
asks_ttl None (Some e) t ttl is at has typed = absurd (cc)
asks_ttl (Some d) (Some e) lease.Static ttl is at has typed = absurd (cc)
asks_ttl (Some d) (Some e) lease.Service ttl is at has typed = absurd (cc)
asks_ttl (Some d) (Some e) lease.Etcd ttl is at has typed = (ttl, (at.0, has, at.2))

is_static : (o : Option Data) (t : LeaseType) → MatchOption o (t ≡ lease.Static) (λ d. IsLeaseType d t) → (IsService o → ⊥) × (IsOfEtcd o → ⊥) → t ≡ lease.Static
is_static o lease.Static is not = refl
is_static None t is not = is
is_static (Some d) lease.Service is not = absurd (not.0 (ap Some is))
is_static (Some d) lease.Etcd is not = absurd (not.1 (ap Some is))

asks_static : (o : Option Data) (t : LeaseType) → MatchOption o (t ≡ lease.Static) (λ d. IsLeaseType d t) → t ≡ lease.Static → (IsService o → ⊥) × (IsOfEtcd o → ⊥)
asks_static None t is static = (λ service. absurd (cc), λ typed. absurd (cc))
asks_static (Some d) lease.Static is static = (λ service. absurd (cc), λ typed. absurd (cc))
asks_static (Some d) lease.Service is static = absurd (cc)
asks_static (Some d) lease.Etcd is static = absurd (cc)

-- ---- where the one key is, the other is too

-- what stands under two keys of which the second brings the first
abbrev Brings : Option Data → Option Data → Type 0
Brings one other = IsSome one → IsSome other

mount_of : (d p : Option Data) (dir program : Option (List ℕ)) → MatchOption d (dir ≡ None) (λ x. IsSomeOf IsPath x dir) → MatchOption p (program ≡ None) (λ x. IsSomeOf IsPath x program)
    → Brings p d → (mount : Option MountSettings) × (dir_of mount ≡ dir) × (program_of mount ≡ program)
mount_of d p (Some dir) program is has brings = (Some (record { dir = dir; program = program }), refl, refl)
mount_of d None None program is has brings = (None, refl, sym has)
mount_of None (Some p) None program is has brings = absurd (cc (brings refl))
mount_of (Some d) (Some p) None program is has brings = absurd is

-- a program stands only beside a folder
brings_dir : (d p : Option Data) (mount : Option MountSettings) → MatchOption d (dir_of mount ≡ None) (λ x. IsSomeOf IsPath x (dir_of mount))
    → MatchOption p (program_of mount ≡ None) (λ x. IsSomeOf IsPath x (program_of mount)) → Brings p d
brings_dir (Some d) p mount is has some = refl
brings_dir None None mount is has some = some
brings_dir None (Some p) None is has some = absurd has
brings_dir None (Some p) (Some mount) is has some = absurd (cc)

-- endpoints and a key are a place
place_of : (n k : Option Data) (endpoints : Option (List (List ℕ))) (key : Option (List ℕ)) → MatchOption n (endpoints ≡ None) (λ x. IsSomeOf IsUrls x endpoints)
    → MatchOption k (key ≡ None) (λ x. IsSomeOf IsKeyText x key) → Brings k n → (etcd : Option EtcdPlace) × (endpoints_of etcd ≡ endpoints) × (etcd_key_of etcd ≡ key)
place_of n k (Some endpoints) key is has brings = (Some (record { endpoints = endpoints; key = key }), refl, refl)
place_of n None None key is has brings = (None, refl, sym has)
place_of None (Some k) None key is has brings = absurd (cc (brings refl))
place_of (Some n) (Some k) None key is has brings = absurd is

-- a key stands only beside endpoints
brings_endpoints : (n k : Option Data) (etcd : Option EtcdPlace) → MatchOption n (endpoints_of etcd ≡ None) (λ x. IsSomeOf IsUrls x (endpoints_of etcd))
    → MatchOption k (etcd_key_of etcd ≡ None) (λ x. IsSomeOf IsKeyText x (etcd_key_of etcd)) → Brings k n
brings_endpoints (Some n) k etcd is has some = refl
brings_endpoints None None etcd is has some = some
brings_endpoints None (Some k) None is has some = absurd has
brings_endpoints None (Some k) (Some etcd) is has some = absurd (cc)

proxy_of : (a t : Option Data) (addr target : Option (List ℕ)) → MatchOption a (addr ≡ None) (λ x. IsSomeOf IsAddressText x addr)
    → MatchOption t (target ≡ None) (λ x. IsSomeOf IsTargetText x target) → Brings t a → Brings a t
    → (proxy : Option ProxySettings) × (option_map (λ p. p.addr) proxy ≡ addr) × (option_map (λ p. p.target) proxy ≡ target)
proxy_of a t (Some addr) (Some target) is has back forth = (Some (record { addr = addr; target = target }), refl, refl)
proxy_of a t None None is has back forth = (None, refl, refl)
proxy_of None t (Some addr) None is has back forth = absurd (cc)
proxy_of (Some a) None (Some addr) None is has back forth = absurd (cc (forth refl))
proxy_of (Some a) (Some t) (Some addr) None is has back forth = absurd has
proxy_of a None None (Some target) is has back forth = absurd (cc)
proxy_of None (Some t) None (Some target) is has back forth = absurd (cc (back refl))
proxy_of (Some a) (Some t) None (Some target) is has back forth = absurd is

-- neither stands alone
brings_both : (a t : Option Data) (proxy : Option ProxySettings) → MatchOption a (option_map (λ p. p.addr) proxy ≡ None) (λ x. IsSomeOf IsAddressText x (option_map (λ p. p.addr) proxy))
    → MatchOption t (option_map (λ p. p.target) proxy ≡ None) (λ x. IsSomeOf IsTargetText x (option_map (λ p. p.target) proxy)) → Brings t a × Brings a t
brings_both None None proxy is has = (λ some. some, λ some. some)
brings_both (Some a) (Some t) proxy is has = (λ some. refl, λ some. refl)
brings_both None (Some t) None is has = absurd has
brings_both None (Some t) (Some proxy) is has = absurd (cc)
brings_both (Some a) None None is has = absurd is
brings_both (Some a) None (Some proxy) is has = absurd (cc)

-- ---- all rules

-- the members of the table of this name
abbrev Inside : List ℕ → Members → Members
Inside name root = members_or_none (section name root)

kept_etcd : (t : Members) → HasOnly etcd_keys t → Brings (get_member (codes "key") t) (get_member (codes "endpoints") t)
    → Allows IsUrls (get_member (codes "endpoints") t) → Allows IsKeyText (get_member (codes "key") t) → (etcd : Option EtcdPlace) × IsEtcd t etcd
kept_etcd t keys brings endpoints key =
    let n = held_some IsUrls _ endpoints in
    let k = held_some IsKeyText _ key in
    let p = place_of _ _ n.0 k.0 n.1 k.1 brings in
    (p.0, subst (λ (x : Option (List (List ℕ))). IsEtcdTable t x (etcd_key_of p.0)) (sym p.1) (subst (λ (y : Option (List ℕ)). IsEtcdTable t n.0 y) (sym p.2) (record { keys = keys; some_endpoints = n.1; a_key = k.1 })))

kept_lease : (t : Members) → HasOnly lease_keys t → Allows IsLeaseType (get_member (codes "type") t) → Allows IsFlag (get_member (codes "candidate") t)
    → Allows IsFlag (get_member (codes "bootstrap") t)
    → IsSome (get_member (codes "advertise-url") t) → Allows IsUrlText (get_member (codes "advertise-url") t)
    → IsSome (get_member (codes "hostname") t) → Allows IsText (get_member (codes "hostname") t)
    → Allows IsUrlText (get_member (codes "service-url") t) → (IsService (get_member (codes "type") t) → IsSome (get_member (codes "service-url") t))
    → Allows (IsNumber 1 86400000) (get_member (codes "ttl") t) → (IsOfEtcd (get_member (codes "type") t) → IsSeconds (get_member (codes "ttl") t))
    → Allows (IsNumber 1 86400000) (get_member (codes "halt-ttl") t) → IsSome (section (codes "etcd") t)
    → (IsOfEtcd (get_member (codes "type") t) → IsSome (get_member (codes "endpoints") (Inside (codes "etcd") t)))
    → (etcd : Option EtcdPlace) × IsEtcd (Inside (codes "etcd") t) etcd → (lease : LeaseSettings) × IsLease t lease
kept_lease t keys kind candidate bootstrap has_url url has_hostname hostname service_url service ttl seconds halt_ttl has_table endpoints etcd =
    let k = held_or IsLeaseType lease.Static _ kind in
    let c = held_or IsFlag false _ candidate in
    let b = held_or IsFlag false _ bootstrap in
    let u = held IsUrlText _ has_url url in
    let n = held IsText _ has_hostname hostname in
    let s = held_some IsUrlText _ service_url in
    let l = held_or (IsNumber 1 86400000) 10000 _ ttl in
    let w = held_or (IsNumber 1 86400000) l.0 _ halt_ttl in (
      record { lease_type = k.0; candidate = c.0; bootstrap = b.0; advertise_url = u.0; hostname = n.0; service_url = s.0; etcd = etcd.0; ttl = l.0; halt_ttl = w.0 },
      record {
        keys = keys;
        lease_type = k.1;
        candidate = c.1;
        bootstrap = b.1;
        advertise_url = u.1;
        hostname = n.1;
        service_url = s.1;
        has_service = has_service _ _ k.0 s.0 k.1 s.1 service;
        ttl = l.1;
        has_ttl = has_ttl _ _ k.0 l.0 k.1 l.1 seconds;
        halt_ttl = w.1;
        etcd = in_table (section (codes "etcd") t) (λ e. IsEtcd e etcd.0) has_table etcd.1;
        has_etcd = has_etcd _ _ k.0 etcd.0 k.1 etcd.1.some_endpoints endpoints;
      },
    )

kept_fuse : (t : Members) → HasOnly fuse_keys t → Allows IsText (get_member (codes "listen") t) → Brings (get_member (codes "program") t) (get_member (codes "dir") t)
    → Allows IsPath (get_member (codes "dir") t) → Allows IsPath (get_member (codes "program") t) → (socket : List ℕ) × (mount : Option MountSettings) × IsFuse t socket mount
kept_fuse t keys listen brings dir program =
    let s = held_or IsText (codes "litefs.sock") _ listen in
    let d = held_some IsPath _ dir in
    let p = held_some IsPath _ program in
    let m = mount_of _ _ d.0 p.0 d.1 p.1 brings in
    (s.0, m.0, subst (λ (x : Option (List ℕ)). IsFuseTable t s.0 x (program_of m.0)) (sym m.1) (subst (λ (y : Option (List ℕ)). IsFuseTable t s.0 d.0 y) (sym m.2) (record { keys = keys; listen = s.1; a_dir = d.1; a_program = p.1 })))

kept_proxy : (t : Members) → HasOnly proxy_keys t → Brings (get_member (codes "target") t) (get_member (codes "addr") t) → Allows IsAddressText (get_member (codes "addr") t)
    → Brings (get_member (codes "addr") t) (get_member (codes "target") t) → Allows IsTargetText (get_member (codes "target") t) → (proxy : Option ProxySettings) × IsProxy t proxy
kept_proxy t keys back addr forth target =
    let a = held_some IsAddressText _ addr in
    let g = held_some IsTargetText _ target in
    let p = proxy_of _ _ a.0 g.0 a.1 g.1 back forth in
    (p.0, subst (λ (x : Option (List ℕ)). IsProxyTable t x (option_map (λ q. q.target) p.0)) (sym p.1) (subst (λ (y : Option (List ℕ)). IsProxyTable t a.0 y) (sym p.2) (record { keys = keys; an_addr = a.1; a_target = g.1 })))

pub kept : (root : Members) → AllKept node_rules root → (s : Settings) × IsRoot root s
kept root h =
    let database = held IsNameText _ (h.1.0) (h.1.1.0) in
    let log = held_or IsSwitch true _ (h.1.1.1.0) in
    let files = kept_fuse (Inside (codes "fuse") root) (h.1.1.1.1.1.0) (h.1.1.1.1.1.1.0) (h.1.1.1.1.1.1.1.0) (h.1.1.1.1.1.1.1.1.0) (h.1.1.1.1.1.1.1.1.1.0) in
    let http = held_or IsAddressText (codes ":20202") _ (h.1.1.1.1.1.1.1.1.1.1.1.1.0) in
    let passed = kept_proxy (Inside (codes "proxy") root) (h.1.1.1.1.1.1.1.1.1.1.1.1.1.1.0) (h.1.1.1.1.1.1.1.1.1.1.1.1.1.1.1.0) (h.1.1.1.1.1.1.1.1.1.1.1.1.1.1.1.1.0) (h.1.1.1.1.1.1.1.1.1.1.1.1.1.1.1.1.1.0) (h.1.1.1.1.1.1.1.1.1.1.1.1.1.1.1.1.1.1.0) in
    let compress = held_or IsOff false _ (h.1.1.1.1.1.1.1.1.1.1.1.1.1.1.1.1.1.1.1.1.1.0) in
    let most = held_or (IsNumber 1 (2 ^ 63 - 1)) 1000 _ (h.1.1.1.1.1.1.1.1.1.1.1.1.1.1.1.1.1.1.1.1.1.1.0) in
    let placed = kept_etcd (Inside (codes "etcd") (Inside (codes "lease") root)) (h.1.1.1.1.1.1.1.1.1.1.1.1.1.1.1.1.1.1.1.1.1.1.1.1.1.1.1.1.1.1.1.1.1.1.1.1.1.1.0) (h.1.1.1.1.1.1.1.1.1.1.1.1.1.1.1.1.1.1.1.1.1.1.1.1.1.1.1.1.1.1.1.1.1.1.1.1.1.1.1.1.0) (h.1.1.1.1.1.1.1.1.1.1.1.1.1.1.1.1.1.1.1.1.1.1.1.1.1.1.1.1.1.1.1.1.1.1.1.1.1.1.1.1.1.0) (h.1.1.1.1.1.1.1.1.1.1.1.1.1.1.1.1.1.1.1.1.1.1.1.1.1.1.1.1.1.1.1.1.1.1.1.1.1.1.1.1.1.1.0) in
    let leased = kept_lease (Inside (codes "lease") root) (h.1.1.1.1.1.1.1.1.1.1.1.1.1.1.1.1.1.1.1.1.1.1.1.1.0) (h.1.1.1.1.1.1.1.1.1.1.1.1.1.1.1.1.1.1.1.1.1.1.1.1.1.0) (h.1.1.1.1.1.1.1.1.1.1.1.1.1.1.1.1.1.1.1.1.1.1.1.1.1.1.0) (h.1.1.1.1.1.1.1.1.1.1.1.1.1.1.1.1.1.1.1.1.1.1.1.1.1.1.1.0) (h.1.1.1.1.1.1.1.1.1.1.1.1.1.1.1.1.1.1.1.1.1.1.1.1.1.1.1.1.0) (h.1.1.1.1.1.1.1.1.1.1.1.1.1.1.1.1.1.1.1.1.1.1.1.1.1.1.1.1.1.0) (h.1.1.1.1.1.1.1.1.1.1.1.1.1.1.1.1.1.1.1.1.1.1.1.1.1.1.1.1.1.1.0) (h.1.1.1.1.1.1.1.1.1.1.1.1.1.1.1.1.1.1.1.1.1.1.1.1.1.1.1.1.1.1.1.0) (h.1.1.1.1.1.1.1.1.1.1.1.1.1.1.1.1.1.1.1.1.1.1.1.1.1.1.1.1.1.1.1.1.0) (h.1.1.1.1.1.1.1.1.1.1.1.1.1.1.1.1.1.1.1.1.1.1.1.1.1.1.1.1.1.1.1.1.1.0) (h.1.1.1.1.1.1.1.1.1.1.1.1.1.1.1.1.1.1.1.1.1.1.1.1.1.1.1.1.1.1.1.1.1.1.0) (h.1.1.1.1.1.1.1.1.1.1.1.1.1.1.1.1.1.1.1.1.1.1.1.1.1.1.1.1.1.1.1.1.1.1.1.0) (h.1.1.1.1.1.1.1.1.1.1.1.1.1.1.1.1.1.1.1.1.1.1.1.1.1.1.1.1.1.1.1.1.1.1.1.1.0) (h.1.1.1.1.1.1.1.1.1.1.1.1.1.1.1.1.1.1.1.1.1.1.1.1.1.1.1.1.1.1.1.1.1.1.1.1.1.0) (h.1.1.1.1.1.1.1.1.1.1.1.1.1.1.1.1.1.1.1.1.1.1.1.1.1.1.1.1.1.1.1.1.1.1.1.1.1.1.1.0) placed in (
      record { database = database.0; log = log.0; socket = files.0; mount = files.1; http = http.0; proxy = passed.0; compress = compress.0; retention_files = most.0; lease = leased.0 },
      record {
        keys = h.0;
        database = database.1;
        log = log.1;
        fuse = in_table (section (codes "fuse") root) (λ t. IsFuse t files.0 files.1) (h.1.1.1.1.0) files.2;
        http = in_table (section (codes "http") root) (λ t. IsHttp t http.0) (h.1.1.1.1.1.1.1.1.1.1.0) (record { keys = h.1.1.1.1.1.1.1.1.1.1.1.0; addr = http.1 });
        proxy = in_table (section (codes "proxy") root) (λ t. IsProxy t passed.0) (h.1.1.1.1.1.1.1.1.1.1.1.1.1.0) passed.1;
        data_kept = in_table (section (codes "data") root) (λ t. IsData t compress.0 most.0) (h.1.1.1.1.1.1.1.1.1.1.1.1.1.1.1.1.1.1.1.0) (record { keys = h.1.1.1.1.1.1.1.1.1.1.1.1.1.1.1.1.1.1.1.1.0; compress = compress.1; retention_files = most.1 });
        lease = in_table (section (codes "lease") root) (λ t. IsLease t leased.0) (h.1.1.1.1.1.1.1.1.1.1.1.1.1.1.1.1.1.1.1.1.1.1.1.0) leased.1;
      },
    )

pub keeps : (root : Members) (s : Settings) → IsRoot root s → AllKept node_rules root
keeps root s is =
    let database = there IsNameText _ s.database is.database in
    let fuse = of_table (section (codes "fuse") root) (λ t. IsFuse t s.socket s.mount) is.fuse in
    let http = of_table (section (codes "http") root) (λ t. IsHttp t s.http) is.http in
    let passed = of_table (section (codes "proxy") root) (λ t. IsProxy t s.proxy) is.proxy in
    let beside = brings_both _ _ s.proxy passed.1.an_addr passed.1.a_target in
    let stored = of_table (section (codes "data") root) (λ t. IsData t s.compress s.retention_files) is.data_kept in
    let leased = of_table (section (codes "lease") root) (λ t. IsLease t s.lease) is.lease in
    let url = there IsUrlText _ s.lease.advertise_url leased.1.advertise_url in
    let hostname = there IsText _ s.lease.hostname leased.1.hostname in
    let placed = of_table (section (codes "etcd") (Inside (codes "lease") root)) (λ t. IsEtcd t s.lease.etcd) leased.1.etcd in
    (is.keys, (database.0, (database.1, (allowed_or IsSwitch true _ s.log is.log, (fuse.0, (fuse.1.keys, (allowed_or IsText (codes "litefs.sock") _ s.socket fuse.1.listen, (brings_dir _ _ s.mount fuse.1.a_dir fuse.1.a_program, (allowed_some IsPath _ (dir_of s.mount) fuse.1.a_dir, (allowed_some IsPath _ (program_of s.mount) fuse.1.a_program, (http.0, (http.1.keys, (allowed_or IsAddressText (codes ":20202") _ s.http http.1.addr, (passed.0, (passed.1.keys, (beside.0, (allowed_some IsAddressText _ (option_map (λ p. p.addr) s.proxy) passed.1.an_addr, (beside.1, (allowed_some IsTargetText _ (option_map (λ p. p.target) s.proxy) passed.1.a_target, (stored.0, (stored.1.keys, (allowed_or IsOff false _ s.compress stored.1.compress, (allowed_or (IsNumber 1 (2 ^ 63 - 1)) 1000 _ s.retention_files stored.1.retention_files, (leased.0, (leased.1.keys, (allowed_or IsLeaseType lease.Static _ s.lease.lease_type leased.1.lease_type, (allowed_or IsFlag false _ s.lease.candidate leased.1.candidate, (allowed_or IsFlag false _ s.lease.bootstrap leased.1.bootstrap, (url.0, (url.1, (hostname.0, (hostname.1, (allowed_some IsUrlText _ s.lease.service_url leased.1.service_url, (asks_service _ _ s.lease.lease_type s.lease.service_url leased.1.lease_type leased.1.service_url leased.1.has_service, (allowed_or (IsNumber 1 86400000) 10000 _ s.lease.ttl leased.1.ttl, (asks_ttl _ _ s.lease.lease_type s.lease.ttl leased.1.lease_type leased.1.ttl leased.1.has_ttl, (allowed_or (IsNumber 1 86400000) s.lease.ttl _ s.lease.halt_ttl leased.1.halt_ttl, (placed.0, (placed.1.keys, (asks_etcd _ _ s.lease.lease_type s.lease.etcd leased.1.lease_type placed.1.some_endpoints leased.1.has_etcd, (brings_endpoints _ _ s.lease.etcd placed.1.some_endpoints placed.1.a_key, (allowed_some IsUrls _ (endpoints_of s.lease.etcd) placed.1.some_endpoints, (allowed_some IsKeyText _ (etcd_key_of s.lease.etcd) placed.1.a_key, tt)))))))))))))))))))))))))))))))))))))))))))

-- ---- of a node whose lease is granted by nobody

-- the rules without the last one
without_last : (rules : List Rule) (r : Rule) (root : Members) → AllKept (rules ++ r ∷ []) root → AllKept rules root × Keeps r root
without_last [] r root h = (tt, h.0)
without_last (q ∷ rules) r root h = let more = without_last rules r root h.1 in ((h.0, more.0), more.1)

with_last : (rules : List Rule) (r : Rule) (root : Members) → AllKept rules root → Keeps r root → AllKept (rules ++ r ∷ []) root
with_last [] r root h last = (last, tt)
with_last (q ∷ rules) r root h last = (h.0, with_last rules r root h.1 last)

-- its type as the table says it
typed : (o : Option Members) (s : LeaseSettings) → IsSomeAnd o (λ t. IsLease t s) → MatchOption (get_member (codes "type") (members_or_none o)) (s.lease_type ≡ lease.Static) (λ d. IsLeaseType d s.lease_type)
typed None s h = absurd h
typed (Some t) s h = h.lease_type

pub kept_static : (root : Members) → AllKept static_rules root → (s : Settings) × IsStaticRoot root s
kept_static root h =
    let both = without_last node_rules rule.Static root h in
    let said = kept root both.0 in
    (said.0, (said.1, is_static _ said.0.lease.lease_type (typed (section (codes "lease") root) said.0.lease said.1.lease) both.1))

pub keeps_static : (root : Members) (s : Settings) → IsStaticRoot root s → AllKept static_rules root
keeps_static root s is =
    with_last node_rules rule.Static root (keeps root s is.0) (asks_static _ s.lease.lease_type (typed (section (codes "lease") root) s.lease is.0.lease) is.1)

-- ---- of a lease service

pub kept_service : (root : Members) → AllKept service_rules root → (s : ServiceSettings) × IsServiceRoot root s
kept_service root h =
    let database = held_some IsNameText _ (h.1.0) in
    let log = held_or IsSwitch true _ (h.1.1.0) in
    let socket = held_or IsText (codes "litefs.sock") _ (h.1.1.1.1.1.0) in
    let dir = held_some IsPath _ (h.1.1.1.1.1.1.0) in
    let program = held_some IsPath _ (h.1.1.1.1.1.1.1.0) in
    let http = held_or IsAddressText (codes ":20202") _ (h.1.1.1.1.1.1.1.1.1.1.0) in
    let addr = held_some IsAddressText _ (h.1.1.1.1.1.1.1.1.1.1.1.1.1.0) in
    let target = held_some IsTargetText _ (h.1.1.1.1.1.1.1.1.1.1.1.1.1.1.0) in
    let compress = held_or IsOff false _ (h.1.1.1.1.1.1.1.1.1.1.1.1.1.1.1.1.1.0) in
    let files = held_or (IsNumber 1 (2 ^ 63 - 1)) 1000 _ (h.1.1.1.1.1.1.1.1.1.1.1.1.1.1.1.1.1.1.0) in
    let kind = held_or IsLeaseType lease.Static _ (h.1.1.1.1.1.1.1.1.1.1.1.1.1.1.1.1.1.1.1.1.1.0) in
    let candidate = held_or IsFlag false _ (h.1.1.1.1.1.1.1.1.1.1.1.1.1.1.1.1.1.1.1.1.1.1.0) in
    let bootstrap = held_or IsFlag false _ (h.1.1.1.1.1.1.1.1.1.1.1.1.1.1.1.1.1.1.1.1.1.1.1.0) in
    let url = held_some IsUrlText _ (h.1.1.1.1.1.1.1.1.1.1.1.1.1.1.1.1.1.1.1.1.1.1.1.1.0) in
    let hostname = held_some IsText _ (h.1.1.1.1.1.1.1.1.1.1.1.1.1.1.1.1.1.1.1.1.1.1.1.1.1.0) in
    let service_url = held_some IsUrlText _ (h.1.1.1.1.1.1.1.1.1.1.1.1.1.1.1.1.1.1.1.1.1.1.1.1.1.1.0) in
    let ttl = held_or (IsNumber 1 86400000) 10000 _ (h.1.1.1.1.1.1.1.1.1.1.1.1.1.1.1.1.1.1.1.1.1.1.1.1.1.1.1.0) in
    let halt_ttl = held_or (IsNumber 1 86400000) ttl.0 _ (h.1.1.1.1.1.1.1.1.1.1.1.1.1.1.1.1.1.1.1.1.1.1.1.1.1.1.1.1.0) in
    let endpoints = held_some IsUrls _ (h.1.1.1.1.1.1.1.1.1.1.1.1.1.1.1.1.1.1.1.1.1.1.1.1.1.1.1.1.1.1.1.0) in
    let etcd_key = held_some IsKeyText _ (h.1.1.1.1.1.1.1.1.1.1.1.1.1.1.1.1.1.1.1.1.1.1.1.1.1.1.1.1.1.1.1.1.0) in (
      record { log = log.0; http = http.0; ttl = ttl.0 },
      record {
        database = database.0;
        socket = socket.0;
        dir = dir.0;
        program = program.0;
        addr = addr.0;
        target = target.0;
        packed = compress.0;
        files = files.0;
        keys = h.0;
        named = database.1;
        log = log.1;
        fuse = in_table (section (codes "fuse") root) (λ t. IsFuseTable t socket.0 dir.0 program.0) (h.1.1.1.0) (record { keys = h.1.1.1.1.0; listen = socket.1; a_dir = dir.1; a_program = program.1 });
        http = in_table (section (codes "http") root) (λ t. IsHttp t http.0) (h.1.1.1.1.1.1.1.1.0) (record { keys = h.1.1.1.1.1.1.1.1.1.0; addr = http.1 });
        proxy = in_table (section (codes "proxy") root) (λ t. IsProxyTable t addr.0 target.0) (h.1.1.1.1.1.1.1.1.1.1.1.0) (record { keys = h.1.1.1.1.1.1.1.1.1.1.1.1.0; an_addr = addr.1; a_target = target.1 });
        data_kept = in_table (section (codes "data") root) (λ t. IsData t compress.0 files.0) (h.1.1.1.1.1.1.1.1.1.1.1.1.1.1.1.0) (record { keys = h.1.1.1.1.1.1.1.1.1.1.1.1.1.1.1.1.0; compress = compress.1; retention_files = files.1 });
        lease = in_table (section (codes "lease") root) (λ t. IsServiceLease t ttl.0) (h.1.1.1.1.1.1.1.1.1.1.1.1.1.1.1.1.1.1.1.0)
            (record {
              kind = kind.0;
              candidate = candidate.0;
              bootstrap = bootstrap.0;
              advertise_url = url.0;
              hostname = hostname.0;
              service_url = service_url.0;
              halt_ttl = halt_ttl.0;
              endpoints = endpoints.0;
              etcd_key = etcd_key.0;
              keys = h.1.1.1.1.1.1.1.1.1.1.1.1.1.1.1.1.1.1.1.1.0;
              a_type = kind.1;
              a_flag = candidate.1;
              begun = bootstrap.1;
              advertised = url.1;
              named = hostname.1;
              served = service_url.1;
              lasts = ttl.1;
              permitted = halt_ttl.1;
              granted = in_table (section (codes "etcd") (Inside (codes "lease") root)) (λ t. IsEtcdTable t endpoints.0 etcd_key.0) (h.1.1.1.1.1.1.1.1.1.1.1.1.1.1.1.1.1.1.1.1.1.1.1.1.1.1.1.1.1.0) (record { keys = (h.1.1.1.1.1.1.1.1.1.1.1.1.1.1.1.1.1.1.1.1.1.1.1.1.1.1.1.1.1.1.0); some_endpoints = endpoints.1; a_key = etcd_key.1 });
            });
      },
    )

pub keeps_service : (root : Members) (s : ServiceSettings) → IsServiceRoot root s → AllKept service_rules root
keeps_service root s is =
    let fuse = of_table (section (codes "fuse") root) (λ t. IsFuseTable t is.socket is.dir is.program) is.fuse in
    let http = of_table (section (codes "http") root) (λ t. IsHttp t s.http) is.http in
    let passed = of_table (section (codes "proxy") root) (λ t. IsProxyTable t is.addr is.target) is.proxy in
    let stored = of_table (section (codes "data") root) (λ t. IsData t is.packed is.files) is.data_kept in
    let leased = of_table (section (codes "lease") root) (λ t. IsServiceLease t s.ttl) is.lease in
    let placed = of_table (section (codes "etcd") (Inside (codes "lease") root)) (λ t. IsEtcdTable t leased.1.endpoints leased.1.etcd_key) leased.1.granted in
    (is.keys, (allowed_some IsNameText _ is.database is.named, (allowed_or IsSwitch true _ s.log is.log, (fuse.0, (fuse.1.keys, (allowed_or IsText (codes "litefs.sock") _ is.socket fuse.1.listen, (allowed_some IsPath _ is.dir fuse.1.a_dir, (allowed_some IsPath _ is.program fuse.1.a_program, (http.0, (http.1.keys, (allowed_or IsAddressText (codes ":20202") _ s.http http.1.addr, (passed.0, (passed.1.keys, (allowed_some IsAddressText _ is.addr passed.1.an_addr, (allowed_some IsTargetText _ is.target passed.1.a_target, (stored.0, (stored.1.keys, (allowed_or IsOff false _ is.packed stored.1.compress, (allowed_or (IsNumber 1 (2 ^ 63 - 1)) 1000 _ is.files stored.1.retention_files, (leased.0, (leased.1.keys, (allowed_or IsLeaseType lease.Static _ leased.1.kind leased.1.a_type, (allowed_or IsFlag false _ leased.1.candidate leased.1.a_flag, (allowed_or IsFlag false _ leased.1.bootstrap leased.1.begun, (allowed_some IsUrlText _ leased.1.advertise_url leased.1.advertised, (allowed_some IsText _ leased.1.hostname leased.1.named, (allowed_some IsUrlText _ leased.1.service_url leased.1.served, (allowed_or (IsNumber 1 86400000) 10000 _ s.ttl leased.1.lasts, (allowed_or (IsNumber 1 86400000) s.ttl _ leased.1.halt_ttl leased.1.permitted, (placed.0, (placed.1.keys, (allowed_some IsUrls _ leased.1.endpoints placed.1.some_endpoints, (allowed_some IsKeyText _ leased.1.etcd_key placed.1.a_key, tt)))))))))))))))))))))))))))))))))
