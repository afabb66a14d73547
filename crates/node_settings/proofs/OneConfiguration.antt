-- A configuration says one thing.
use Rattle.std.proofs.Common.{◌≡◌, ℕ, pos, List, [], ◌∷◌, Option, true, false, Some, None, IsSomeAnd, MatchOption, option_map, sym, ap, ◌∙◌, subst, refl, codes}
use Rattle.toml.specs.Data.{Data, Items, no_items, item, array, Members}
use Rattle.node_settings.specs.declared.settings.Settings.{Settings}
use Rattle.node_settings.specs.declared.settings.EtcdPlace.{EtcdPlace}
use Rattle.node_settings.specs.declared.settings.LeaseSettings.{LeaseSettings}
use Rattle.node_settings.specs.declared.settings.MountSettings.{MountSettings}
use Rattle.node_settings.specs.declared.settings.ProxySettings.{ProxySettings}
use Rattle.node_settings.specs.declared.settings.LeaseType.TheVariants as lease
use Rattle.node_settings.specs.declared.settings.ServiceSettings.{ServiceSettings}
use Rattle.node_settings.specs.Service.{IsServiceConfiguration, IsServiceLease, IsServiceRoot}
use Rattle.node_settings.specs.Configuration.{IsEtcd, IsEtcdTable, IsFuse, IsHttp, IsProxy, IsData, IsLease, IsRoot, IsConfiguration, dir_of, endpoints_of, etcd_key_of, program_of}
use Rattle.node_settings.specs.Values.{HoldsOr, section, IsText, IsPath, IsNameText, IsAddressText, IsTargetText, IsUrlText, AreUrls, IsUrls, IsKeyText, IsSomeOf, IsFlag, IsOff, IsSwitch, IsNumber, IsLeaseType}

-- a rule reads one value
abbrev ReadsOne : {A : Type 0} → (Data → A → Type 0) → Type 0
ReadsOne {A} Rule = (d : Data) (a b : A) → Rule d a → Rule d b → a ≡ b

pub one_text : ReadsOne IsText
one_text d a b x y = cc

one_name : ReadsOne IsNameText
one_name d a b x y = one_text d a b x.0 y.0

one_address : ReadsOne IsAddressText
one_address d a b x y = one_text d a b x.0 y.0

one_path : ReadsOne IsPath
one_path d a b x y = one_text d a b x.0 y.0

one_target : ReadsOne IsTargetText
one_target d a b x y = one_text d a b x.0 y.0

pub one_url : ReadsOne IsUrlText
one_url d a b x y = one_text d a b x.0 y.0

are_one : (items : Items) (a b : List (List ℕ)) → AreUrls items a → AreUrls items b → a ≡ b
are_one no_items [] [] x y = refl
are_one no_items [] (v ∷ b) x y = absurd y
are_one no_items (u ∷ a) b x y = absurd x
are_one (item d items) [] b x y = absurd x
are_one (item d items) (u ∷ a) [] x y = absurd y
are_one (item d items) (u ∷ a) (v ∷ b) x y = let first = one_url d u v x.0 y.0 in let more = are_one items a b x.1 y.1 in cc (first, more)

one_urls : ReadsOne IsUrls
one_urls d a b x y =
    let arrays : array x.items ≡ array y.items = sym x.is_array ∙ y.is_array in
    let same : x.items ≡ y.items = cc in
    are_one y.items a b (subst (λ (i : Items). AreUrls i a) same x.each) y.each

one_key : ReadsOne IsKeyText
one_key d a b x y = one_text d a b x.0 y.0

one_some : {A : Type 0} (Rule : Data → A → Type 0) → ReadsOne Rule → ReadsOne (IsSomeOf Rule)
one_some Rule one d None b x y = absurd x
one_some Rule one d (Some a) None x y = absurd y
one_some Rule one d (Some a) (Some b) x y = ap Some (one d a b x y)

one_flag : ReadsOne IsFlag
one_flag d a b x y = cc

one_off : ReadsOne IsOff
one_off d a b x y = x.1 ∙ sym y.1

one_switch : ReadsOne IsSwitch
one_switch d true true x y = refl
one_switch d false false x y = refl
one_switch d true false x y = absurd (cc)
one_switch d false true x y = absurd (cc)

pub one_number : (least most : ℕ) → ReadsOne (IsNumber least most)
one_number least most d a b x y = let e : pos a ≡ pos b = cc (x.0, y.0) in cc

pub one_lease_type : ReadsOne IsLeaseType
one_lease_type d lease.Static lease.Static x y = refl
one_lease_type d lease.Service lease.Service x y = refl
one_lease_type d lease.Etcd lease.Etcd x y = refl
one_lease_type d lease.Static lease.Service x y = absurd (cc)
one_lease_type d lease.Static lease.Etcd x y = absurd (cc)
one_lease_type d lease.Service lease.Static x y = absurd (cc)
one_lease_type d lease.Service lease.Etcd x y = absurd (cc)
one_lease_type d lease.Etcd lease.Static x y = absurd (cc)
one_lease_type d lease.Etcd lease.Service x y = absurd (cc)

pub one_some_url : ReadsOne (IsSomeOf IsUrlText)
one_some_url = one_some IsUrlText one_url

holds : {A : Type 0} (Rule : Data → A → Type 0) → ReadsOne Rule → (o : Option Data) (a b : A) → IsSomeAnd o (λ d. Rule d a) → IsSomeAnd o (λ d. Rule d b) → a ≡ b
holds Rule one None a b x y = absurd x
holds Rule one (Some d) a b x y = one d a b x y

pub holds_or : {A : Type 0} (Rule : Data → A → Type 0) → ReadsOne Rule → (default : A) (o : Option Data) (a b : A)
    → MatchOption o (a ≡ default) (λ d. Rule d a) → MatchOption o (b ≡ default) (λ d. Rule d b) → a ≡ b
holds_or Rule one default None a b x y = x ∙ sym y
holds_or Rule one default (Some d) a b x y = one d a b x y

-- a mount is its folder and its program
pub one_mount : (a b : Option MountSettings) → dir_of a ≡ dir_of b → program_of a ≡ program_of b → a ≡ b
one_mount None None dirs programs = refl
one_mount None (Some b) dirs programs = absurd (cc)
one_mount (Some a) None dirs programs = absurd (cc)
one_mount (Some a) (Some b) dirs programs = let dir : a.dir ≡ b.dir = cc in λ i. Some (record { dir = dir i; program = programs i })

-- a proxy is its address and its target
pub one_proxy : (a b : Option ProxySettings) → option_map (λ p. p.addr) a ≡ option_map (λ p. p.addr) b → option_map (λ p. p.target) a ≡ option_map (λ p. p.target) b → a ≡ b
one_proxy None None addrs targets = refl
one_proxy None (Some b) addrs targets = absurd (cc)
one_proxy (Some a) None addrs targets = absurd (cc)
one_proxy (Some a) (Some b) addrs targets = let addr : a.addr ≡ b.addr = cc in let target : a.target ≡ b.target = cc in λ i. Some (record { addr = addr i; target = target i })

-- a place of etcd is its endpoints and its key
pub one_place : (a b : Option EtcdPlace) → endpoints_of a ≡ endpoints_of b → etcd_key_of a ≡ etcd_key_of b → a ≡ b
one_place None None endpoints keys = refl
one_place None (Some b) endpoints keys = absurd (cc)
one_place (Some a) None endpoints keys = absurd (cc)
one_place (Some a) (Some b) endpoints keys = let same : a.endpoints ≡ b.endpoints = cc in λ i. Some (record { endpoints = same i; key = keys i })

-- two facts of one table
both : (o : Option Members) (P Q : Members → Type 0) → IsSomeAnd o P → IsSomeAnd o Q → (t : Members) × P t × Q t
both None P Q x y = absurd x
both (Some t) P Q x y = (t, x, y)

-- the table of etcd says one thing
pub one_table : (o : Option Members) (a b : Option (List (List ℕ))) (j k : Option (List ℕ)) → IsSomeAnd o (λ m. IsEtcdTable m a j) → IsSomeAnd o (λ m. IsEtcdTable m b k) → (a ≡ b) × (j ≡ k)
one_table o a b j k x y =
    let etcd = both o (λ m. IsEtcdTable m a j) (λ m. IsEtcdTable m b k) x y in (
      holds_or (IsSomeOf IsUrls) (one_some IsUrls one_urls) None _ a b etcd.1.some_endpoints etcd.2.some_endpoints,
      holds_or (IsSomeOf IsKeyText) (one_some IsKeyText one_key) None _ j k etcd.1.a_key etcd.2.a_key,
    )

pub one_etcd : (t : Members) (a b : Option EtcdPlace) → IsSomeAnd (section (codes "etcd") t) (λ m. IsEtcd m a) → IsSomeAnd (section (codes "etcd") t) (λ m. IsEtcd m b) → a ≡ b
one_etcd t a b x y =
    let same = one_table (section (codes "etcd") t) (endpoints_of a) (endpoints_of b) (etcd_key_of a) (etcd_key_of b) x y in
    one_place a b same.0 same.1

one_lease : (t : Members) (a b : LeaseSettings) → IsLease t a → IsLease t b → a ≡ b
one_lease t a b x y =
    let one_ttl = holds_or (IsNumber 1 86400000) (one_number 1 86400000) _ _ a.ttl b.ttl x.ttl y.ttl in
    let theirs = subst (λ (d : ℕ). HoldsOr (codes "halt-ttl") (IsNumber 1 86400000) d t b.halt_ttl) (sym one_ttl) y.halt_ttl in
    let one_halt = holds_or (IsNumber 1 86400000) (one_number 1 86400000) a.ttl _ a.halt_ttl b.halt_ttl x.halt_ttl theirs in
    λ i. record {
      lease_type = holds_or IsLeaseType one_lease_type lease.Static _ a.lease_type b.lease_type x.lease_type y.lease_type i;
      candidate = holds_or IsFlag one_flag _ _ a.candidate b.candidate x.candidate y.candidate i;
      bootstrap = holds_or IsFlag one_flag _ _ a.bootstrap b.bootstrap x.bootstrap y.bootstrap i;
      advertise_url = holds IsUrlText one_url _ a.advertise_url b.advertise_url x.advertise_url y.advertise_url i;
      hostname = holds IsText one_text _ a.hostname b.hostname x.hostname y.hostname i;
      service_url = holds_or (IsSomeOf IsUrlText) one_some_url None _ a.service_url b.service_url x.service_url y.service_url i;
      etcd = one_etcd t a.etcd b.etcd x.etcd y.etcd i;
      ttl = one_ttl i;
      halt_ttl = one_halt i;
    }

pub one_root : (root : Members) (s t : Settings) → IsRoot root s → IsRoot root t → s ≡ t
one_root root s t x y =
    let fuse = both (section (codes "fuse") root) (λ m. IsFuse m s.socket s.mount) (λ m. IsFuse m t.socket t.mount) x.fuse y.fuse in
    let http = both (section (codes "http") root) (λ m. IsHttp m s.http) (λ m. IsHttp m t.http) x.http y.http in
    let passed = both (section (codes "proxy") root) (λ m. IsProxy m s.proxy) (λ m. IsProxy m t.proxy) x.proxy y.proxy in
    let mounts = one_mount s.mount t.mount
    (holds_or (IsSomeOf IsPath) (one_some IsPath one_path) None _ (dir_of s.mount) (dir_of t.mount) fuse.1.a_dir fuse.2.a_dir)
    (holds_or (IsSomeOf IsPath) (one_some IsPath one_path) None _ (program_of s.mount) (program_of t.mount) fuse.1.a_program fuse.2.a_program) in
    let proxies = one_proxy s.proxy t.proxy
    (holds_or (IsSomeOf IsAddressText) (one_some IsAddressText one_address) None _ (option_map (λ p. p.addr) s.proxy) (option_map (λ p. p.addr) t.proxy) passed.1.an_addr passed.2.an_addr)
    (holds_or (IsSomeOf IsTargetText) (one_some IsTargetText one_target) None _ (option_map (λ p. p.target) s.proxy) (option_map (λ p. p.target) t.proxy) passed.1.a_target passed.2.a_target) in
    let kept = both (section (codes "data") root) (λ m. IsData m s.compress s.retention_files) (λ m. IsData m t.compress t.retention_files) x.data_kept y.data_kept in
    let leases = both (section (codes "lease") root) (λ m. IsLease m s.lease) (λ m. IsLease m t.lease) x.lease y.lease in
    λ i. record {
      database = holds IsNameText one_name _ s.database t.database x.database y.database i;
      log = holds_or IsSwitch one_switch _ _ s.log t.log x.log y.log i;
      socket = holds_or IsText one_text _ _ s.socket t.socket fuse.1.listen fuse.2.listen i;
      mount = mounts i;
      http = holds_or IsAddressText one_address _ _ s.http t.http http.1.addr http.2.addr i;
      proxy = proxies i;
      compress = holds_or IsOff one_off _ _ s.compress t.compress kept.1.compress kept.2.compress i;
      retention_files = holds_or (IsNumber 1 _) (one_number 1 _) _ _ s.retention_files t.retention_files kept.1.retention_files kept.2.retention_files i;
      lease = one_lease leases.0 s.lease t.lease leases.1 leases.2 i;
    }

pub one_configuration : (bytes : List ℕ) (s t : Settings) → IsConfiguration bytes s → IsConfiguration bytes t → s ≡ t
one_configuration bytes s t x y =
    let same : Some x.root ≡ Some y.root = sym x.is_toml ∙ y.is_toml in
    let root : x.root ≡ y.root = cc in
    one_root x.root s t x.says (subst (λ (r : Members). IsRoot r t) (sym root) y.says)

pub one_service_root : (root : Members) (s t : ServiceSettings) → IsServiceRoot root s → IsServiceRoot root t → s ≡ t
one_service_root root s t x y =
    let http = both (section (codes "http") root) (λ m. IsHttp m s.http) (λ m. IsHttp m t.http) x.http y.http in
    let lease = both (section (codes "lease") root) (λ m. IsServiceLease m s.ttl) (λ m. IsServiceLease m t.ttl) x.lease y.lease in
    λ i. record {
      log = holds_or IsSwitch one_switch _ _ s.log t.log x.log y.log i;
      http = holds_or IsAddressText one_address _ _ s.http t.http http.1.addr http.2.addr i;
      ttl = holds_or (IsNumber 1 86400000) (one_number 1 86400000) _ _ s.ttl t.ttl lease.1.lasts lease.2.lasts i;
    }

pub one_service_configuration : (bytes : List ℕ) (s t : ServiceSettings) → IsServiceConfiguration bytes s → IsServiceConfiguration bytes t → s ≡ t
one_service_configuration bytes s t x y =
    let same : Some x.root ≡ Some y.root = sym x.is_toml ∙ y.is_toml in
    let root : x.root ≡ y.root = cc in
    one_service_root x.root s t x.says (subst (λ (r : Members). IsServiceRoot r t) (sym root) y.says)
