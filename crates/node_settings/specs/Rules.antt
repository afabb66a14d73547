-- The rules of a configuration, in their order, and which one a text breaks first.
use Rattle.std.specs.Prelude.{◌≡◌, ◌⊎◌, ℕ, ◌^◌, ◌-◌, List, [], ◌∷◌, ◌++◌, codes, if◌then◌else◌, Option, Some, None, IsSome, MatchOption}
use Rattle.std.specs.Borrow.{Bor}
use Rattle.toml.specs.Data.{Data, string, Members, no_members, member, get_member}
use Rattle.node_settings.specs.declared.key.Key.{Key}
use Rattle.node_settings.specs.declared.key.Key.TheVariants as key
use Rattle.node_settings.specs.declared.place.Place.{Place}
use Rattle.node_settings.specs.declared.place.Place.TheVariants as place
use Rattle.node_settings.specs.declared.rule.Rule.{Rule}
use Rattle.node_settings.specs.declared.rule.Rule.TheVariants as rule
use Rattle.node_settings.specs.Configuration.{etcd_keys, fuse_keys, lease_keys, proxy_keys, root_keys}
use Rattle.node_settings.specs.Values.{HasOnly, is_among, section}
use Rattle.node_settings.specs.Values.{IsText, IsPath, IsNameText, IsAddressText, IsTargetText, IsUrlText, IsUrls, IsKeyText, IsFlag, IsOff, IsSwitch, IsNumber, IsLeaseType}

-- ---- tables and keys

abbrev pub name_of_place : Place → List ℕ
name_of_place place.Root = []
name_of_place place.Fuse = codes "fuse"
name_of_place place.Http = codes "http"
name_of_place place.Proxy = codes "proxy"
name_of_place place.Data = codes "data"
name_of_place place.Lease = codes "lease"
name_of_place place.Etcd = codes "etcd"

-- the table that it stands in; the text itself stands in none
abbrev pub parent_of : Place → Place
parent_of place.Root = place.Root
parent_of place.Fuse = place.Root
parent_of place.Http = place.Root
parent_of place.Proxy = place.Root
parent_of place.Data = place.Root
parent_of place.Lease = place.Root
parent_of place.Etcd = place.Lease

-- what stands in front of the name of each of its keys
abbrev pub prefix_of : Place → List ℕ
prefix_of place.Root = []
prefix_of place.Fuse = codes "fuse."
prefix_of place.Http = codes "http."
prefix_of place.Proxy = codes "proxy."
prefix_of place.Data = codes "data."
prefix_of place.Lease = codes "lease."
prefix_of place.Etcd = codes "lease.etcd."

abbrev pub keys_of : Place → List (List ℕ)
keys_of place.Root = root_keys
keys_of place.Fuse = fuse_keys
keys_of place.Http = codes "addr" ∷ []
keys_of place.Proxy = proxy_keys
keys_of place.Data = codes "compress" ∷ codes "retention-files" ∷ []
keys_of place.Lease = lease_keys
keys_of place.Etcd = etcd_keys

abbrev pub members_or_none : Option Members → Members
members_or_none None = no_members
members_or_none (Some members) = members

-- its members: none where it is missing, and nothing where its value is no table
abbrev pub section_of : Place → Members → Option Members
section_of place.Root root = Some root
section_of place.Fuse root = section (codes "fuse") root
section_of place.Http root = section (codes "http") root
section_of place.Proxy root = section (codes "proxy") root
section_of place.Data root = section (codes "data") root
section_of place.Lease root = section (codes "lease") root
section_of place.Etcd root = section (codes "etcd") (members_or_none (section (codes "lease") root))

-- the same, and none where its value is no table
abbrev pub members_in : Place → Members → Members
members_in p root = members_or_none (section_of p root)

abbrev pub place_of : Key → Place
place_of key.Database = place.Root
place_of key.Log = place.Root
place_of key.Listen = place.Fuse
place_of key.Dir = place.Fuse
place_of key.Program = place.Fuse
place_of key.Addr = place.Http
place_of key.ProxyAddr = place.Proxy
place_of key.Target = place.Proxy
place_of key.Compress = place.Data
place_of key.RetentionFiles = place.Data
place_of key.Type = place.Lease
place_of key.Candidate = place.Lease
place_of key.Bootstrap = place.Lease
place_of key.AdvertiseUrl = place.Lease
place_of key.Hostname = place.Lease
place_of key.ServiceUrl = place.Lease
place_of key.Ttl = place.Lease
place_of key.HaltTtl = place.Lease
place_of key.Endpoints = place.Etcd
place_of key.EtcdKey = place.Etcd

abbrev pub name_of : Key → List ℕ
name_of key.Database = codes "database"
name_of key.Log = codes "log"
name_of key.Listen = codes "listen"
name_of key.Dir = codes "dir"
name_of key.Program = codes "program"
name_of key.Addr = codes "addr"
name_of key.ProxyAddr = codes "addr"
name_of key.Target = codes "target"
name_of key.Compress = codes "compress"
name_of key.RetentionFiles = codes "retention-files"
name_of key.Type = codes "type"
name_of key.Candidate = codes "candidate"
name_of key.Bootstrap = codes "bootstrap"
name_of key.AdvertiseUrl = codes "advertise-url"
name_of key.Hostname = codes "hostname"
name_of key.ServiceUrl = codes "service-url"
name_of key.Ttl = codes "ttl"
name_of key.HaltTtl = codes "halt-ttl"
name_of key.Endpoints = codes "endpoints"
name_of key.EtcdKey = codes "key"

abbrev pub value_of : Key → Members → Option Data
value_of k root = get_member (name_of k) (members_in (place_of k) root)

-- a key of this name stands in the table
abbrev pub StandsAt : Place → List ℕ → Members → Type 0
StandsAt p name root = IsSome (get_member name (members_in p root))

-- the same of a name that may be missing
abbrev pub Stands : Place → Option (Bor (List ℕ)) → Members → Type 0
Stands p None root = ⊥
Stands p (Some name) root = StandsAt p name.now root

-- ---- the rules

-- by the rule the data says something
abbrev pub Says : {A : Type 0} → (Data → A → Type 0) → Data → Type 0
Says {A} IsOf d = (a : A) × IsOf d a

-- the data is a value that the key may have
abbrev pub Fits : Key → Data → Type 0
Fits key.Database d = Says IsNameText d
Fits key.Log d = Says IsSwitch d
Fits key.Listen d = Says IsText d
Fits key.Dir d = Says IsPath d
Fits key.Program d = Says IsPath d
Fits key.Addr d = Says IsAddressText d
Fits key.ProxyAddr d = Says IsAddressText d
Fits key.Target d = Says IsTargetText d
Fits key.Compress d = Says IsOff d
Fits key.RetentionFiles d = Says (IsNumber 1 (2 ^ 63 - 1)) d
Fits key.Type d = Says IsLeaseType d
Fits key.Candidate d = Says IsFlag d
Fits key.Bootstrap d = Says IsFlag d
Fits key.AdvertiseUrl d = Says IsUrlText d
Fits key.Hostname d = Says IsText d
Fits key.ServiceUrl d = Says IsUrlText d
Fits key.Ttl d = Says (IsNumber 1 86400000) d
Fits key.HaltTtl d = Says (IsNumber 1 86400000) d
Fits key.Endpoints d = Says IsUrls d
Fits key.EtcdKey d = Says IsKeyText d

-- the lease's type is said by this word
abbrev pub IsTyped : List ℕ → Members → Type 0
IsTyped word root = value_of key.Type root ≡ Some (string word)

-- the lease is said to be a service's
abbrev pub IsServices : Members → Type 0
IsServices root = IsTyped (codes "service") root

-- the lease is said to be etcd's
abbrev pub IsEtcds : Members → Type 0
IsEtcds root = IsTyped (codes "etcd") root

-- where the time of a lease is said, it is two seconds at least
abbrev pub LastsSeconds : Members → Type 0
LastsSeconds root = MatchOption (value_of key.Ttl root) (Unit {0}) (λ d. Says (IsNumber 2000 86400000) d)

-- where the one key is, the other is too
abbrev pub Brings : Key → Key → Members → Type 0
Brings one other root = IsSome (value_of one root) → IsSome (value_of other root)

-- the rule is kept
abbrev pub Keeps : Rule → Members → Type 0
Keeps (rule.Table p) root = IsSome (section_of p root)
Keeps (rule.Keys p) root = HasOnly (keys_of p) (members_in p root)
Keeps (rule.There k) root = IsSome (value_of k root)
Keeps (rule.Value k) root = MatchOption (value_of k root) (Unit {0}) (λ d. Fits k d)
Keeps rule.Dir root = Brings key.Program key.Dir root
Keeps rule.Addr root = Brings key.Target key.ProxyAddr root
Keeps rule.Target root = Brings key.ProxyAddr key.Target root
Keeps rule.Service root = IsServices root → IsSome (value_of key.ServiceUrl root)
Keeps rule.Seconds root = IsEtcds root → LastsSeconds root
Keeps rule.Etcd root = IsEtcds root → IsSome (value_of key.Endpoints root)
Keeps rule.Endpoints root = Brings key.EtcdKey key.Endpoints root
Keeps rule.Static root = (IsServices root → ⊥) × (IsEtcds root → ⊥)

-- each of these rules is kept
abbrev pub AllKept : List Rule → Members → Type 0
AllKept [] root = Unit {0}
AllKept (r ∷ rules) root = Keeps r root × AllKept rules root

-- THE RULE IS BROKEN, and each of these in front of it is kept
abbrev pub IsFirstBroken : List Rule → Members → Rule → Type 0
IsFirstBroken [] root broken = ⊥
IsFirstBroken (r ∷ rules) root broken = ((broken ≡ r) × (Keeps r root → ⊥)) ⊎ (Keeps r root × IsFirstBroken rules root broken)

-- ---- the key that a rule is about

-- the first key that is none of these, and nothing where there is none
abbrev pub other_key : List (List ℕ) → Members → List ℕ
other_key keys no_members = []
other_key keys (member name d members) = if is_among keys name then other_key keys members else name

abbrev pub place_of_rule : Rule → Place
place_of_rule (rule.Table p) = parent_of p
place_of_rule (rule.Keys p) = p
place_of_rule (rule.There k) = place_of k
place_of_rule (rule.Value k) = place_of k
place_of_rule rule.Dir = place.Fuse
place_of_rule rule.Addr = place.Proxy
place_of_rule rule.Target = place.Proxy
place_of_rule rule.Service = place.Lease
place_of_rule rule.Seconds = place.Lease
place_of_rule rule.Etcd = place.Etcd
place_of_rule rule.Endpoints = place.Etcd
place_of_rule rule.Static = place.Lease

abbrev pub name_of_rule : Rule → Members → List ℕ
name_of_rule (rule.Table p) root = name_of_place p
name_of_rule (rule.Keys p) root = other_key (keys_of p) (members_in p root)
name_of_rule (rule.There k) root = name_of k
name_of_rule (rule.Value k) root = name_of k
name_of_rule rule.Dir root = codes "dir"
name_of_rule rule.Addr root = codes "addr"
name_of_rule rule.Target root = codes "target"
name_of_rule rule.Service root = codes "service-url"
name_of_rule rule.Seconds root = codes "ttl"
name_of_rule rule.Etcd root = codes "endpoints"
name_of_rule rule.Endpoints root = codes "endpoints"
name_of_rule rule.Static root = codes "type"

-- ---- which rules, in which order

-- those of a node
abbrev pub node_rules : List Rule
node_rules = rule.Keys place.Root
    ∷ rule.There key.Database ∷ rule.Value key.Database
    ∷ rule.Value key.Log
    ∷ rule.Table place.Fuse ∷ rule.Keys place.Fuse ∷ rule.Value key.Listen ∷ rule.Dir ∷ rule.Value key.Dir ∷ rule.Value key.Program
    ∷ rule.Table place.Http ∷ rule.Keys place.Http ∷ rule.Value key.Addr
    ∷ rule.Table place.Proxy ∷ rule.Keys place.Proxy ∷ rule.Addr ∷ rule.Value key.ProxyAddr ∷ rule.Target ∷ rule.Value key.Target
    ∷ rule.Table place.Data ∷ rule.Keys place.Data ∷ rule.Value key.Compress ∷ rule.Value key.RetentionFiles
    ∷ rule.Table place.Lease ∷ rule.Keys place.Lease ∷ rule.Value key.Type ∷ rule.Value key.Candidate ∷ rule.Value key.Bootstrap
    ∷ rule.There key.AdvertiseUrl ∷ rule.Value key.AdvertiseUrl ∷ rule.There key.Hostname ∷ rule.Value key.Hostname
    ∷ rule.Value key.ServiceUrl ∷ rule.Service ∷ rule.Value key.Ttl ∷ rule.Seconds ∷ rule.Value key.HaltTtl
    ∷ rule.Table place.Etcd ∷ rule.Keys place.Etcd ∷ rule.Etcd ∷ rule.Endpoints ∷ rule.Value key.Endpoints ∷ rule.Value key.EtcdKey ∷ []

-- those of a node whose lease is granted by nobody
abbrev pub static_rules : List Rule
static_rules = node_rules ++ rule.Static ∷ []

-- those of a lease service: no key has to be there
abbrev pub service_rules : List Rule
service_rules = rule.Keys place.Root
    ∷ rule.Value key.Database
    ∷ rule.Value key.Log
    ∷ rule.Table place.Fuse ∷ rule.Keys place.Fuse ∷ rule.Value key.Listen ∷ rule.Value key.Dir ∷ rule.Value key.Program
    ∷ rule.Table place.Http ∷ rule.Keys place.Http ∷ rule.Value key.Addr
    ∷ rule.Table place.Proxy ∷ rule.Keys place.Proxy ∷ rule.Value key.ProxyAddr ∷ rule.Value key.Target
    ∷ rule.Table place.Data ∷ rule.Keys place.Data ∷ rule.Value key.Compress ∷ rule.Value key.RetentionFiles
    ∷ rule.Table place.Lease ∷ rule.Keys place.Lease ∷ rule.Value key.Type ∷ rule.Value key.Candidate ∷ rule.Value key.Bootstrap
    ∷ rule.Value key.AdvertiseUrl ∷ rule.Value key.Hostname ∷ rule.Value key.ServiceUrl ∷ rule.Value key.Ttl ∷ rule.Value key.HaltTtl
    ∷ rule.Table place.Etcd ∷ rule.Keys place.Etcd ∷ rule.Value key.Endpoints ∷ rule.Value key.EtcdKey ∷ []
