-- What the keys of a TOML table (TOML 1.1) say: the rules of their values.
use Rattle.std.specs.Prelude.{◌≡◌, ℕ, ◌≤◌, ◌<◌, pos, List, [], ◌∷◌, length, Bool, true, false, ◌&&◌, IsTrue, Option, Some, None, MatchOption, IsSome, IsSomeAnd, String, codes}
use Rattle.std.specs.List.{list_any}
use Rattle.std.specs.Str.{bytes_eq}
use Rattle.std.specs.Borrow.{Bor}
use Rattle.std.specs.BTreeMap.{BTreeMap}
use Rattle.std.specs.declared.alloc.Global.{Global}
use Rattle.lf_base.specs.Name.{IsName}
use Rattle.toml.specs.Data.{Data, string, integer, boolean, array, table, Items, no_items, item, Members, no_members, member, get_member}
use Rattle.toml.specs.declared.value.Value.{Value}
use Rattle.toml.specs.View.{table_view}
use Rattle.node_settings.specs.declared.settings.EtcdPlace.{EtcdPlace}
use Rattle.node_settings.specs.declared.settings.LeaseType.{LeaseType}
use Rattle.node_settings.specs.declared.settings.LeaseType.TheVariants as lease
use Rattle.node_settings.specs.Address.{IsAddress, IsTarget, IsUrl}

-- the key has a value, and by its rule it is this
abbrev pub Holds : {A : Type 0} → List ℕ → (Data → A → Type 0) → Members → A → Type 0
Holds key Rule members a = IsSomeAnd (get_member key members) (λ d. Rule d a)

-- the same, or the key is missing and it is the default
abbrev pub HoldsOr : {A : Type 0} → List ℕ → (Data → A → Type 0) → A → Members → A → Type 0
HoldsOr key Rule default members a = MatchOption (get_member key members) (a ≡ default) (λ d. Rule d a)

-- ---- the rules

abbrev pub IsText : Data → List ℕ → Type 0
IsText d text = d ≡ string text

-- a text that is not empty
abbrev pub IsPath : Data → List ℕ → Type 0
IsPath d path = (d ≡ string path) × (0 < length path)

abbrev pub IsNameText : Data → List ℕ → Type 0
IsNameText d name = (d ≡ string name) × IsName name

abbrev pub IsAddressText : Data → List ℕ → Type 0
IsAddressText d address = (d ≡ string address) × IsAddress address

abbrev pub IsTargetText : Data → List ℕ → Type 0
IsTargetText d address = (d ≡ string address) × IsTarget address

abbrev pub IsUrlText : Data → List ℕ → Type 0
IsUrlText d url = (d ≡ string url) × IsUrl url

-- each of these is the text of a URL
abbrev pub AreUrls : Items → List (List ℕ) → Type 0
AreUrls no_items [] = Unit {0}
AreUrls no_items (url ∷ urls) = ⊥
AreUrls (item d items) [] = ⊥
AreUrls (item d items) (url ∷ urls) = IsUrlText d url × AreUrls items urls

-- an array of URLs: one at least, and at most 16
pub record IsUrls (d : Data) (urls : List (List ℕ)) : Type 0 where
  pub items : Items
  pub is_array : d ≡ array items
  pub each : AreUrls items urls
  pub some : 0 < length urls
  pub few : length urls ≤ 16

-- a text of 1 to 1,000 bytes
abbrev pub IsKeyText : Data → List ℕ → Type 0
IsKeyText d key = (d ≡ string key) × (0 < length key) × (length key ≤ 1000)

-- a value that may be missing stands here, and has this rule
abbrev pub IsSomeOf : {A : Type 0} → (Data → A → Type 0) → Data → Option A → Type 0
IsSomeOf Rule d found = IsSomeAnd found (λ a. Rule d a)

-- true or false
abbrev pub IsFlag : Data → Bool → Type 0
IsFlag d flag = d ≡ boolean flag

-- false alone
abbrev pub IsOff : Data → Bool → Type 0
IsOff d flag = (d ≡ boolean false) × (flag ≡ false)

-- "on" is true, and "off" is false
abbrev pub IsSwitch : Data → Bool → Type 0
IsSwitch d true = d ≡ string (codes "on")
IsSwitch d false = d ≡ string (codes "off")

-- an integer from the least to the most
abbrev pub IsNumber : ℕ → ℕ → Data → ℕ → Type 0
IsNumber least most d n = (d ≡ integer (pos n)) × (least ≤ n) × (n ≤ most)

-- the types of leases
abbrev pub IsLeaseType : Data → LeaseType → Type 0
IsLeaseType d lease.Static = d ≡ string (codes "static")
IsLeaseType d lease.Service = d ≡ string (codes "service")
IsLeaseType d lease.Etcd = d ≡ string (codes "etcd")

-- a lease that a service keeps has the service's url
abbrev pub HasService : LeaseType → Option (List ℕ) → Type 0
HasService lease.Static url = Unit {0}
HasService lease.Service url = IsSome url
HasService lease.Etcd url = Unit {0}

-- a lease that etcd grants has a place where etcd is
abbrev pub HasEtcd : LeaseType → Option EtcdPlace → Type 0
HasEtcd lease.Static etcd = Unit {0}
HasEtcd lease.Service etcd = Unit {0}
HasEtcd lease.Etcd etcd = IsSome etcd

-- a lease that etcd grants lasts two seconds at least, since etcd counts whole seconds, and a belief ends one before
abbrev pub HasTtl : LeaseType → ℕ → Type 0
HasTtl lease.Static ttl = Unit {0}
HasTtl lease.Service ttl = Unit {0}
HasTtl lease.Etcd ttl = 2000 ≤ ttl

-- the members of a table under a key: none where the key is missing, and nothing where its value is no table
abbrev pub section_in : Option Data → Option Members
section_in None = Some no_members
section_in (Some (table members)) = Some members
section_in (Some _) = None

abbrev pub section : List ℕ → Members → Option Members
section key members = section_in (get_member key members)

-- the key is one of these
abbrev pub is_among : List (List ℕ) → List ℕ → Bool
is_among keys key = list_any (λ k. bytes_eq k key) keys

-- each key is one of these
abbrev pub has_only : List (List ℕ) → Members → Bool
has_only keys no_members = true
has_only keys (member key d members) = is_among keys key && has_only keys members

abbrev pub HasOnly : List (List ℕ) → Members → Type 0
HasOnly keys members = IsTrue (has_only keys members)

-- the members of a table that may be missing
abbrev pub members_at : Option (Bor (BTreeMap (String Global) Value)) → Members
members_at None = no_members
members_at (Some t) = table_view t.now
