-- Who grants a node its lease.
use Rattle.std.specs.Prelude.{◌≡◌, ℕ, ◌+◌, ◌/◌, ◌%◌, min, List, ◌++◌, codes, map, Option, Some, None, Result}
use Rattle.etcd_lease.specs.declared.etcd_service.EtcdService.{EtcdService}
use Rattle.etcd_wire.specs.Calls.{coded}
use Rattle.lease_core.specs.declared.lease_ask.LeaseAsk.{LeaseAsk}
use Rattle.lease_link.specs.declared.learned.Learned.{Learned}
use Rattle.lease_link.specs.declared.own_service.OwnService.{OwnService}
use Rattle.lease_link.specs.declared.unlearned.Unlearned.{Unlearned}
use Rattle.lease_link.specs.Asking.{DialStand}
use Rattle.node_settings.specs.declared.settings.EtcdPlace.{EtcdPlace}
use Rattle.node_settings.specs.declared.settings.LeaseSettings.{LeaseSettings}
use Rattle.node_settings.specs.declared.settings.LeaseType.{LeaseType}
use Rattle.node_settings.specs.declared.settings.LeaseType.TheVariants as lease_type
use Rattle.node_settings.specs.declared.settings.Settings.{Settings}
use Rattle.node_mount.specs.declared.lease_source.LeaseSource.{LeaseSource}
use Rattle.node_mount.specs.declared.lease_source.LeaseSource.TheVariants as source
use Rattle.node_mount.specs.declared.to_notes.ToNotes.{ToNotes}

-- one that was asked, so stood its dialer before and so after, so it was heard, and so it is since (lease_link's `serves`)
abbrev pub Serves : Type 0 → Type 1
Serves S = S → LeaseAsk → Type 0 → DialStand → DialStand → Result Learned Unlearned → S → Type 0

-- WHAT IS ASKED OF A SOURCE is asked of what it has, and it has the same kind since
abbrev pub by_source : {C : Type 0} → Serves OwnService → Serves (EtcdService C ToNotes)
    → LeaseSource C → LeaseAsk → Type 0 → DialStand → DialStand → Result Learned Unlearned → LeaseSource C → Type 0
by_source own etcd (source.Own old) asked tell before after heard (source.Own now) = own old asked tell before after heard now
by_source own etcd (source.Etcd old) asked tell before after heard (source.Etcd now) = etcd old asked tell before after heard now
by_source own etcd old asked tell before after heard now = ⊥

-- ---- by the settings

-- a URL at an address
abbrev pub url_at : List ℕ → List ℕ
url_at address = codes "http://" ++ address

-- the key that stands for the lease: the one that is named, or else one with the name of the database
abbrev pub key_of : (database : List ℕ) → Option (List ℕ) → List ℕ
key_of database None = codes "litefs/" ++ database ++ codes "/primary"
key_of database (Some key) = key

-- milliseconds in whole seconds, rounded up
abbrev pub seconds_of : ℕ → ℕ
seconds_of millis = millis / 1000 + min 1 (millis % 1000)

-- the etcd cluster at a place: each of its endpoints, in order, the key in base64, a lease's time, and no key that is held
pub record IsEtcd {C : Type 0} (settings : Settings) (place : EtcdPlace) (etcd : EtcdService C ToNotes) : Type 0 where
  pub endpoints : place.endpoints ≡ map url_at etcd.endpoints.items
  pub key : etcd.settings.key ≡ coded (key_of settings.database place.key)
  pub ttl : etcd.settings.ttl ≡ seconds_of settings.lease.ttl
  pub held : etcd.held ≡ None

-- nobody is asked where the lease is static, or where nothing says whom
abbrev pub NamesNone : LeaseType → LeaseSettings → Type 0
NamesNone lease_type.Static lease = Unit {0}
NamesNone lease_type.Service lease = lease.service_url ≡ None
NamesNone lease_type.Etcd lease = lease.etcd ≡ None

-- WHO IS ASKED, as `lease.type` says: a service at its URL, or an etcd cluster
abbrev pub IsSource : {C : Type 0} → Settings → Option (LeaseSource C) → Type 0
IsSource settings None = NamesNone settings.lease.lease_type settings.lease
IsSource settings (Some (source.Own own)) = (settings.lease.lease_type ≡ lease_type.Service) × (settings.lease.service_url ≡ Some (url_at own.address))
IsSource settings (Some (source.Etcd etcd)) =
    (place : EtcdPlace) × (settings.lease.lease_type ≡ lease_type.Etcd) × (settings.lease.etcd ≡ Some place) × IsEtcd settings place etcd
