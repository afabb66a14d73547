-- Endpoints and a key, as the place that they are.
use Rattle.std.proofs.Common.{◌≡◌, ℕ, List, Option, Some, None, IsSomeAnd, Result, Ok, Err, sym, subst}
use Rattle.toml.specs.Data.{Members}
use Rattle.node_settings.specs.declared.settings.EtcdPlace.{EtcdPlace}
use Rattle.node_settings.specs.declared.settings_fault.SettingsFault.{SettingsFault}
use Rattle.node_settings.specs.Answers.{Reads}
use Rattle.node_settings.specs.Configuration.{IsEtcd, IsEtcdTable, endpoints_of, etcd_key_of}
use Rattle.node_settings.proofs.Answering.{both}
use Rattle.node_settings.proofs.OneConfiguration.{one_table}

-- the place of these endpoints and this key
abbrev pub IsPlaceOf : Option (List (List ℕ)) → Option (List ℕ) → Option EtcdPlace → Type 0
IsPlaceOf endpoints key etcd = (endpoints_of etcd ≡ endpoints) × (etcd_key_of etcd ≡ key)

-- the table says them
abbrev pub SaysEtcd : Option Members → Option (List (List ℕ)) → Option (List ℕ) → Type 0
SaysEtcd o endpoints key = IsSomeAnd o (λ t. IsEtcdTable t endpoints key)

-- a table that says them says their place, and no other
pub placed : (o : Option Members) (endpoints : Option (List (List ℕ))) (key : Option (List ℕ)) (r : Result (Option EtcdPlace) SettingsFault) → SaysEtcd o endpoints key
    → Reads (IsPlaceOf endpoints key) r → Reads (λ etcd. IsSomeAnd o (λ t. IsEtcd t etcd)) r
placed o endpoints key r says h =
    both (IsPlaceOf endpoints key) (λ etcd. SaysEtcd o (endpoints_of etcd) (etcd_key_of etcd)) r
    (λ (etcd : Option EtcdPlace) is. subst (λ (n : Option (List (List ℕ))). SaysEtcd o n (etcd_key_of etcd)) (sym is.0) (subst (λ (k : Option (List ℕ)). SaysEtcd o endpoints k) (sym is.1) says))
    (λ (etcd : Option EtcdPlace) is. one_table o (endpoints_of etcd) endpoints (etcd_key_of etcd) key is says) h
