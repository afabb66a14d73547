-- What a maker of objects tells: how often it failed, what it was asked for, and what came back.
use Rattle.std.specs.Prelude.{◌≡◌, ℕ, ◌==◌, Bool, true, false, List, [], ◌∷◌, ◌++◌, Option, Some, None, Result, MatchResult, MatchBool, IsTrue}
use Rattle.lf_base.specs.Faults.{Rose, one_more}
use Rattle.lf_disk.specs.Folder.{Folder, Same}
use Rattle.lf_disk.specs.History.{History, now, may_leave}
use Rattle.node_objects.specs.declared.asked.Asked.{Asked}
use Rattle.node_objects.specs.declared.asked.Wanted.{Wanted}
use Rattle.node_objects.specs.declared.counts.Counts.{Counts}

abbrev pub no_faults : Counts
no_faults = record { disks = 0; network = 0; spawners = 0 }

-- with one fault more, each count up to the last number of a u64
abbrev pub disk_failed : Counts → Counts
disk_failed counts = record counts { disks = one_more counts.disks }

abbrev pub network_failed : Counts → Counts
network_failed counts = record counts { network = one_more counts.network }

abbrev pub spawner_failed : Counts → Counts
spawner_failed counts = record counts { spawners = one_more counts.spawners }

-- that of the disks alone rose
pub record DisksRose (old new : Counts) : Type 0 where
  pub rose : Rose old.disks new.disks
  pub network : new.network ≡ old.network
  pub spawners : new.spawners ≡ old.spawners

-- that of the network alone rose
pub record NetworkRose (old new : Counts) : Type 0 where
  pub rose : Rose old.network new.network
  pub disks : new.disks ≡ old.disks
  pub spawners : new.spawners ≡ old.spawners

-- that of the spawners alone rose
pub record SpawnersRose (old new : Counts) : Type 0 where
  pub rose : Rose old.spawners new.spawners
  pub disks : new.disks ≡ old.disks
  pub network : new.network ≡ old.network

-- a call that fails raises its count, and one that succeeds leaves all
abbrev pub FailsBy : {T E : Type 0} → (Counts → Counts → Type 0) → Counts → Counts → Result T E → Type 0
FailsBy Raises old new result = MatchResult result (λ _. new ≡ old) (λ _. Raises old new)

-- an object that comes back raises its count exactly where it has failed
abbrev pub TellsBy : (Counts → Counts → Type 0) → ℕ → Counts → Counts → Type 0
TellsBy Raises faults old new = MatchBool (faults == 0) (new ≡ old) (Raises old new)

-- an acceptor that has given no link, has not failed, and has not said that no more come
abbrev pub IsNew : (given faults : ℕ) → (ended : Bool) → Type 0
IsNew given faults ended = (given ≡ 0) × (faults ≡ 0) × (ended ≡ false)

-- of an honest disk a crash now leaves each file as it reads: nothing is pending
abbrev pub IsAtRest : Bool → History → Type 0
IsAtRest honest history = IsTrue honest → (c : Folder) → may_leave history c → Same (now history) c

-- one more in a list, where the list is told, as an object that came back
abbrev pub TakesBack : {B : Type 0} → B → Option (List B) → Option (List B) → Type 0
TakesBack object old None = Unit {0}
TakesBack object None (Some new) = ⊥
TakesBack object (Some old) (Some new) = new ≡ old ++ object ∷ []

-- this was asked for, and given
abbrev pub gave : Wanted → Asked
gave wanted = record { wanted = wanted; given = true }

-- this was asked for, and not given
abbrev pub refused : Wanted → Asked
refused wanted = record { wanted = wanted; given = false }

-- a maker was asked for this and nothing else, and gave it or not, where it tells what it was asked for
abbrev pub IsAskedFor : {T E : Type 0} → Wanted → (old new : Option (List Asked)) → Result T E → Type 0
IsAskedFor wanted old new result = MatchResult result (λ _. TakesBack (gave wanted) old new) (λ _. TakesBack (refused wanted) old new)
