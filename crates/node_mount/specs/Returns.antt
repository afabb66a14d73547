-- What comes back to the maker of a node that was started.
use Rattle.std.specs.Prelude.{◌≡◌, ◌⊎◌, ℕ, ◌^◌, Bool, true, List, [], ◌∷◌, ◌++◌, Option, Some, None, Result, Ok, Err}
use Rattle.node_mount.specs.declared.mount_fault.MountFault.{MountFault}
use Rattle.node_mount.specs.declared.mount_fault.MountFault.TheVariants as fault
use Rattle.node_objects.specs.declared.returned.Returned.{Returned}
use Rattle.node_objects.specs.declared.returned.Returned.TheVariants as returned

-- where what came back is told, it is these objects more
abbrev pub GivesBack : {B : Type 0} → List B → Option (List B) → Option (List B) → Type 0
GivesBack objects old None = Unit {0}
GivesBack objects None (Some new) = ⊥
GivesBack objects (Some old) (Some new) = new ≡ old ++ objects

-- the objects by which it served: the file acceptor, of which P holds, the dialer and the spawner
abbrev pub AllBack : {D F H T S : Type 0} → (F → Type 0) → (old new : Option (List (Returned D F H T S))) → Type 0
AllBack {D} {F} {H} {T} {S} P old new =
    (files : F) × (dialer : T) × (spawner : S) × P files × GivesBack (returned.Files files ∷ returned.Dialer dialer ∷ returned.Spawner spawner ∷ []) old new

-- the disk alone
abbrev pub DiskBack : {D F H T S : Type 0} → (old new : Option (List (Returned D F H T S))) → Type 0
DiskBack {D} old new = (disk : D) × GivesBack (returned.Disk disk ∷ []) old new

-- the file acceptor alone
abbrev pub FilesBack : {D F H T S : Type 0} → (old new : Option (List (Returned D F H T S))) → Type 0
FilesBack {D} {F} old new = (files : F) × GivesBack (returned.Files files ∷ []) old new

-- the acceptor of HTTP links alone
abbrev pub HttpBack : {D F H T S : Type 0} → (old new : Option (List (Returned D F H T S))) → Type 0
HttpBack {D} {F} {H} old new = (http : H) × GivesBack (returned.Http http ∷ []) old new

-- both acceptors that were made before a proxy's could not be
abbrev pub BothBack : {D F H T S : Type 0} → (old new : Option (List (Returned D F H T S))) → Type 0
BothBack {D} {F} {H} old new = (files : F) × (http : H) × GivesBack (returned.Http http ∷ returned.Files files ∷ []) old new

-- WHAT CAME BACK, by how it ended: after Ok an acceptor that has said that no more links come, with Limit one that gave 2^40 links; with Disk
-- nothing, the disk, or, where the store broke, the same as after Ok
abbrev pub CameBack : {D F H T S R : Type 0} → (F → Bool) → (F → ℕ) → (old new : Option (List (Returned D F H T S))) → Result R MountFault → Type 0
CameBack ended given old new (Ok _) = AllBack (λ files. ended files ≡ true) old new
CameBack ended given old new (Err fault.Limit) = AllBack (λ files. given files ≡ 2 ^ 40) old new
CameBack ended given old new (Err fault.NoThread) = AllBack (λ _. Unit {0}) old new
CameBack ended given old new (Err fault.Network) = (new ≡ old) ⊎ (FilesBack old new ⊎ (BothBack old new ⊎ AllBack (λ _. Unit {0}) old new))
CameBack ended given old new (Err fault.Disk) = (new ≡ old) ⊎ (DiskBack old new ⊎ AllBack (λ files. ended files ≡ true) old new)
CameBack ended given old new (Err fault.Damaged) = DiskBack old new
CameBack ended given old new (Err fault.Read) = new ≡ old
CameBack ended given old new (Err fault.Config) = new ≡ old
CameBack ended given old new (Err fault.NoMemory) = Unit {0}
