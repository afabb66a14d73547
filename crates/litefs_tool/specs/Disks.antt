-- The commands on a backup: which disks the maker gave and got back, and what each command comes to.
use Rattle.std.specs.Prelude.{◌≡◌, ℕ, Bool, List, [], ◌∷◌, ◌++◌, codes, Option, Result, Ok, Err}
use Rattle.backup_link.specs.BackingUp.{BacksUp}
use Rattle.backup_link.specs.LevelNames.{level_name}
use Rattle.backup_link.specs.Restoring.{HasRestored}
use Rattle.backup_link.specs.declared.unfetched.Unfetched.{Unfetched}
use Rattle.backup_link.specs.declared.unfetched.Unfetched.TheVariants as unfetched
use Rattle.http_exchange.specs.declared.told.Untold.TheVariants as untold
use Rattle.lf_base.specs.Dials.{Dial}
use Rattle.lf_base.specs.Position.{position_text}
use Rattle.lf_base.specs.declared.pos.Pos.{Pos}
use Rattle.lf_base.specs.declared.status.Status.{Status}
use Rattle.lf_base.specs.declared.status.Status.TheVariants as status
use Rattle.lf_disk.specs.History.{History, now}
use Rattle.lf_sqlite_pages.specs.Image.{DatabaseImage, image_bytes}
use Rattle.ltx_backup.specs.Causes.{AreHonest}
use Rattle.ltx_backup.specs.declared.fault.BackupFault.{BackupFault}
use Rattle.ltx_backup.specs.declared.fault.BackupFault.TheVariants as fault
use Rattle.node_objects.specs.Making.{DisksRose, NetworkRose, TakesBack, gave, refused}
use Rattle.node_mount.specs.Returns.{GivesBack}
use Rattle.node_objects.specs.declared.asked.Asked.{Asked}
use Rattle.node_objects.specs.declared.asked.Wanted.TheVariants as wants
use Rattle.node_objects.specs.declared.counts.Counts.{Counts}
use Rattle.node_objects.specs.declared.returned.Returned.{Returned}
use Rattle.node_objects.specs.declared.returned.Returned.TheVariants as returned
use Rattle.litefs_tool.specs.Output.{IsPrefix}
use Rattle.litefs_tool.specs.Streams.{Fails, Holds, Stream, Takes}
use Rattle.litefs_tool.specs.declared.folders.Folders.{Folders}
use Rattle.litefs_tool.specs.declared.command.Command.{Command}
use Rattle.litefs_tool.specs.declared.command.Command.TheVariants.{Backup, Restore}
use Rattle.litefs_tool.specs.declared.remote.Remote.{Remote}

-- ---- disks

-- the names of a database's three folders
abbrev pub folders_of : List ℕ → Folders
folders_of name = record { low = level_name name 0; middle = level_name name 1; high = level_name name 2 }

-- the disks of three levels
pub record Three (D : Type 0) : Type 0 where
  pub low : D
  pub middle : D
  pub high : D

-- a maker gave a disk for a name, which may be the next that it gives, and is then so
pub record Gave {M D : Type 0} (asked : M → Option (List Asked)) (may_give : M → D → Type 0) (name : List ℕ) (old new : M) (disk : D) : Type 0 where
  pub wanted : TakesBack (gave (wants.Disk name)) (asked old) (asked new)
  pub next : may_give old disk

-- it could not give one
abbrev pub Refused : {M : Type 0} → (M → Option (List Asked)) → List ℕ → M → M → Type 0
Refused asked name old new = TakesBack (refused (wants.Disk name)) (asked old) (asked new)

-- it gave the disks of three folders, one after another
pub record GaveThree {M D : Type 0} (asked : M → Option (List Asked)) (may_give : M → D → Type 0) (folders : Folders) (old new : M) (given : Three D) : Type 0 where
  pub second : M
  pub third : M
  pub low : Gave asked may_give folders.low old second given.low
  pub middle : Gave asked may_give folders.middle second third given.middle
  pub high : Gave asked may_give folders.high third new given.high

-- it gave fewer, and those that it gave came back
pub data GaveFewer {M D F H T S : Type 0} (asked : M → Option (List Asked)) (may_give : M → D → Type 0) (back : M → Option (List (Returned D F H T S)))
    (folders : Folders) (old new : M) : Type 0 where
  none : Refused asked folders.low old new → back new ≡ back old → GaveFewer asked may_give back folders old new
  one : (second : M) (low : D) → Gave asked may_give folders.low old second low → Refused asked folders.middle second new
      → GivesBack (returned.Disk low ∷ []) (back old) (back new) → GaveFewer asked may_give back folders old new
  two : (second third : M) (low middle : D) → Gave asked may_give folders.low old second low → Gave asked may_give folders.middle second third middle
      → Refused asked folders.high third new → GivesBack (returned.Disk low ∷ returned.Disk middle ∷ []) (back old) (back new)
      → GaveFewer asked may_give back folders old new

-- three disks as objects that came back
abbrev pub all_three : {D F H T S : Type 0} → Three D → List (Returned D F H T S)
all_three disks = returned.Disk disks.low ∷ returned.Disk disks.middle ∷ returned.Disk disks.high ∷ []

-- three disks are honest
abbrev pub AllHonest : {D : Type 0} → (D → Bool) → Three D → Type 0
AllHonest honest disks = AreHonest (honest disks.low) (honest disks.middle) (honest disks.high)

-- ---- restoring, and backing up

-- RESTORING by the disks of three folders: fewer were given, or all came back
pub data RestoredBack {M D F H T S : Type 0} (asked : M → Option (List Asked)) (may_give : M → D → Type 0) (honest : D → Bool) (history : D → History)
    (back : M → Option (List (Returned D F H T S))) (old new : M) (folders : Folders) (txid : ℕ) (end : Result DatabaseImage BackupFault) : Type 0 where
  few : GaveFewer asked may_give back folders old new → end ≡ Err fault.Disk → RestoredBack asked may_give honest history back old new folders txid end
  three : (mid : M) (given came : Three D) → GaveThree asked may_give folders old mid given → asked new ≡ asked mid → GivesBack (all_three came) (back old) (back new)
      → (AllHonest honest came → HasRestored (now (history given.low)) (now (history given.middle)) (now (history given.high))
      (now (history came.low)) (now (history came.middle)) (now (history came.high)) txid end)
      → RestoredBack asked may_give honest history back old new folders txid end

-- BACKING UP by them and a dialer, which goes back before them
pub data BackedUpBack {M D F H T S : Type 0} (asked : M → Option (List Asked)) (may_give : M → D → Type 0) (honest : D → Bool) (history : D → History)
    (dials : T → Option (List Dial)) (tell : Type 0) (back : M → Option (List (Returned D F H T S))) (old new : M) (address name : List ℕ)
    (end : Result Pos Unfetched) : Type 0 where
  fewer : GaveFewer asked may_give back (folders_of name) old new → end ≡ Err (unfetched.Backup fault.Disk)
      → BackedUpBack asked may_give honest history dials tell back old new address name end
  all : (mid : M) (given came : Three D) (before dialer : T) → GaveThree asked may_give (folders_of name) old mid given → asked new ≡ asked mid
      → GivesBack (returned.Dialer dialer ∷ all_three came) (back old) (back new)
      → BacksUp address name tell (dials before) (dials dialer) (AllHonest honest came)
      (history given.low) (history given.middle) (history given.high) (history came.low) (history came.middle) (history came.high) end
      → BackedUpBack asked may_give honest history dials tell back old new address name end

-- what came back to the maker: nothing, where nothing was asked of it; or by how restoring or backing up ended
pub record DiskBacks : Type 1 where
  pub nothing : Type 0
  pub restored : List ℕ → ℕ → Result DatabaseImage BackupFault → Type 0
  pub backed_up : Remote → Result Pos Unfetched → Type 0

-- the maker's count of its disks rose with a disk's fault alone, that of the network with a fault of the dialer's, and the others stayed
abbrev pub CountsRestoring : {T : Type 0} → Counts → Counts → Result T BackupFault → Type 0
CountsRestoring old new (Err fault.Disk) = DisksRose old new
CountsRestoring old new _ = new ≡ old

abbrev pub CountsBackingUp : {T : Type 0} → Counts → Counts → Result T Unfetched → Type 0
CountsBackingUp old new (Err (unfetched.Untold untold.Fault)) = NetworkRose old new
CountsBackingUp old new (Err (unfetched.Backup fault.Disk)) = DisksRose old new
CountsBackingUp old new _ = new ≡ old

-- ---- what the commands come to

-- the status of a backup's fault, and its name where the input is refused
abbrev pub status_of_backup : BackupFault → Status
status_of_backup fault.Disk = status.DiskFault
status_of_backup fault.Broken = status.DiskFault
status_of_backup fault.NoMemory = status.NoMemory
status_of_backup why = status.InputRefused

abbrev pub name_of_backup : BackupFault → List ℕ
name_of_backup (fault.NotNext have want) = codes "NotNext"
name_of_backup (fault.NoSuchTxid txid last) = codes "NoSuchTxid"
name_of_backup (fault.SumDiffers want got) = codes "SumDiffers"
name_of_backup (fault.Damaged level min max) = codes "Damaged"
name_of_backup why = []

-- the same of a backup that isn't level
abbrev pub status_of_unfetched : Unfetched → Status
status_of_unfetched (unfetched.Untold untold.Fault) = status.NetworkFault
status_of_unfetched (unfetched.Untold untold.Unfit) = status.InputRefused
status_of_unfetched (unfetched.Untold untold.TooLong) = status.Limit
status_of_unfetched (unfetched.Untold untold.Turns) = status.Limit
status_of_unfetched (unfetched.Untold untold.NoMemory) = status.NoMemory
status_of_unfetched unfetched.Reply = status.InputRefused
status_of_unfetched unfetched.Dropped = status.InputRefused
status_of_unfetched (unfetched.Backup why) = status_of_backup why

abbrev pub name_of_unfetched : Unfetched → List ℕ
name_of_unfetched (unfetched.Untold untold.Unfit) = codes "BadReply"
name_of_unfetched (unfetched.Untold why) = []
name_of_unfetched unfetched.Reply = codes "Reply"
name_of_unfetched unfetched.Dropped = codes "Dropped"
name_of_unfetched (unfetched.Backup why) = name_of_backup why

-- what is written by these bytes: all of them, or a front of them where the output failed
abbrev pub IsWritten : List ℕ → Status → List ℕ → Type 0
IsWritten bytes status.Ok written = written ≡ bytes
IsWritten bytes status.WriteFault written = IsPrefix written bytes
IsWritten bytes status.NoMemory written = written ≡ []
IsWritten bytes _ written = ⊥

abbrev pub RestoreOutcome : Result DatabaseImage BackupFault → Status → List ℕ → List ℕ → Type 0
RestoreOutcome (Ok image) ended written name = IsWritten (image_bytes image) ended written
RestoreOutcome (Err why) ended written name = (ended ≡ status_of_backup why) × (name ≡ name_of_backup why) × (written ≡ [])

abbrev pub BackupOutcome : Result Pos Unfetched → Status → List ℕ → List ℕ → Type 0
BackupOutcome (Ok end) ended written name = IsWritten (codes "backup " ++ position_text end ++ 10 ∷ []) ended written
BackupOutcome (Err why) ended written name = (ended ≡ status_of_unfetched why) × (name ≡ name_of_unfetched why) × (written ≡ [])

-- WHAT A COMMAND ON A BACKUP DID: memory ran out before it asked for a disk; or it restored, or backed up
pub data DiskCourse (backs : DiskBacks) (command : Command) (counts counts_after : Counts) (ended : Status) (written name : List ℕ) : Type 0 where
  no_memory : ended ≡ status.NoMemory → written ≡ [] → backs.nothing → counts_after ≡ counts → DiskCourse backs command counts counts_after ended written name
  restored : (database : List ℕ) (txid : ℕ) (end : Result DatabaseImage BackupFault) → command ≡ Restore database txid → backs.restored database txid end
      → CountsRestoring counts counts_after end → RestoreOutcome end ended written name → DiskCourse backs command counts counts_after ended written name
  backed_up : (remote : Remote) (end : Result Pos Unfetched) → command ≡ Backup remote → backs.backed_up remote end
      → CountsBackingUp counts counts_after end → BackupOutcome end ended written name → DiskCourse backs command counts counts_after ended written name

-- the output's count rose with WriteFault alone
abbrev pub OutputCause : Stream → Status → Type 0
OutputCause output status.WriteFault = Fails output
OutputCause output _ = Holds output

-- WHAT A COMMAND ON A BACKUP COMES TO
pub record DiskOutcome (backs : DiskBacks) (command : Command) (output : Stream) (counts counts_after : Counts) (ended : Status) (name : List ℕ) : Type 0 where
  pub written : List ℕ
  pub writes : Takes output written
  pub cause : OutputCause output ended
  pub went : DiskCourse backs command counts counts_after ended written name
