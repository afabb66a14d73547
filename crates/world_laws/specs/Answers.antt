-- What an answer of a node says of its step: which answers an ask has, and the cause of each refusal.
--
-- A follower is told that it is level, gets one file, or is told that the database is gone. The one file is of the log,
-- does what several files of it do that stand one behind another, or is the snapshot. What the follower says of its last
-- file may make its position count as unknown. A frame is applied, held
-- back by a lock that somebody holds, or refused. A commit of a halted node is sent and kept, and its reply brings the
-- node to where the file leads, or changes nothing. Of other asks no answer says anything, but that a refusal and Held
-- leave every call undone.
use Rattle.std.specs.Prelude.{◌≡◌, ◌≢◌, ◌⊎◌, ◌==◌, ◌≤◌, Bool, true, false, List, [], ◌∷◌, ◌++◌, length, Contains, Option, None, Some, IsSome, if◌then◌else◌}
use Rattle.lf_base.specs.declared.pos.Pos.{Pos}
use Rattle.lf_base.specs.Faults.{Rose}
use Rattle.lf_sqlite_pages.specs.LockPage.{IsWithinLimit}
use Rattle.lf_sqlite_pages.specs.Apply.{Fits}
use Rattle.ltx_codec.specs.declared.file.Ltx.{Ltx}
use Rattle.ltx_codec.specs.Format.{IsFile}
use Rattle.ltx_codec.specs.Positions.{after, before, nowhere, sum_after}
use Rattle.lf_sqlite_pages.specs.Writes.{data_writes}
use Rattle.ltx_compact.specs.Compaction.{Compacts}
use Rattle.ltx_compact.specs.Joining.{AllJoin}
use Rattle.world_laws.specs.declared.last_file.LastFile.{LastFile}
use Rattle.world_laws.specs.declared.last_file.LastFile.TheVariants as last_file
use Rattle.world_laws.specs.Lineage.{whole_file}
use Rattle.world_laws.specs.Node.{NodeState, Role, Primary, Item, File, Frame, Level, Ask, Hello, Drop, Forward, Answer, Done, Applied, Forwarded, Send, Held, Gone, Halted}
use Rattle.world_laws.specs.Node.{Refusal, Refused, BadFile, Broken, Disk, Limit, NoMemory, NotNext, NotPrimary, NotReplica, PageSize, SumDiffers}
use Rattle.world_laws.specs.Served.{HoldsBack}
use Rattle.world_laws.specs.Store.{Apply, Commit, DropAll, Failure, Install, StoreCall, StoreState, at}

-- the file from the beginning to a store's position that writes every data page
unfoldable pub snapshot_of : StoreState → Ltx
snapshot_of store = record {
  header = record {
    page_size = store.image.page_size;
    commit = length store.image.pages;
    min = 1;
    max = (at store).txid;
    stamp = 0;
    pre = 0;
    wal_offset = 0;
    wal_size = 0;
    wal_salt1 = 0;
    wal_salt2 = 0;
    node = 0;
  };
  change = record {
    page_size = store.image.page_size;
    commit = length store.image.pages;
    pages = data_writes store.image;
  };
  post = (at store).sum;
}

-- a store that holds nothing, and is not marked as dropped
abbrev pub IsBlank : StoreState → Type 0
IsBlank store = (store.log ≡ []) × (store.dropped ≡ false)

-- a follower's position counts by what it says of its last file: it doesn't say that it is unknown, or the log is empty
abbrev pub IsRelied : StoreState → Option LastFile → Type 0
IsRelied store (Some last_file.Unknown) = store.log ≡ []
IsRelied store last = Unit {0}

-- its position may count as unknown: it says so, or the log has a file of just these transactions, whose checksum may be another
abbrev pub MayDoubt : StoreState → Option LastFile → Type 0
MayDoubt store None = ⊥
MayDoubt store (Some last_file.Unknown) = Unit {0}
MayDoubt store (Some (last_file.File min max sum)) = (file : Ltx) × Contains store.log file × (file.header.min ≡ min) × (file.header.max ≡ max)

-- a store knows a position that doesn't count as unknown: its own, and one from which a file of its log leads on; and any where it
-- is blank
abbrev pub Knows : StoreState → Pos → Option LastFile → Type 0
Knows store position last =
    (IsRelied store last × ((position ≡ at store) ⊎ ((file : Ltx) × Contains store.log file × (before file ≡ position)))) ⊎ IsBlank store

-- files that stand one behind another in a log
pub record IsRunOf (log files : List Ltx) : Type 0 where
  pub front : List Ltx
  pub behind : List Ltx
  pub is : log ≡ front ++ files ++ behind

-- the file that a store owes a follower at that position: the one of its log that leads on, or one that stands for this file and
-- some behind it; or the snapshot where the log does not know the position, and where the last file may be another than the log's
pub data Owes : StoreState → Pos → Option LastFile → Ltx → Type 0 where
  by_file : {store : StoreState} {position : Pos} {last : Option LastFile} {file : Ltx} → Contains store.log file → before file ≡ position → IsRelied store last
      → Owes store position last file
  by_run : {store : StoreState} {position : Pos} {last : Option LastFile} {files : List Ltx} {file : Ltx} → IsRunOf store.log files → AllJoin files
      → Compacts files file → before file ≡ position → IsRelied store last → Owes store position last file
  by_snapshot : {store : StoreState} {position : Pos} {last : Option LastFile} → 1 ≤ (at store).txid → (Knows store position last → ⊥)
      → Owes store position last (snapshot_of store)
  by_doubt : {store : StoreState} {position : Pos} {last : Option LastFile} → 1 ≤ (at store).txid → MayDoubt store last
      → Owes store position last (snapshot_of store)

-- a follower that is level, the file that is owed, word of the drop, or the cause why there is none
abbrev pub AnswersHello : NodeState → NodeState → Role → Pos → Option LastFile → Answer → Type 0
AnswersHello old new role position last (Level here) = (role ≡ Primary) × (here ≡ at old.store) × ((IsRelied old.store last × (position ≡ here)) ⊎ IsBlank old.store)
AnswersHello old new role position last (Item file) = (role ≡ Primary) × Owes old.store position last file × IsFile file
AnswersHello old new role position last Gone = (role ≡ Primary) × (old.store.dropped ≡ true) × (position ≢ at old.store)
AnswersHello old new role position last (Refused NotPrimary) = role ≢ Primary
AnswersHello old new role position last (Refused Disk) = Rose old.faults new.faults
AnswersHello old new role position last (Refused Broken) = IsSome old.failed
AnswersHello old new role position last (Refused NoMemory) = Unit {0}
AnswersHello old new role position last other = ⊥

-- a file made complete over a store: over the pages of its image
abbrev pub completed_over : StoreState → Ltx → Ltx
completed_over store file = whole_file (length store.image.pages) file

-- the call that an LTX frame asks for
abbrev pub call_of : StoreState → Ltx → StoreCall
call_of store file = if file.header.min == 1 then Install file else Apply (completed_over store file)

-- why an LTX frame is refused; of a snapshot it is of no account what the store holds
abbrev pub RefusesFrame : NodeState → Role → Ltx → Option Failure → Refusal → Type 0
RefusesFrame old role file failed NotReplica = role ≡ Primary
RefusesFrame old role file failed BadFile = IsFile file → ⊥
RefusesFrame old role file failed NotNext = (file.header.min ≢ 1) × (before file ≢ at old.store)
RefusesFrame old role file failed PageSize = (file.header.min ≢ 1) × (Fits old.store.image file.change → ⊥)
RefusesFrame old role file failed SumDiffers = (file.header.min ≢ 1) × (sum_after old.store.image file ≢ file.post)
RefusesFrame old role file failed Limit = IsWithinLimit file.header.page_size file.header.commit → ⊥
RefusesFrame old role file failed Disk = IsSome failed
RefusesFrame old role file failed Broken = IsSome old.failed
RefusesFrame old role file failed NoMemory = Unit {0}
RefusesFrame old role file failed why = ⊥

-- a file leads to just where a store stands, and is no snapshot
abbrev pub LeadsHere : StoreState → Ltx → Type 0
LeadsHere store file = (file.header.min ≢ 1) × (after file ≡ at store)

-- an LTX frame is applied or installed, held back by a lock that somebody holds, or refused; and one that leads to just where the node
-- stands is done with, and nothing is done
abbrev pub AnswersFrame : NodeState → Role → Ltx → List StoreCall → Option Failure → Answer → NodeState → Type 0
AnswersFrame old role file did failed (Applied position) new = (did ≡ call_of old.store file ∷ []) × (failed ≡ None) × (position ≡ at new.store)
AnswersFrame old role file did failed (Held lock) new = HoldsBack old.served old.store.image lock
AnswersFrame old role file did failed (Refused why) new = RefusesFrame old role file failed why
AnswersFrame old role file did failed Done new = (role ≢ Primary) × LeadsHere old.store file × (did ≡ []) × (failed ≡ None)
AnswersFrame old role file did failed other new = ⊥

-- why a Drop frame is refused. It takes no memory
abbrev pub RefusesDrop : NodeState → Role → Option Failure → Refusal → Type 0
RefusesDrop old role failed NotReplica = role ≡ Primary
RefusesDrop old role failed Disk = IsSome failed
RefusesDrop old role failed Broken = IsSome old.failed
RefusesDrop old role failed why = ⊥

-- a Drop frame drops the database where there is one, and else changes nothing
abbrev pub DropsWhatIsThere : StoreState → List StoreCall → Type 0
DropsWhatIsThere store did = ((1 ≤ (at store).txid) × (did ≡ DropAll ∷ [])) ⊎ (((at store).txid ≡ 0) × (did ≡ []))

abbrev pub AnswersDrop : NodeState → Role → List StoreCall → Option Failure → Answer → NodeState → Type 0
AnswersDrop old role did failed (Applied position) new = DropsWhatIsThere old.store did × (failed ≡ None) × (position ≡ nowhere)
AnswersDrop old role did failed (Held lock) new = HoldsBack old.served old.store.image lock
AnswersDrop old role did failed (Refused why) new = RefusesDrop old role failed why
AnswersDrop old role did failed other new = ⊥

-- the database file and its WAL are as they were
abbrev pub ServesTheSame : NodeState → NodeState → Type 0
ServesTheSame old new = (new.served.file ≡ old.served.file) × (new.served.frames ≡ old.served.frames)

-- a commit that is sent is kept until its reply comes, and nothing else is changed
pub record IsSent (old new : NodeState) (role : Role) (file : Ltx) (did : List StoreCall) (failed : Option Failure) : Type 0 where
  pub halted : role ≡ Halted
  pub waits : new.waits ≡ Some file
  pub undone : (did ≡ []) × (failed ≡ None)
  pub served : ServesTheSame old new

-- an ok brings the node to where the file leads; any other reply leaves the files, unless a call failed, or the moment
-- of the step ended the write permit and the uncommitted pages went
abbrev pub AnswersForwarded : NodeState → Role → Bool → Option Failure → Answer → NodeState → Type 0
AnswersForwarded old role true failed Done new = (file : Ltx) × (old.waits ≡ Some file) × (at new.store ≡ after file)
AnswersForwarded old role ok failed (Refused why) new = failed ≡ None → role ≡ old.role → ServesTheSame old new
AnswersForwarded old role ok failed other new = ⊥

-- what an answer says of the step, by the ask
abbrev pub Answers : NodeState → Role → Ask → List StoreCall → Option Failure → Answer → NodeState → Type 0
Answers old role (Frame file) did failed answer new = AnswersFrame old role file did failed answer new
Answers old role Drop did failed answer new = AnswersDrop old role did failed answer new
Answers old role (Hello position last) did failed answer new = AnswersHello old new role position last answer
Answers old role (Forwarded ok) did failed answer new = AnswersForwarded old role ok failed answer new
Answers old role (Forward file) did failed (Applied position) new = (did ≡ Commit (completed_over old.store file) ∷ []) × (failed ≡ None)
Answers old role File did failed (Send file) new = IsSent old new role file did failed
Answers old role ask did failed answer new = Unit {0}

-- an answer that says no has done no call
abbrev pub LeavesUndone : Answer → List StoreCall → Type 0
LeavesUndone (Held lock) did = did ≡ []
LeavesUndone (Refused why) did = did ≡ []
LeavesUndone other did = Unit {0}
