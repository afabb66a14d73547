-- HELLO: what is owed to a follower at a position, which says something of its last file or nothing. Files of the store are read
-- at most.
use Rattle.std.specs.Prelude.{◌≡◌, ◌≢◌, ◌⊎◌, ℕ, ◌≤◌, Bool, true, IsTrue, List, [], get_or, Option, Some, None}
use Rattle.lf_base.specs.Faults.{Rose}
use Rattle.lf_base.specs.declared.pos.Pos.{Pos}
use Rattle.lf_disk.specs.History.{History, now}
use Rattle.ltx_codec.specs.Format.{file_encoding, no_meaning}
use Rattle.file_view.specs.declared.view.Role.TheVariants as role
use Rattle.txn_log.specs.declared.answering.Answer.{Answer as OwedAnswer}
use Rattle.txn_log.specs.declared.answering.Answer.TheVariants as owed
use Rattle.txn_log.specs.declared.entry.Entry.{Entry}
use Rattle.txn_log.specs.declared.fault.StoreFault.TheVariants as fault
use Rattle.txn_log.specs.Answering.{AnswersBy, IsGone, IsLevel}
use Rattle.txn_log.specs.Giving.{IsEncodingAt}
use Rattle.txn_log.specs.LastFile.{Doubts, HasFile}
use Rattle.world_laws.specs.Answers.{snapshot_of}
use Rattle.world_laws.specs.declared.last_file.LastFile.{LastFile}
use Rattle.world_laws.specs.declared.last_file.LastFile.TheVariants as last_file
use Rattle.node_core.specs.declared.answer.Answer.{Answer}
use Rattle.node_core.specs.declared.answer.Answer.TheVariants as answers
use Rattle.node_core.specs.declared.refusal.Refusal.{Refusal}
use Rattle.node_core.specs.declared.refusal.Refusal.TheVariants as refusals
use Rattle.node_core.specs.Nodes.{NodeParts, role_in}
use Rattle.node_core.specs.Running.{IsRun}
use Rattle.node_core.specs.Stores.{StoreFields, failed, position, state}

-- files of the store were read, and nothing else was done: only its disk's count of faults may have risen
pub record IsLookedInto (start : History) (old : StoreFields) (end : History) (new : StoreFields) : Type 0 where
  pub same : new ≡ record old { faults = new.faults }
  pub faults : old.faults ≤ new.faults
  pub state : IsTrue old.honest → state end new ≡ state start old
  pub failed : IsTrue old.honest → failed end new ≡ failed start old

-- what is owed: by whether the position counts as unknown, which what is said of the last file decides
pub record IsOwed (start : History) (store : StoreFields) (from : Pos) (last : Option LastFile) (answer : OwedAnswer) : Type 0 where
  pub doubted : Bool
  pub doubts : Doubts store.honest (now start) store.entries last doubted
  pub answers : AnswersBy doubted store.entries store.dropped from answer

-- the first file of the log that leads on from the position, and where it leads to
pub record IsFirstFile (start : History) (store : StoreFields) (from : Pos) (last : Option LastFile) (ltx : List ℕ) (to : Pos) : Type 0 where
  pub first : ℕ
  pub owed : IsOwed start store from last (owed.Files first)
  pub leads : (d : Entry) → to ≡ (get_or store.entries first d).post
  pub encoding : IsTrue store.honest → IsEncodingAt (state start store).log first ltx

-- a run of files of the log, from the first that leads on from the position
pub record IsRunOfFiles (start : History) (store : StoreFields) (from : Pos) (last : Option LastFile) (ltx : List ℕ) (to : Pos) : Type 0 where
  pub first : ℕ
  pub owed : IsOwed start store from last (owed.Files first)
  pub run : IsRun store.entries first store.honest (state start store).log ltx to

-- the snapshot of a database that was written, where the log does not know the position, or it counts as unknown
pub record IsWholeDatabase (start : History) (store : StoreFields) (from : Pos) (last : Option LastFile) (ltx : List ℕ) (to : Pos) : Type 0 where
  pub owed : IsOwed start store from last owed.Snapshot
  pub written : 1 ≤ (position store).txid
  pub leads : to ≡ position store
  pub encoding : IsTrue store.honest → ltx ≡ file_encoding (snapshot_of (state start store)) no_meaning

-- a file is owed: the database was not dropped, and the follower is not level
abbrev pub OwesFile : StoreFields → Pos → Type 0
OwesFile store from = (IsGone store.dropped from → ⊥) × (IsLevel store.entries from → ⊥)

-- a file of the log is wanted: to be given, or to be compared with the follower's last one; of a follower that says that its position
-- is unknown where there is a database at all
abbrev pub WantsFile : StoreFields → Pos → Option LastFile → Type 0
WantsFile store from (Some (last_file.File min max sum)) = OwesFile store from ⊎ HasFile store.entries min max
WantsFile store from (Some last_file.Unknown) = (IsGone store.dropped from → ⊥) × (store.entries ≢ [])
WantsFile store from None = OwesFile store from

-- why it is refused: the node is a replica; or a file is wanted that the disk didn't give, a broken store doesn't give, or memory is
-- wanting for
abbrev pub RefusesHello : NodeParts → Pos → Option LastFile → Refusal → StoreFields → Type 0
RefusesHello old from last refusals.NotPrimary new = role_in old ≢ role.Primary
RefusesHello old from last (refusals.Store fault.Disk) new = (role_in old ≡ role.Primary) × WantsFile old.store from last × Rose old.store.faults new.faults
RefusesHello old from last (refusals.Store fault.Broken) new = (role_in old ≡ role.Primary) × WantsFile old.store from last × (old.store.broken ≡ true)
RefusesHello old from last refusals.NoMemory new = (role_in old ≡ role.Primary) × WantsFile old.store from last
RefusesHello old from last why new = ⊥

-- what it answers
abbrev pub TellsFollower : History → NodeParts → Pos → Option LastFile → Answer → StoreFields → Type 0
TellsFollower start old from last (answers.Level here) new =
    (role_in old ≡ role.Primary) × (here ≡ position old.store) × IsOwed start old.store from last owed.Level
TellsFollower start old from last (answers.Item ltx to) new =
    (role_in old ≡ role.Primary)
    × (IsFirstFile start old.store from last ltx to ⊎ IsRunOfFiles start old.store from last ltx to ⊎ IsWholeDatabase start old.store from last ltx to)
TellsFollower start old from last answers.Gone new = (role_in old ≡ role.Primary) × IsOwed start old.store from last owed.Gone
TellsFollower start old from last (answers.Refused why) new = RefusesHello old from last why new
TellsFollower start old from last answer new = ⊥

-- the node is as before
pub record AnswersHello (start : History) (old : NodeParts) (from : Pos) (last : Option LastFile) (answer : Answer) (end : History) (new : NodeParts) : Type 0 where
  pub tells : TellsFollower start old from last answer new.store
  pub read : IsLookedInto start old.store end new.store
  pub same : new ≡ record old { store = new.store }
