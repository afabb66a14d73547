-- A node as the cluster sees it, what it may be asked, and what it may answer.
--
-- Of an ask that carries a file the file itself stands here, in place of its bytes; where the bytes are no file, the
-- ask is NoFile. Asks that change no store, and refusals that no law speaks of, stand here by name alone.
use Rattle.std.specs.Prelude.{◌≡◌, ℕ, Bool, Option, None}
use Rattle.lf_base.specs.declared.pos.Pos.{Pos}
use Rattle.byte_locks.specs.declared.lock_id.LockId.{LockId}
use Rattle.ltx_codec.specs.declared.file.Ltx.{Ltx}
use Rattle.world_laws.specs.declared.last_file.LastFile.{LastFile}
use Rattle.world_laws.specs.Served.{MeetsOverlay, Served, ShareForReading}
use Rattle.world_laws.specs.Store.{Failure, StoreState}

pub data Role : Type 0 where
  Primary : Role
  Replica : Role
  Halted : Role  -- a replica that has a write permit of the primary's

pub record NodeState : Type 0 where
  pub store : StoreState
  pub failed : Option Failure  -- what broke the store, until it is opened again
  pub faults : ℕ  -- the count of its disk's faults
  pub role : Role
  pub waits : Option Ltx  -- the file that was sent to the primary and waits for its reply
  pub served : Served

pub data Ask : Type 0 where
  File : Ask  -- a request on the served files
  EndSession : Ask
  Where : Ask
  Hello : Pos → Option LastFile → Ask  -- what does a follower at this position need, which says this of its last file
  Frame : Ltx → Ask  -- an LTX frame that was delivered
  Drop : Ask  -- a Drop frame that was delivered
  Import : Ask
  Export : Ask
  Forward : Ltx → Ask  -- a commit that a Halted node made
  Forwarded : (ok : Bool) → Ask  -- the reply to it
  NoFile : Ask  -- a Frame or a Forward whose bytes are no file
  Prune : (keep : ℕ) → Ask
  Permit : Ask  -- of write permits: asked for, got, given back, lost
  Lease : Ask  -- news of leases

pub data Refusal : Type 0 where
  NotPrimary : Refusal
  NotReplica : Refusal
  BadFile : Refusal
  NotNext : Refusal
  PageSize : Refusal
  SumDiffers : Refusal
  Limit : Refusal
  Disk : Refusal
  Broken : Refusal
  NoMemory : Refusal
  Other : Refusal  -- one that no law speaks of

pub data Answer : Type 0 where
  Done : Answer  -- the request was answered
  Send : Ltx → Answer  -- the commit is to be sent to the primary
  Level : Pos → Answer
  Item : Ltx → Answer
  Gone : Answer
  Applied : Pos → Answer
  Held : LockId → Answer
  Refused : Refusal → Answer

-- a node that holds no lease and no write permit, and waits for nothing
pub record IsPlain (node : NodeState) : Type 0 where
  pub role : node.role ≡ Replica
  pub waits : node.waits ≡ None

-- what always holds of a node: the overlay equation, locks that different owners share only for reading, and no
-- uncommitted pages at a replica
pub record IsSoundNode (node : NodeState) : Type 0 where
  pub overlay : MeetsOverlay node.served node.store.image
  pub shares : ShareForReading node.served.locks
  pub replica : node.role ≡ Replica → node.served.writer ≡ None
