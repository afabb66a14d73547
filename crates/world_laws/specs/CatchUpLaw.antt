-- The third law: a position that the primary's log lacks, and one that counts as unknown by what the follower says of its
-- last file, is answered by one snapshot, or by Gone where the database was dropped; and what is then delivered is applied, once nobody holds a lock against it, unless a disk failed, memory was
-- refused, or the store was broken before. A node is primary in such a step where it is so afterwards.
use Rattle.std.specs.Prelude.{◌≡◌, ◌≢◌, ◌⊎◌, ℕ, ◌≤◌, true, Option, IsSome, []}
use Rattle.lf_base.specs.declared.pos.Pos.{Pos}
use Rattle.lf_base.specs.Faults.{Rose}
use Rattle.byte_locks.specs.declared.lock_id.LockId.{LockId}
use Rattle.lf_sqlite_pages.specs.Image.{IsImage, SameImage}
use Rattle.ltx_codec.specs.declared.file.Ltx.{Ltx}
use Rattle.ltx_codec.specs.Positions.{after, before, nowhere}
use Rattle.world_laws.specs.declared.last_file.LastFile.{LastFile}
use Rattle.world_laws.specs.Answers.{Knows, snapshot_of}
use Rattle.world_laws.specs.Events.{Happens, Steps}
use Rattle.world_laws.specs.Node.{Answer, Applied, Broken, Disk, Drop, Frame, Gone, Held, Hello, Item, NoMemory, NodeState, Primary, Refused}
use Rattle.world_laws.specs.Premises.{OneImagePerPosition}
use Rattle.world_laws.specs.Safe.{IsSafe}
use Rattle.world_laws.specs.Served.{HoldsBack}
use Rattle.world_laws.specs.Step.{StepFacts}
use Rattle.world_laws.specs.Store.{StoreState, at}
use Rattle.world_laws.specs.World.{World}

-- the answer is Refused, with Disk and the disk's count rose, with Broken and the store was broken before, or NoMemory
abbrev pub IsFreeRefusal : NodeState → NodeState → Answer → Type 0
IsFreeRefusal old new answer =
    ((answer ≡ Refused Disk) × Rose old.faults new.faults) ⊎ ((answer ≡ Refused Broken) × IsSome old.failed) ⊎ (answer ≡ Refused NoMemory)

-- the answer to a position that the log lacks: the snapshot where there is a database, Gone where it was dropped
abbrev pub IsWhole : StoreState → Answer → Type 0
IsWhole store answer = ((1 ≤ (at store).txid) × (answer ≡ Item (snapshot_of store))) ⊎ ((store.dropped ≡ true) × (answer ≡ Gone))

-- a primary answers a position that its log lacks by one of the two, and by nothing else
abbrev pub AnswersByWhole : Type 0
AnswersByWhole = (old new : NodeState) (position : Pos) (last : Option LastFile) (answer : Answer) → StepFacts old (Hello position last) answer new → new.role ≡ Primary →
    (Knows old.store position last → ⊥) → IsWhole old.store answer ⊎ IsFreeRefusal old new answer

-- a lock that somebody holds held the frame back, and the store is as it was
abbrev pub IsHeldBack : NodeState → NodeState → Answer → Type 0
IsHeldBack old new answer = (lock : LockId) × (answer ≡ Held lock) × HoldsBack old.served old.store.image lock × (new.store ≡ old.store)

-- a snapshot that was sent, delivered to a node that isn't Primary
abbrev pub SnapshotInstalls : Type 0
SnapshotInstalls = (w v : World) (k : ℕ) (from : StoreState) (answer : Answer) → IsSafe w → IsImage from.image →
    Happens w (Steps k (Frame (snapshot_of from)) answer) v → (v.nodes k).role ≢ Primary →
    IsHeldBack (w.nodes k) (v.nodes k) answer
    ⊎ ((answer ≡ Applied (at from)) × (at (v.nodes k).store ≡ at from) × SameImage (v.nodes k).store.image from.image)
    ⊎ IsFreeRefusal (w.nodes k) (v.nodes k) answer

-- a Drop frame, delivered to a node that isn't Primary
abbrev pub DropInstalls : Type 0
DropInstalls = (w v : World) (k : ℕ) (answer : Answer) → IsSafe w → Happens w (Steps k Drop answer) v → (v.nodes k).role ≢ Primary →
    IsHeldBack (w.nodes k) (v.nodes k) answer
    ⊎ ((answer ≡ Applied nowhere) × (at (v.nodes k).store ≡ nowhere) × ((v.nodes k).store.image.pages ≡ []))
    ⊎ IsFreeRefusal (w.nodes k) (v.nodes k) answer

-- a file that was sent and joins is never refused for its format, its limit, its page size or its sum
abbrev pub SentFileApplies : Type 0
SentFileApplies = (w v : World) (k : ℕ) (file : Ltx) (answer : Answer) → IsSafe w → OneImagePerPosition w.tree → Happens w (Steps k (Frame file) answer) v →
    (v.nodes k).role ≢ Primary → before file ≡ at (w.nodes k).store →
    IsHeldBack (w.nodes k) (v.nodes k) answer
    ⊎ ((answer ≡ Applied (after file)) × (at (v.nodes k).store ≡ after file))
    ⊎ IsFreeRefusal (w.nodes k) (v.nodes k) answer
