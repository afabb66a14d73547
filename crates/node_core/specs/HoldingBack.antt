-- A frame, or word of a drop, that a lock holds back keeps new readers out, as SQLite's writer does by PENDING. Moments are in
-- milliseconds.
use Rattle.std.specs.Prelude.{ℕ, ◌+◌, ◌-◌, ◌%◌, ◌^◌, min, Bool, true, false, not, ◌&&◌, nat_lt, nat_le, List, [], ◌∷◌, Option, Some, None, if◌then◌else◌}
use Rattle.std.specs.List.{list_any}
use Rattle.byte_locks.specs.declared.lock_id.LockId.{LockId}
use Rattle.byte_locks.specs.declared.lock_id.LockId.TheVariants.{Pending}
use Rattle.byte_locks.specs.declared.owner.Owner.{Owner}
use Rattle.byte_locks.specs.LockSet.{Marks, has}
use Rattle.byte_locks.specs.ModeLocks.{reading_locks}
use Rattle.fuse_msgs.specs.declared.request.LockWish.{LockWish}
use Rattle.fuse_msgs.specs.declared.request.LockWish.TheVariants as wish
use Rattle.fuse_msgs.specs.declared.request.Op.{Op}
use Rattle.fuse_msgs.specs.declared.request.Op.TheVariants as op
use Rattle.fuse_msgs.specs.declared.request.Request.{Request}
use Rattle.file_view.specs.Endings.{is_inside}
use Rattle.file_view.specs.LockRules.{locks_at}
use Rattle.file_view.specs.Requests.{owner_of}
use Rattle.file_view.specs.Roles.{is_replica}
use Rattle.node_core.specs.declared.answer.Answer.{Answer}
use Rattle.node_core.specs.declared.answer.Answer.TheVariants as answers
use Rattle.node_core.specs.declared.held_back.HeldBack.{HeldBack}
use Rattle.node_core.specs.declared.news.LeaseNews.{LeaseNews}
use Rattle.node_core.specs.declared.news.LeaseNews.TheVariants as news
use Rattle.node_core.specs.Files.{scene}
use Rattle.node_core.specs.Nodes.{NodeParts, role_in}

-- it counts at this moment
abbrev pub is_fresh : HeldBack → ℕ → Bool
is_fresh held now = nat_le now held.until

-- since when, where one is held back now
abbrev pub since_by : Option HeldBack → ℕ → ℕ
since_by None now = now
since_by (Some held) now = if is_fresh held now then held.since else now

-- so long after this moment, or the greatest moment that there is
abbrev pub after : ℕ → ℕ → ℕ
after now passed = min (now + passed) (2 ^ 64 - 1)

-- where one is applied: what counted goes on for 10 ms, so that one that waits behind it finds no reader who came in between
abbrev pub held_on : Option HeldBack → ℕ → Option HeldBack
held_on None now = None
held_on (Some held) now = if is_fresh held now then Some (record held { until = after now 10 }) else None

-- after an answer to a frame or a drop. What is held back now counts for a second more
abbrev pub held_by : Answer → ℕ → Option HeldBack → Option HeldBack
held_by (answers.Held lock) now held = Some (record { since = since_by held now; until = after now 1000 })
held_by (answers.Applied here) now held = held_on held now
held_by answer now held = held

-- after news of leases: where the lease is granted the node takes no frames
abbrev pub held_after : LeaseNews → Option HeldBack → Option HeldBack
held_after (news.Granted term ttl) held = None
held_after told held = held

-- the node once it knows this of the answer that it gave to a frame or a drop
abbrev pub noted : Answer → NodeParts → NodeParts
noted answer n = record n { held = held_by answer n.standing.moment n.held }

-- the locks that a reader comes in by, by the mode of the image. In rollback mode SQLite takes PENDING for reading, then SHARED; in
-- WAL mode one of READ0 to READ4, for writing where it sets the mark
abbrev pub entering_locks : LockWish → (wal : Bool) → List LockId
entering_locks wish.Read false = Pending ∷ reading_locks false
entering_locks wish.Read true = reading_locks true
entering_locks wish.Write false = []
entering_locks wish.Write true = reading_locks true
entering_locks wish.Unlock wal = []

-- whether new readers are kept out so long after one was first held back: after 10 ms, for 300 ms, then not for 150 ms, and so on in turn. So
-- whoever stays inside, SQLite's busy handler, which in rollback mode asks again for a reader, gets it in where its timeout is a second;
-- and so do SQLite's own tries in WAL mode, which end after some 10 s (SQLITE_PROTOCOL) whatever the timeout is
abbrev pub is_shut : ℕ → Bool
is_shut passed = nat_le 10 passed && nat_lt ((passed - 10) % 450) 300

abbrev pub keeps_out : Option HeldBack → ℕ → Bool
keeps_out None now = false
keeps_out (Some held) now = is_fresh held now && is_shut (now - held.since)

-- an owner who isn't inside asks to come in
abbrev pub comes_in : NodeParts → Owner → Marks → LockWish → Bool
comes_in n owner locks wish = list_any (has locks) (entering_locks wish n.store.wal) && not (is_inside n.files owner n.store.wal)

-- by SETLK or SETLKW
abbrev pub asks_in : NodeParts → ℕ → ℕ → Op → Bool
asks_in n caller node (op.Setlk fh owner start end wish) = comes_in n (owner_of (scene n caller) owner) (locks_at node start end) wish
asks_in n caller node (op.Setlkw fh owner start end wish) = comes_in n (owner_of (scene n caller) owner) (locks_at node start end) wish
asks_in n caller node _ = false

-- WHOM A NODE KEEPS OUT: at a replica, while a frame is held back, whoever asks to come in
abbrev pub is_kept_out : NodeParts → ℕ → Request → Bool
is_kept_out n caller request = (keeps_out n.held n.standing.moment && is_replica (role_in n)) && asks_in n caller request.node request.op
