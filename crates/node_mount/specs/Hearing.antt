-- What is told of the frames that a replica is sent, and of the followers of a primary.
use Rattle.std.specs.Prelude.{ℕ, ◌-◌, ◌==◌, ◌&&◌, nat_lt, Bool, false, List, ◌++◌, codes, length, Option, Some, None, if◌then◌else◌}
use Rattle.byte_locks.specs.declared.lock_id.LockId.{LockId}
use Rattle.byte_locks.specs.declared.lock_id.LockId.TheVariants as lock
use Rattle.lf_base.specs.Endian.{be64_at}
use Rattle.lf_base.specs.Position.{position_text}
use Rattle.lf_base.specs.declared.pos.Pos.{Pos}
use Rattle.node_core.specs.declared.answer.Answer.{Answer}
use Rattle.node_core.specs.declared.answer.Answer.TheVariants as answers
use Rattle.node_core.specs.declared.ask.Ask.{Ask}
use Rattle.node_core.specs.declared.ask.Ask.TheVariants as asks
use Rattle.node_objects.specs.Lines.{shown}
use Rattle.node_mount.specs.declared.frame_notes.Replica.{Replica}
use Rattle.node_mount.specs.declared.frame_notes.Waits.{Waits}
use Rattle.node_mount.specs.declared.frame_notes.Waits.TheVariants as held
use Rattle.node_mount.specs.declared.notes.Note.{Note}
use Rattle.node_mount.specs.declared.notes.NoteKind.{NoteKind}
use Rattle.node_mount.specs.declared.notes.NoteKind.TheVariants as kinds

-- a position in a line
abbrev pub at_words : Pos → List ℕ
at_words pos = shown (position_text pos)

-- a snapshot: the bytes of a file that says transaction 1 as its minimum
abbrev pub is_snapshot : List ℕ → Bool
is_snapshot bytes = nat_lt 23 (length bytes) && (be64_at 16 bytes == 1)

-- a lock's name (docs/FORMATS.md)
abbrev pub lock_name : LockId → List ℕ
lock_name lock.Pending = codes "PENDING"
lock_name lock.Reserved = codes "RESERVED"
lock_name lock.Shared = codes "SHARED"
lock_name lock.Write = codes "WRITE"
lock_name lock.Ckpt = codes "CKPT"
lock_name lock.Recover = codes "RECOVER"
lock_name lock.Read0 = codes "READ0"
lock_name lock.Read1 = codes "READ1"
lock_name lock.Read2 = codes "READ2"
lock_name lock.Read3 = codes "READ3"
lock_name lock.Read4 = codes "READ4"
lock_name lock.Dms = codes "DMS"
lock_name lock.Halt = codes "HALT"
lock_name lock.Many = codes "MANY"

-- ---- a replica

abbrev pub installed_line : (to from : Pos) → List ℕ
installed_line to from = codes "snapshot installed: at " ++ at_words to ++ codes " in place of " ++ at_words from

abbrev pub dropped_line : (from : Pos) → List ℕ
dropped_line from = codes "database dropped: it was at " ++ at_words from

abbrev pub waits_line : LockId → List ℕ
waits_line id = codes "frame waits: a client holds " ++ shown (lock_name id)

-- a frame was held back for longer than a second, and that was not told
abbrev pub is_late : Waits → (now : ℕ) → Bool
is_late held.Not now = false
is_late (held.Since start) now = nat_lt 1000 (now - start)
is_late held.Told now = false

-- a frame that is held back at a moment
abbrev pub waits_after : Waits → (now : ℕ) → Waits
waits_after held.Not now = held.Since now
waits_after (held.Since start) now = if nat_lt 1000 (now - start) then held.Told else held.Since start
waits_after held.Told now = held.Told

abbrev pub waits_note : Waits → (now : ℕ) → LockId → Option Note
waits_note waits now id = if is_late waits now then Some (record { kind = kinds.Waits; line = waits_line id }) else None

-- WHAT A REPLICA NOTES of an answer: a snapshot that was installed, a database that was dropped, a frame that has waited for long
abbrev pub replica_note : Replica → Ask → Answer → Option Note
replica_note known (asks.Frame now bytes) (answers.Applied here) =
    if is_snapshot bytes then Some (record { kind = kinds.Snapshot; line = installed_line here known.pos }) else None
replica_note known (asks.Frame now bytes) (answers.Held id) = waits_note known.waits now id
replica_note known (asks.Drop now) (answers.Applied here) =
    if known.pos.txid == 0 then None else Some (record { kind = kinds.Drop; line = dropped_line known.pos })
replica_note known (asks.Drop now) (answers.Held id) = waits_note known.waits now id
replica_note known ask answer = None

-- where it stands after that, and since when it waits
abbrev pub replica_after : Replica → Ask → Answer → Replica
replica_after known ask (answers.At here) = record { pos = here.pos; waits = held.Not }
replica_after known ask (answers.Applied here) = record { pos = here; waits = held.Not }
replica_after known (asks.Frame now bytes) (answers.Held id) = record known { waits = waits_after known.waits now }
replica_after known (asks.Drop now) (answers.Held id) = record known { waits = waits_after known.waits now }
replica_after known ask answer = known

-- ---- a follower of a primary

-- `who`: a blank and its address, or nothing where that isn't known
abbrev pub comes_line : (who : List ℕ) → Pos → List ℕ
comes_line who pos = codes "follower" ++ who ++ codes " at " ++ at_words pos

abbrev pub gone_line : (who : List ℕ) → Pos → List ℕ
gone_line who pos = comes_line who pos ++ codes " is gone"

abbrev pub sent_line : (who : List ℕ) → (to from : Pos) → List ℕ
sent_line who to from = codes "snapshot for the follower" ++ who ++ codes ": at " ++ at_words to ++ codes " in place of " ++ at_words from

-- where a follower stands that is answered so: with what it is sent it stands behind that
abbrev pub follower_at : (before : Option Pos) → Ask → Answer → Option Pos
follower_at before (asks.Hello now from last) (answers.Item ltx to) = Some to
follower_at before (asks.Hello now from last) answers.Gone = Some (record { txid = 0; sum = 0 })
follower_at before (asks.Hello now from last) (answers.Level here) = Some from
follower_at before ask answer = before

-- WHAT A PRIMARY NOTES of a follower that it had not heard of, once it answers it
abbrev pub comes_note : (who : List ℕ) → (before after : Option Pos) → Ask → Option Note
comes_note who None (Some after) (asks.Hello now from last) = Some (record { kind = kinds.Comes; line = comes_line who from })
comes_note who before after ask = None

-- AND OF AN ANSWER: a snapshot that it is owed
abbrev pub sent_note : (who : List ℕ) → Ask → Answer → Option Note
sent_note who (asks.Hello now from last) (answers.Item ltx to) = if is_snapshot ltx then Some (record { kind = kinds.Snapshot; line = sent_line who to from }) else None
sent_note who ask answer = None
