-- The locks of a database by its journal mode: rollback mode, then WAL mode (SQLite: File Locking And Concurrency;
-- Write-Ahead Logging, WAL-mode file locks).
use Rattle.std.specs.Prelude.{Bool, true, false, List, [], ◌∷◌}
use Rattle.byte_locks.specs.declared.lock_id.LockId.{LockId}
use Rattle.byte_locks.specs.declared.lock_id.LockId.TheVariants.{Pending, Reserved, Shared, Write, Ckpt, Recover, Read0, Read1, Read2, Read3, Read4}

-- the locks that a reader reads under
abbrev pub reading_locks : Bool → List LockId
reading_locks false = Shared ∷ []
reading_locks true = Read0 ∷ Read1 ∷ Read2 ∷ Read3 ∷ Read4 ∷ []

-- the locks that hold back another's change, in order: those of whoever writes or checkpoints, and those of readers
unfoldable pub blocking_locks : Bool → List LockId
blocking_locks false = Pending ∷ Reserved ∷ reading_locks false
blocking_locks true = Write ∷ Ckpt ∷ Recover ∷ reading_locks true
