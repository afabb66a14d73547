use Rattle.std.specs.Prelude.{◌≡◌, ℕ, ◌+◌, ◌-◌, ◌≤◌, ◌<◌, Bool, nat_eq, nat_le, ◌&&◌, min, max}
use Rattle.byte_locks.specs.declared.lock_id.LockId.{LockId}
use Rattle.byte_locks.specs.declared.lock_id.LockId.TheVariants as lock
use Rattle.byte_locks.specs.declared.lock_bytes.FileKind.{FileKind}
use Rattle.byte_locks.specs.declared.lock_bytes.FileKind.TheVariants.{Database, Journal, Wal, Shm, PosFile, LockFile, Primary}

-- the file that a lock lies on
abbrev pub file_of : LockId → FileKind
file_of lock.Pending = Database
file_of lock.Reserved = Database
file_of lock.Shared = Database
file_of lock.Halt = LockFile
file_of lock.Many = LockFile
file_of _ = Shm

-- a lock's first byte in its file
abbrev pub first_byte : LockId → ℕ
first_byte lock.Pending = 0x40000000
first_byte lock.Reserved = 0x40000001
first_byte lock.Shared = 0x40000002
first_byte lock.Write = 120
first_byte lock.Ckpt = 121
first_byte lock.Recover = 122
first_byte lock.Read0 = 123
first_byte lock.Read1 = 124
first_byte lock.Read2 = 125
first_byte lock.Read3 = 126
first_byte lock.Read4 = 127
first_byte lock.Dms = 128
first_byte lock.Halt = 72
first_byte lock.Many = 73

-- how many bytes a lock has
abbrev pub byte_count : LockId → ℕ
byte_count lock.Shared = 510
byte_count _ = 1

-- a lock's last byte in its file
abbrev pub last_byte : LockId → ℕ
last_byte lock = first_byte lock + byte_count lock - 1

-- a file's number among the files
abbrev pub file_code : FileKind → ℕ
file_code Database = 0
file_code Journal = 1
file_code Wal = 2
file_code Shm = 3
file_code PosFile = 4
file_code LockFile = 5
file_code Primary = 6

-- whether two files are one
abbrev pub same_file : FileKind → FileKind → Bool
same_file a b = nat_eq (file_code a) (file_code b)

-- the byte is one of the lock's in the file
pub record IsByteOf (file : FileKind) (lock : LockId) (byte : ℕ) : Type 0 where
  pub on_file : file_of lock ≡ file
  pub from_first : first_byte lock ≤ byte
  pub within : byte < first_byte lock + byte_count lock

-- the lock has a byte in the range from start to end, both included
abbrev pub Touches : FileKind → ℕ → ℕ → LockId → Type 0
Touches file start end lock = (byte : ℕ) × (start ≤ byte) × (byte ≤ end) × IsByteOf file lock byte

-- the same as a test: on this file, the later of the two ranges' starts is no later than the earlier of their ends
abbrev pub touches : FileKind → ℕ → ℕ → LockId → Bool
touches file start end lock =
    same_file (file_of lock) file
    && nat_le (max start (first_byte lock)) (min end (first_byte lock + byte_count lock - 1))
