-- A list of bytes that is kept in blocks.
use Rattle.std.specs.Prelude.{◌≡◌, ℕ, ◌+◌, ◌-◌, ◌/◌, ◌≤◌, ◌==◌, ◌&&◌, Bool, nat_le, Option, Some, None, List, [], length, if◌then◌else◌}
use Rattle.lf_base.specs.FileBytes.{written, resized}
use Rattle.lf_sqlite_pages.specs.BlockTable.{blocks_in}

-- the bytes from one place up to another, which may be written without memory
pub record ByteRoom : Type 0 where
  pub from : ℕ
  pub to : ℕ

-- the bytes, how many blocks are kept for them, the bytes before the last write while nothing else came after it, and the room
pub record BlockList : Type 0 where
  pub bytes : List ℕ
  pub held : ℕ
  pub before : Option (List ℕ)
  pub room : ByteRoom

-- no room
abbrev pub no_room : ByteRoom
no_room = record { from = 0; to = 0 }

-- no bytes, and no room
abbrev pub no_blocks : BlockList
no_blocks = record { bytes = []; held = 0; before = None; room = no_room }

-- the room for a write of so many bytes at a place
abbrev pub room_for : ℕ → ℕ → ByteRoom
room_for at count = record { from = at; to = at + count }

-- a write of so many bytes at a place lies within the room
pub record IsWithin (room : ByteRoom) (at count : ℕ) : Type 0 where
  pub from : room.from ≤ at
  pub to : at + count ≤ room.to

abbrev pub is_within : ByteRoom → ℕ → ℕ → Bool
is_within room at count = nat_le room.from at && nat_le (at + count) room.to

-- the room that a write of so many bytes at a place finds: what there is, or if that is too small room for this write alone
abbrev pub room_with : ByteRoom → ℕ → ℕ → ByteRoom
room_with room at count = if is_within room at count then room else room_for at count

-- how many blocks a range touches
abbrev pub touched : ℕ → ℕ → ℕ
touched at count = if count == 0 then 0 else (blocks_in (at + count) - at / 4096)

-- a piece was written at a place; a gap holds zeros
pub record IsWritten (old : BlockList) (at : ℕ) (piece : List ℕ) (new : BlockList) : Type 0 where
  pub bytes : new.bytes ≡ written at piece old.bytes
  pub before : new.before ≡ Some old.bytes
  pub held : new.held ≤ old.held + touched at (length piece)
  pub room : new.room ≡ old.room

-- the last write was taken back
pub record IsUndone (old new : BlockList) : Type 0 where
  pub bytes : Some new.bytes ≡ old.before
  pub before : new.before ≡ None
  pub held : new.held ≤ old.held
  pub room : new.room ≡ old.room

-- the bytes were cut to a length, or filled up to it with zeros
pub record IsResized (old : BlockList) (len : ℕ) (new : BlockList) : Type 0 where
  pub bytes : new.bytes ≡ resized len old.bytes
  pub before : new.before ≡ None
  pub held : new.held ≤ old.held
  pub room : new.room ≡ old.room
