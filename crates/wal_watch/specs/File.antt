-- A write-ahead log as a file: its bytes, and which write takes no memory.
use Rattle.std.specs.Prelude.{◌≡◌, ℕ, Option, Some, None, List, [], unwrap_or, ◌⊎◌}
use Rattle.lf_base.specs.FileBytes.{resized, written}
use Rattle.lf_sqlite_pages.specs.Blocks.{ByteRoom, no_room, room_with}

-- the bytes if the file is there, the bytes before the last write while nothing came between, and the bytes that may be
-- written without memory
pub record Wal : Type 0 where
  pub contents : Option (List ℕ)
  pub before : Option (List ℕ)
  pub room : ByteRoom

-- no file, and no room
abbrev pub no_wal : Wal
no_wal = record { contents = None; before = None; room = no_room }

-- the bytes, none where there is no file
abbrev pub contents_of : Wal → List ℕ
contents_of wal = unwrap_or wal.contents []

-- the file with room for a write of so many bytes at a place
abbrev pub with_room : Wal → ℕ → ℕ → Wal
with_room wal at count = record { contents = wal.contents; before = wal.before; room = room_with wal.room at count }

-- the file after a write, which can be undone
abbrev pub after_write : Wal → ℕ → List ℕ → Wal
after_write wal at bytes = record { contents = Some (written at bytes (contents_of wal)); before = Some (contents_of wal); room = wal.room }

-- the file after the last write was taken back
abbrev pub undone : Wal → Wal
undone wal = record { contents = wal.before; before = None; room = wal.room }

-- the file with these bytes, and nothing to undo
abbrev pub with_contents : Wal → List ℕ → Wal
with_contents wal contents = record { contents = Some contents; before = None; room = wal.room }

-- the file after its length was changed
abbrev pub after_cut : Wal → ℕ → Wal
after_cut wal len = with_contents wal (resized len (contents_of wal))

-- the bytes are as before, and so is the room unless it was seen to for the write
pub record IsUnchanged (old : Wal) (at count : ℕ) (new : Wal) : Type 0 where
  pub contents : new.contents ≡ old.contents
  pub room : (new.room ≡ old.room) ⊎ (new.room ≡ room_with old.room at count)
