-- A rollback journal, absent or a list of bytes, and when it is active (SQLite file format, section 3).
use Rattle.std.specs.Prelude.{ℕ, Bool, false, not, ◌&&◌, Option, Some, None, List, [], ◌∷◌, length, nat_eq, nat_le, unwrap_or}
use Rattle.std.specs.List.{starts_with}
use Rattle.lf_base.specs.FileBytes.{written, resized}
use Rattle.lf_sqlite_pages.specs.Blocks.{ByteRoom, no_room, room_with}

-- the file, if it exists, and the bytes that may be written without taking memory
pub record Journal : Type 0 where
  pub file : Option (List ℕ)
  pub room : ByteRoom

-- no file, and no room
abbrev pub no_journal : Journal
no_journal = record { file = None; room = no_room }

-- the eight bytes that a journal header begins with: d9 d5 05 f9 20 a1 63 d7
abbrev pub magic : List ℕ
magic = 0xd9 ∷ 0xd5 ∷ 0x05 ∷ 0xf9 ∷ 0x20 ∷ 0xa1 ∷ 0x63 ∷ 0xd7 ∷ []

-- whether a file can undo a transaction: a whole header of 28 bytes that begins with the magic
abbrev pub has_header : List ℕ → Bool
has_header file = nat_le 28 (length file) && starts_with nat_eq file magic

-- whether the journal is active; an absent one isn't
abbrev pub is_active : Option (List ℕ) → Bool
is_active None = false
is_active (Some file) = has_header file

-- whether a call that leaves a journal so finishes it: it was active before and isn't after
abbrev pub finishes : Option (List ℕ) → Option (List ℕ) → Bool
finishes before after = is_active before && not (is_active after)

-- the bytes of a journal; an absent one has none
abbrev pub bytes_of : Option (List ℕ) → List ℕ
bytes_of file = unwrap_or file []

-- the journal with room for a write of so many bytes at a place
abbrev pub reserved : Journal → ℕ → ℕ → Journal
reserved journal at count = record { file = journal.file; room = room_with journal.room at count }

-- the journal after a write
abbrev pub after_write : Journal → ℕ → List ℕ → Journal
after_write journal at bytes = record { file = Some (written at bytes (bytes_of journal.file)); room = room_with journal.room at (length bytes) }

-- the journal after a change of its length
abbrev pub after_cut : Journal → ℕ → Journal
after_cut journal len = record { file = Some (resized len (bytes_of journal.file)); room = journal.room }
