-- The rollback journal with a call in store: what a call on it does, and which call waits for its commit.
use Rattle.std.specs.Prelude.{ℕ, ◌+◌, Bool, ◌&&◌, if◌then◌else◌, Option, Some, None, List, length}
use Rattle.lf_base.specs.FileBytes.{written, resized}
use Rattle.lf_base.specs.Endian.{be32_at}
use Rattle.lf_sqlite_pages.specs.Blocks.{IsWithin}
use Rattle.lf_sqlite_pages.specs.PageSize.{is_page_size}
use Rattle.journal_watch.specs.Journal.{Journal, is_active, finishes, bytes_of}
use Rattle.file_view.specs.declared.journal.JournalCall.{JournalCall}
use Rattle.file_view.specs.declared.journal.JournalCall.TheVariants as call

-- the file's bytes if it is there, and the call that waits
pub record JournalState : Type 0 where
  pub file : Option (List ℕ)
  pub waiting : Option JournalCall

-- the file after a call
abbrev pub after_call : Option (List ℕ) → JournalCall → Option (List ℕ)
after_call file call.Unlink = None
after_call file (call.Cut len) = Some (resized len (bytes_of file))
after_call file (call.Write at bytes) = Some (written at bytes (bytes_of file))

-- how far a call reaches
abbrev pub reach : JournalCall → ℕ
reach call.Unlink = 0
reach (call.Cut len) = len
reach (call.Write at bytes) = at + length bytes

-- whether a call finishes the journal: it was active before and isn't after
abbrev pub call_finishes : Option (List ℕ) → JournalCall → Bool
call_finishes file c = finishes file (after_call file c)

-- the file after the call that waits, if one does
abbrev pub after_held : Option (List ℕ) → Option JournalCall → Option (List ℕ)
after_held file None = file
after_held file (Some c) = after_call file c

abbrev pub after_waiting : JournalState → Option (List ℕ)
after_waiting j = after_held j.file j.waiting

-- the file with the call done, held, forgotten
abbrev pub called : JournalState → JournalCall → JournalState
called j c = record { file = after_call j.file c; waiting = None }

abbrev pub holding : JournalState → JournalCall → JournalState
holding j c = record { file = j.file; waiting = Some c }

-- a call takes no memory
abbrev pub HasRoom : Journal → JournalCall → Type 0
HasRoom journal call.Unlink = Unit {0}
HasRoom journal (call.Cut len) = Unit {0}
HasRoom journal (call.Write at bytes) = IsWithin journal.room at (length bytes)

-- the page size in the header of an active journal (SQLite file format, section 3: bytes 24 to 27), if it is one
abbrev pub journal_page_size : Option (List ℕ) → Option ℕ
journal_page_size file = if is_active file && is_page_size (be32_at 24 (bytes_of file)) then Some (be32_at 24 (bytes_of file)) else None
