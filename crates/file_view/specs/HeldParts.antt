-- What the parts of the database file with a write to the log in store stand for, and what they keep.
use Rattle.std.specs.Prelude.{◌≡◌, ℕ, Option, Some, None, IfSome, List, [], length}
use Rattle.std.specs.Option.{option_map}
use Rattle.std.specs.FinMap as pages
use Rattle.database_file.specs.DatabaseFile.{DatabaseFile, is_clean, clean}
use Rattle.database_file.specs.WritingParts.{Pages}
use Rattle.database_under_log.specs.Staying.{WaitingWrite, without, finished, forgotten}
use Rattle.database_under_log.specs.Waiting.{HasRoomFor}
use Rattle.database_under_log.specs.declared.waiting.LogCommit.{LogCommit}
use Rattle.lf_base.specs.FileBytes.{written}
use Rattle.lf_sqlite_pages.specs.Apply.{apply}
use Rattle.lf_sqlite_pages.specs.Change.{PageChange}
use Rattle.lf_sqlite_pages.specs.Image.{DatabaseImage, SameImage}
use Rattle.wal_watch.specs.File.{Wal, contents_of}
use Rattle.file_view.specs.DatabaseState.{HeldWrite, DatabaseState}
use Rattle.file_view.specs.LogRules.{LogCommits, LogKeeps, IsHeldFor}
use Rattle.file_view.specs.declared.database.holding.Held.{Held}
use Rattle.file_view.specs.declared.database.holding.Database.TheInside.{Inside}

-- the pages without those that are kept for a write
abbrev pub without_added : Pages → Option WaitingWrite → Pages
without_added kept None = kept
without_added kept (Some w) = without kept w.added

abbrev pub kept_before : Pages → Option Held → Pages
kept_before kept None = kept
kept_before kept (Some h) = without_added kept h.write

-- the file as it was before a write waited, and as it is once that is done: overtaken, it is the image
abbrev pub before : DatabaseFile → Option Held → DatabaseFile
before file held = record file { kept = kept_before file.kept held }

abbrev pub after : DatabaseFile → Option WaitingWrite → DatabaseFile
after file None = clean file
after file (Some w) = finished file w

-- the bytes that a write writes: overtaken, none
abbrev pub bytes_left : Option WaitingWrite → List ℕ
bytes_left None = []
bytes_left (Some w) = w.bytes

abbrev pub held_of : DatabaseFile → Held → HeldWrite
held_of file h = record { at = h.at; bytes = bytes_left h.write; file = after file h.write }

-- the state that the parts stand for
abbrev pub state_of : Inside → DatabaseState
state_of d = record { file = before d.file d.held; held = option_map (held_of d.file) d.held }

-- what is remembered of a write that waits: its place and length, and how many pages the file kept before, and whether it was
-- the image
pub record Remembers (file : DatabaseFile) (h : Held) : Type 0 where
  pub at : (w : WaitingWrite) → h.write ≡ Some w → w.at ≡ h.at
  pub len : h.len ≡ length (bytes_left h.write)
  pub kept : h.kept ≡ pages.len (without_added file.kept h.write)
  pub clean : h.clean ≡ is_clean (record file { kept = without_added file.kept h.write })

abbrev pub IsKept : Inside → Type 0
IsKept d = (h : Held) → d.held ≡ Some h → Remembers d.file h

-- the write that waits, as the served files have it
abbrev pub held_for : DatabaseFile → WaitingWrite → HeldWrite
held_for file w = record { at = w.at; bytes = w.bytes; file = finished file w }

-- a commit that was prepared is forgotten where it leaves the image as it is; else the file stays for it
abbrev pub IsSettled : Option DatabaseImage → ℕ → LogCommit → DatabaseFile → Option LogCommit → DatabaseFile → Type 0
IsSettled told commit c file None new = (new ≡ forgotten file c.write) × (c.change.commit ≡ commit) × IfSome told (λ i. SameImage (apply i c.change) i)
IsSettled told commit c file (Some d) new = (d ≡ c) × (new ≡ file) × IfSome told (λ i. SameImage (apply i c.change) i → ⊥)

-- a write that is done, and the file stays
pub record IsLogStored (told : Option DatabaseImage) (page_size commit : ℕ) (old : DatabaseFile) (log : Wal) (at : ℕ) (bytes : List ℕ) (new : DatabaseFile) (later : Wal) : Type 0 where
  pub commits : LogCommits told old (contents_of log) (written at bytes (contents_of log)) commit None
  pub keeps : LogKeeps told old (contents_of log) (written at bytes (contents_of log)) page_size commit
  pub file : new ≡ old
  pub contents : later.contents ≡ Some (written at bytes (contents_of log))

-- a write that waits: the file keeps pages for it, and was the old one before
pub record IsLogHeld (told : Option DatabaseImage) (commit : ℕ) (old : DatabaseFile) (log : Wal) (at : ℕ) (bytes : List ℕ) (c : LogCommit) (new : DatabaseFile) (later : Wal) : Type 0 where
  pub commits : LogCommits told old (contents_of log) (written at bytes (contents_of log)) commit (Some c.change)
  pub held : IsHeldFor told old (contents_of log) at bytes c.change (held_for new c.write)
  pub back : forgotten new c.write ≡ old
  pub room : HasRoomFor log later at bytes

-- what a write to the log does to file and log
abbrev pub LogWrites : Option DatabaseImage → ℕ → ℕ → DatabaseFile → Wal → ℕ → List ℕ → Option LogCommit → DatabaseFile → Wal → Type 0
LogWrites told page_size commit old log at bytes None new later = IsLogStored told page_size commit old log at bytes new later
LogWrites told page_size commit old log at bytes (Some c) new later = IsLogHeld told commit old log at bytes c new later

-- the same of the file with a write in store: a write that waits is in store then
abbrev pub LogWrote : Option DatabaseImage → ℕ → ℕ → DatabaseState → Wal → ℕ → List ℕ → Option PageChange → DatabaseState → Wal → Type 0
LogWrote told page_size commit old log at bytes None new later = (new ≡ old) × IsLogStored told page_size commit old.file log at bytes old.file later
LogWrote told page_size commit old log at bytes (Some change) new later =
    LogCommits told old.file (contents_of log) (written at bytes (contents_of log)) commit (Some change)
    × (HasRoomFor log later at bytes
    × ((w : HeldWrite) × (IsHeldFor told old.file (contents_of log) at bytes change w × (new ≡ record { file = old.file; held = Some w }))))
