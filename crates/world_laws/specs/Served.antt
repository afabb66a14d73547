-- The files that a node serves, as far as the laws of the cluster speak of them.
--
-- The database file as it reads lies under the committed frames of its WAL. Together they are the committed image,
-- but for the pages that one writer has written and not committed yet: the overlay equation. Which locks keep a
-- frame from being applied depends on the journal mode of the committed image.
use Rattle.std.specs.Prelude.{◌≡◌, ℕ, List, [], Contains, Option, Some, None, IsSome, All}
use Rattle.byte_locks.specs.declared.owner.Owner.{Owner}
use Rattle.byte_locks.specs.declared.lock_id.LockId.{LockId}
use Rattle.byte_locks.specs.declared.lock_entry.LockEntry.{LockEntry}
use Rattle.byte_locks.specs.LockEntry.{MayStandTogether}
use Rattle.byte_locks.specs.LockList.{LockList}
use Rattle.byte_locks.specs.ModeLocks.{blocking_locks, reading_locks}
use Rattle.lf_sqlite_pages.specs.Image.{DatabaseImage, page_at, SameImage}
use Rattle.lf_sqlite_pages.specs.Header.{image_is_wal}
use Rattle.lf_sqlite_pages.specs.Change.{PageChange}
use Rattle.lf_sqlite_pages.specs.Apply.{apply}

-- who has written pages that are not committed yet, and which
pub record Writer : Type 0 where
  pub owner : Owner
  pub pages : List ℕ

pub record Served : Type 0 where
  pub file : DatabaseImage  -- the database file as it reads, in pages
  pub frames : Option PageChange  -- the newest committed frame of each page of its WAL, and the size of the last commit
  pub locks : LockList
  pub writer : Option Writer

-- the files of a database that nobody uses
abbrev pub untouched : DatabaseImage → Served
untouched image = record { file = image; frames = None; locks = []; writer = None }

-- a database file under committed frames
abbrev pub over : DatabaseImage → Option PageChange → DatabaseImage
over file None = file
over file (Some frames) = apply file frames

-- a database file is the image at each page that it has, but for these
abbrev pub AgreesBut : List ℕ → DatabaseImage → DatabaseImage → Type 0
AgreesBut pages file image = (n : ℕ) → (Contains pages n → ⊥) → IsSome (page_at file n) → page_at file n ≡ page_at image n

-- what the overlay equation says of the database file
abbrev pub IsUnder : Served → Option Writer → DatabaseImage → Type 0
IsUnder served None image = SameImage (over served.file served.frames) image
IsUnder served (Some writer) image = AgreesBut writer.pages served.file image × SameImage (over image served.frames) image

-- the overlay equation: the database file under the committed frames is the committed image, but for uncommitted pages
abbrev pub MeetsOverlay : Served → DatabaseImage → Type 0
MeetsOverlay served image = IsUnder served served.writer image

-- different owners share a lock only for reading
abbrev pub ShareForReading : LockList → Type 0
ShareForReading locks = All (λ one. All (MayStandTogether one) locks) locks

-- somebody holds the lock
abbrev pub IsHeld : LockList → LockId → Type 0
IsHeld locks which = (entry : LockEntry) × Contains locks entry × (entry.lock ≡ which)

-- a lock that is held holds frames back from a database of this image
abbrev pub HoldsBack : Served → DatabaseImage → LockId → Type 0
HoldsBack served image which = Contains (blocking_locks (image_is_wal image)) which × IsHeld served.locks which

-- the owner is inside: it holds a lock that readers read under
abbrev pub IsInside : Served → DatabaseImage → Owner → Type 0
IsInside served image owner =
    (entry : LockEntry) × Contains served.locks entry × (entry.owner ≡ owner) × Contains (reading_locks (image_is_wal image)) entry.lock
