-- The folder after a recovery has given it its last form.
use Rattle.std.specs.Prelude.{ℕ, Bool, true, false, List, [], ◌∷◌}
use Rattle.lf_disk.specs.declared.name.FileName.TheVariants.{Database, Snapshot as SnapshotName}
use Rattle.lf_disk.specs.Folder.{Folder, bytes_of}
use Rattle.lf_disk.specs.History.{History}
use Rattle.lf_sqlite_pages.specs.Image.{DatabaseImage, empty_image}
use Rattle.txn_log.specs.declared.entry.Entry.{Entry}
use Rattle.txn_log.specs.Kept.{LogFile, encoded_change, IsAtRest}
use Rattle.txn_log.specs.Store.{files_in}
use Rattle.node_recovery.specs.declared.found.Decider.{Decider}
use Rattle.node_recovery.specs.declared.found.Decider.TheVariants as decider
use Rattle.node_recovery.specs.Outline.{encoding_under}
use Rattle.node_recovery.specs.Summing.{restored_image}

-- the image that is decided
abbrev pub image_left : Decider → Folder → DatabaseImage
image_left (decider.Snapshot outline) f = restored_image (encoded_change (bytes_of (f SnapshotName))) (bytes_of (f Database))
image_left (decider.Last outline) f = restored_image (encoded_change (encoding_under outline f)) (bytes_of (f Database))
image_left _ f = empty_image

-- the log that is decided: a snapshot has its numbers in its name then
abbrev pub files_left : Decider → List Entry → Folder → List LogFile
files_left (decider.Snapshot outline) names f = record { min = outline.header.min; max = outline.header.max; encoding = bytes_of (f SnapshotName) } ∷ []
files_left (decider.Last outline) names f = files_in names f
files_left _ names f = []

-- its page size, and how many pages it has
abbrev pub size_left : Decider → ℕ
size_left (decider.Snapshot outline) = outline.header.page_size
size_left (decider.Last outline) = outline.header.page_size
size_left _ = 0

abbrev pub commit_left : Decider → ℕ
commit_left (decider.Snapshot outline) = outline.header.commit
commit_left (decider.Last outline) = outline.header.commit
commit_left _ = 0

-- whether the mark of a dropped database stays
abbrev pub is_marked : Decider → Bool
is_marked decider.Mark = true
is_marked _ = false

-- the database file reads as the image that is decided, and nothing but the log and the mark stands beside it
abbrev pub IsFinished : Folder → Decider → List Entry → History → Type 0
IsFinished f decider names h = IsAtRest (image_left decider f) (files_left decider names f) (is_marked decider) h
