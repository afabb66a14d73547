-- WRITE, SETATTR of a size and UNLINK of the journal, and the commits that they end in.
use Rattle.std.specs.Prelude.{◌≡◌, ℕ, Bool, true, false, ◌&&◌, ◌||◌, not, is_some, nat_lt, Option, Some, None, IfSome, List, [], ◌∷◌, if◌then◌else◌}
use Rattle.byte_locks.specs.declared.lock_id.LockId.TheVariants as lock
use Rattle.byte_locks.specs.LockList.{LockList}
use Rattle.database_file.specs.Commit.{IsChangeOf, LeadsTo, committed_image}
use Rattle.database_file.specs.DatabaseFile.{KeepsDifferences, is_clean, clean}
use Rattle.journal_watch.specs.Journal.{is_active}
use Rattle.lf_sqlite_pages.specs.Change.{PageChange}
use Rattle.lf_sqlite_pages.specs.Image.{DatabaseImage}
use Rattle.file_view.specs.declared.journal.JournalCall.{JournalCall}
use Rattle.file_view.specs.declared.journal.JournalCall.TheVariants as call
use Rattle.file_view.specs.declared.view.Scene.{Scene}
use Rattle.file_view.specs.Acting.{is_unnamed, writes}
use Rattle.file_view.specs.Errno.{EPERM, EIO, EAGAIN, EACCES, ENOSPC, EROFS}
use Rattle.file_view.specs.JournalState.{call_finishes, called, holding, reach}
use Rattle.file_view.specs.Refusal.{Row}
use Rattle.file_view.specs.Roles.{is_replica}
use Rattle.file_view.specs.Served.{Served, has_committed_frames, waits}

-- an owner writes the journal by a write lock on RESERVED, PENDING or SHARED
abbrev pub may_write_journal : LockList → ℕ → Option ℕ → Bool
may_write_journal locks session given =
    writes locks session given lock.Reserved || writes locks session given lock.Pending || writes locks session given lock.Shared

-- whether a call finishes the journal, and whether there are uncommitted pages then
abbrev pub finishes : Served → JournalCall → Bool
finishes s c = call_finishes s.journal.file c

abbrev pub ends_writing : Served → JournalCall → Bool
ends_writing s c = finishes s c && is_some s.writer

-- a call that finishes the journal. That of a torn owner stays, and gives the committed pages back once that owner has unlocked. A session
-- that speaks for many owners has to name whose transaction it ends
abbrev pub finishing_rows : Served → Scene → Option ℕ → JournalCall → List Row
finishing_rows s scene given c =
    (finishes s c && is_some s.torn, EIO)
    ∷ (ends_writing s c && is_unnamed s.locks scene.session given, EACCES)
    ∷ (ends_writing s c && not (writes s.locks scene.session given lock.Shared), EACCES)
    ∷ (ends_writing s c && has_committed_frames s && not (is_clean s.database), EPERM)
    ∷ (waits s, EAGAIN)
    ∷ []

-- WRITE and SETATTR of a size
abbrev pub journal_rows : Served → Scene → Option ℕ → JournalCall → List Row
journal_rows s scene given c =
    (scene.is_broken, EIO)
    ∷ (is_replica scene.role, EROFS)
    ∷ (not (may_write_journal s.locks scene.session given), EACCES)
    ∷ (nat_lt 268435456 (reach c), ENOSPC)
    ∷ finishing_rows s scene given c

-- UNLINK
abbrev pub journal_unlink_rows : Served → Scene → List Row
journal_unlink_rows s scene =
    (scene.is_broken, EIO)
    ∷ (is_active s.journal.file && is_replica scene.role, EROFS)
    ∷ (is_active s.journal.file && not (may_write_journal s.locks scene.session None), EACCES)
    ∷ finishing_rows s scene None call.Unlink

-- the change that a call commits, if it does: where it ends a transaction that has written pages, the change that leads from the
-- committed image to the database file, cut to its header's size. A file that is the image commits nothing
pub record JournalCommits (told : Option DatabaseImage) (s : Served) (scene : Scene) (c : JournalCall) (change : Option PageChange) : Type 0 where
  pub nothing : ends_writing s c ≡ false → change ≡ None
  pub of_the_image : is_clean s.database ≡ true → change ≡ None
  pub leads : ends_writing s c ≡ true → IfSome told (λ i. KeepsDifferences s.database i → LeadsTo i (committed_image s.database i) change)
  pub is : ends_writing s c ≡ true → IfSome change (IsChangeOf s.database scene.page_size scene.commit)

-- the files after a call that is done: one that ends a transaction leaves no uncommitted pages
abbrev pub after_journal_call : Served → JournalCall → Served
after_journal_call s c =
    if ends_writing s c
    then record s { journal = called s.journal c; database = clean s.database; writer = None }
    else record s { journal = called s.journal c }

-- what a call does: it is done where it commits nothing; else it waits for its commit, and all else stays
abbrev pub JournalDone : Option DatabaseImage → Served → Scene → JournalCall → Option PageChange → Served → Type 0
JournalDone told old scene c None new = JournalCommits told old scene c None × (new ≡ after_journal_call old c)
JournalDone told old scene c (Some change) new = JournalCommits told old scene c (Some change) × (new ≡ record old { journal = holding old.journal c })
