-- What stands once no rule refuses a write to the log, and what a trial of it tells. No public clause cites these.
use Rattle.std.specs.Prelude.{◌≡◌, ℕ, ◌+◌, Bool, false, not, ◌&&◌, ◌||◌, is_some, nat_lt, Option, Some, None, List, [], ◌∷◌, length}
use Rattle.byte_locks.specs.declared.lock_id.LockId.TheVariants as lock
use Rattle.database_file.specs.DatabaseFile.{is_clean}
use Rattle.database_under_log.specs.declared.fault.LogWriteFault.{LogWriteFault}
use Rattle.database_under_log.specs.declared.fault.LogWriteFault.TheVariants as write
use Rattle.lf_base.specs.FileBytes.{written}
use Rattle.lf_sqlite_pages.specs.Change.{PageChange}
use Rattle.lf_sqlite_pages.specs.LockPage.{is_past_limit}
use Rattle.journal_watch.specs.Journal.{is_active}
use Rattle.wal_watch.specs.declared.fault.WalFault.TheVariants as wal
use Rattle.file_view.specs.declared.fault.ViewFault.{ViewFault}
use Rattle.file_view.specs.declared.fault.ViewFault.TheVariants as fault
use Rattle.file_view.specs.declared.view.Scene.{Scene}
use Rattle.file_view.specs.Acting.{writes}
use Rattle.file_view.specs.Errno.{EPERM, EIO, EACCES, EINVAL, EFBIG, ENOSPC, EROFS}
use Rattle.file_view.specs.FileFaults.{IsFault}
use Rattle.file_view.specs.LogRules.{breaks_header, changes_committed, changes_header, log_after}
use Rattle.file_view.specs.Refusal.{Row}
use Rattle.file_view.specs.Roles.{is_replica}
use Rattle.file_view.specs.Served.{Served, log_contents}

-- what is refused whatever the log holds
abbrev pub log_owner_rows : Served → Scene → Option ℕ → List Row
log_owner_rows s scene given =
    (scene.is_broken, EIO)
    ∷ (is_replica scene.role, EROFS)
    ∷ (is_active s.journal.file || is_some s.writer, EACCES)
    ∷ (not (writes s.locks scene.session given lock.Write), EACCES)
    ∷ []

-- what the log itself refuses
abbrev pub log_own_rows : List ℕ → ℕ → ℕ → List ℕ → List Row
log_own_rows contents page_size at bytes =
    (nat_lt 268435456 (at + length bytes), ENOSPC)
    ∷ (breaks_header page_size at bytes (written at bytes contents), EINVAL)
    ∷ (changes_committed contents (written at bytes contents), EPERM)
    ∷ []

-- whether a write leaves another header over a file that isn't the committed image
abbrev pub begins_anew : Served → ℕ → List ℕ → Bool
begins_anew s at bytes = changes_header (log_contents s) (log_after s at bytes) && not (is_clean s.database)

-- whether a change makes a database past the limit
abbrev pub makes_too_many : Option PageChange → Bool
makes_too_many None = false
makes_too_many (Some change) = is_past_limit change.page_size change.commit

-- a fault of a write to the log as one of a request
abbrev pub IsLogFault : LogWriteFault → ViewFault → Type 0
IsLogFault (write.Log wal.TooLong) f = f ≡ fault.Errno ENOSPC
IsLogFault (write.Log wal.Header) f = f ≡ fault.Errno EINVAL
IsLogFault (write.Log wal.Part) f = f ≡ fault.Errno EPERM
IsLogFault (write.Log wal.NoMemory) f = f ≡ fault.NoMemory
IsLogFault write.TooManyPages f = f ≡ fault.Errno EFBIG
IsLogFault (write.File cause) f = IsFault cause f
