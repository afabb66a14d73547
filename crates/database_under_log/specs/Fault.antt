-- Why a write to the log fails.
use Rattle.std.specs.Prelude.{ℕ, ◌<◌, ◌==◌, List, if◌then◌else◌}
use Rattle.lf_base.specs.FileBytes.{written}
use Rattle.lf_sqlite_pages.specs.LockPage.{IsWithinLimit}
use Rattle.wal_watch.specs.Frames.{page_size_in, committed_count}
use Rattle.wal_watch.specs.News.{first_new, last_size}
use Rattle.wal_watch.specs.Refusals.{IsSoundWrite, IsWriteFault}
use Rattle.database_file.specs.Fault.{HasCause}
use Rattle.database_under_log.specs.declared.fault.LogWriteFault.{LogWriteFault}
use Rattle.database_under_log.specs.declared.fault.LogWriteFault.TheVariants.{Log, TooManyPages, File}

-- the page size that the log's header has to state: the image's, or any where that has no pages
abbrev pub wanted_size : ℕ → ℕ → ℕ
wanted_size page_size commit = if commit == 0 then 0 else page_size

-- the step from one contents to another commits a database past the limit
pub record CommitsTooMany (old new : List ℕ) : Type 0 where
  pub commits : first_new old new < committed_count new
  pub many : IsWithinLimit (page_size_in new) (last_size new) → ⊥

-- the log refuses the write; nothing stands against it but the size of what it commits; or the file's own cause
abbrev pub HasWriteCause : List ℕ → ℕ → ℕ → List ℕ → ℕ → ℕ → LogWriteFault → Type 0
HasWriteCause contents page_size at bytes before after (Log fault) = IsWriteFault contents page_size at bytes fault
HasWriteCause contents page_size at bytes before after TooManyPages = IsSoundWrite contents page_size at bytes × CommitsTooMany contents (written at bytes contents)
HasWriteCause contents page_size at bytes before after (File fault) = HasCause before after fault

-- the same once the log has the new contents, for what is left to fail
abbrev pub HasCommitCause : List ℕ → ℕ → ℕ → LogWriteFault → Type 0
HasCommitCause new before after (Log fault) = ⊥
HasCommitCause new before after TooManyPages = IsWithinLimit (page_size_in new) (last_size new) → ⊥
HasCommitCause new before after (File fault) = HasCause before after fault
