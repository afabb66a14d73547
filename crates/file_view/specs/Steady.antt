-- What goes on as it was: the database at a replica while nobody writes, and what a request that waits will leave.
use Rattle.std.specs.Prelude.{◌≡◌, true, false, None}
use Rattle.database_file.specs.DatabaseFile.{clean}
use Rattle.file_view.specs.declared.requests.Plan.{Plan}
use Rattle.file_view.specs.declared.requests.Plan.TheVariants as plan
use Rattle.file_view.specs.Served.{Served, log_contents, has_committed_frames, waits}

-- nobody writes: there are no uncommitted pages, and no request waits
pub record IsQuiet (s : Served) : Type 0 where
  pub alone : s.writer ≡ None
  pub free : waits s ≡ false

-- whoever reads finds the same database: the file is as before, and so are the committed frames of the log
pub record SameDatabase (old new : Served) : Type 0 where
  pub file : new.database ≡ old.database
  pub frames : has_committed_frames old ≡ true → log_contents new ≡ log_contents old
  pub no_frames : has_committed_frames old ≡ false → has_committed_frames new ≡ false

-- a request commits nothing
abbrev pub CommitsNothing : Plan → Type 0
CommitsNothing (plan.Reply r) = Unit {0}
CommitsNothing plan.Silent = Unit {0}
CommitsNothing (plan.Commit r change) = ⊥

-- the request that waits goes on to wait, over the same log, and over the same file but for its uncommitted pages
pub record GoesOn (old new : Served) : Type 0 where
  pub call : new.journal.waiting ≡ old.journal.waiting
  pub write : new.held_write ≡ old.held_write
  pub log : log_contents new ≡ log_contents old
  pub file : clean new.database ≡ clean old.database
  pub alone : old.writer ≡ None → new.writer ≡ None
