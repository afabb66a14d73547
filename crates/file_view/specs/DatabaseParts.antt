-- What stands once no rule refuses a change of the database file. No public clause cites these.
use Rattle.std.specs.Prelude.{◌≡◌, ℕ, ◌/◌, ◌<◌, ◌^◌, true, false, None, IsSome, List}
use Rattle.byte_locks.specs.declared.lock_id.LockId.TheVariants as lock
use Rattle.byte_locks.specs.LockList.{writer_of}
use Rattle.database_file.specs.Writing.{AreDataPages, TakesPages}
use Rattle.journal_watch.specs.Journal.{is_active}
use Rattle.file_view.specs.declared.view.Scene.{Scene}
use Rattle.file_view.specs.DatabaseRules.{first_page, resizes}
use Rattle.file_view.specs.Served.{Served, has_committed_frames}

-- while a journal is active there is an owner of EXCLUSIVE, and none is torn; else the log has committed frames. No write to the
-- log waits
pub record IsOwned (s : Served) : Type 0 where
  pub owned : is_active s.journal.file ≡ true → IsSome (writer_of s.locks lock.Shared)
  pub whole : is_active s.journal.file ≡ true → s.torn ≡ None
  pub framed : is_active s.journal.file ≡ false → has_committed_frames s ≡ true
  pub free : s.held_write ≡ None

-- a write of whole data pages that the file takes
pub record MayWrite (s : Served) (scene : Scene) (place : ℕ) (bytes : List ℕ) (size : ℕ) : Type 0 where
  pub takes : TakesPages s.database scene.page_size scene.commit size
  pub pages : AreDataPages size (first_page size place) bytes
  pub owned : IsOwned s

-- a resize to a size that the file takes
pub record MayResize (s : Served) (scene : Scene) (len size : ℕ) : Type 0 where
  pub takes : TakesPages s.database scene.page_size scene.commit size
  pub small : len / size < 2 ^ 31
  pub owned : resizes s scene (len / size) ≡ true → IsOwned s
