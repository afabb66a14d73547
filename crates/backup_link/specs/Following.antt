-- The frames of a stream, one after another.
use Rattle.std.specs.Prelude.{◌≡◌, ℕ, List, [], ◌∷◌, ◌++◌, Bool, Result, Ok, Err}
use Rattle.std.specs.Io.KnownBytes.{IsAtEnd}
use Rattle.lf_base.specs.declared.link.Link.{Ghosts as LinkGhosts}
use Rattle.http_exchange.specs.Reading.{Gave}
use Rattle.ltx_codec.specs.declared.file.Ltx.{Ltx}
use Rattle.backup_link.specs.Endings.{of_backup}
use Rattle.backup_link.specs.Fetching.{AreFileFrames, EndsStream, IsFileFrame}
use Rattle.backup_link.specs.Keeping.{ButForDisk}
use Rattle.backup_link.specs.declared.unfetched.Unfetched.{Unfetched}

-- how a stream ended at a frame that adds nothing
abbrev pub ended_by : Result Bool Unfetched → Result (Unit {0}) Unfetched
ended_by (Ok level) = Ok tt
ended_by (Err why) = Err why

-- the frame of one file more was read, and the file is kept
pub record AddsNext {L : Type 0} (l : LinkGhosts L) (name : List ℕ) (old new : L) (ahead ahead_now : List ℕ) (Keep : List Ltx → Type 0) : Type 0 where
  pub more : List ℕ
  pub text : List ℕ
  pub file : Ltx
  pub gave : Gave l old new more
  pub next : ahead ++ more ≡ text ++ ahead_now
  pub is : IsFileFrame name text file
  pub kept : Keep (file ∷ [])

-- the stream ended there, and this is kept, but after a disk's failure
pub record GaveLast {L : Type 0} (l : LinkGhosts L) (name : List ℕ) (old new : L) (ahead : List ℕ) (kept : Type 0) (result : Result (Unit {0}) Unfetched) : Type 0 where
  pub more : List ℕ
  pub gave : Gave l old new more
  pub ends : EndsStream name (ahead ++ more) (IsAtEnd (l.left new)) result
  pub keeps : ButForDisk (of_backup result) kept

-- the frames of files were read, which are kept, and then the stream ended
pub record Follows {L : Type 0} (l : LinkGhosts L) (name : List ℕ) (old new : L) (ahead : List ℕ) (Keep : List Ltx → Type 0)
    (result : Result (Unit {0}) Unfetched) : Type 0 where
  pub more : List ℕ
  pub text : List ℕ
  pub rest : List ℕ
  pub files : List Ltx
  pub gave : Gave l old new more
  pub split : ahead ++ more ≡ text ++ rest
  pub frames : AreFileFrames name files text
  pub ends : EndsStream name rest (IsAtEnd (l.left new)) result
  pub kept : Keep files
