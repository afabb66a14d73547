-- A reply that is read and followed.
use Rattle.std.specs.Prelude.{ℕ, List, Result}
use Rattle.std.specs.Io.KnownBytes.{IsAtEnd}
use Rattle.lf_base.specs.declared.link.Link.{Ghosts as LinkGhosts}
use Rattle.http_exchange.specs.Reading.{Gave}
use Rattle.ltx_codec.specs.declared.file.Ltx.{Ltx}
use Rattle.backup_link.specs.Fetching.{EndsReply}
use Rattle.backup_link.specs.declared.unfetched.Unfetched.{Unfetched}

-- the bytes of a reply came, with these files, which are kept
pub record Replies {L : Type 0} (l : LinkGhosts L) (name : List ℕ) (old new : L) (Keep : List Ltx → Type 0) (result : Result (Unit {0}) Unfetched) : Type 0 where
  pub bytes : List ℕ
  pub files : List Ltx
  pub gave : Gave l old new bytes
  pub ends : EndsReply name bytes (IsAtEnd (l.left new)) files result
  pub kept : Keep files
