-- Why the bytes of a frame are not added.
use Rattle.std.specs.Prelude.{ℕ, List, false, Err}
use Rattle.http_exchange.specs.declared.told.Untold.TheVariants as untold
use Rattle.lf_base.specs.declared.pos.Pos.{Pos}
use Rattle.ltx_backup.specs.Adding.{Adds}
use Rattle.ltx_codec.specs.Format.{IsLtx}
use Rattle.ltx_codec.specs.declared.file.Ltx.{Ltx}
use Rattle.backup_link.specs.declared.unfetched.Unfetched.{Unfetched}
use Rattle.backup_link.specs.declared.unfetched.Unfetched.TheVariants as unfetched

-- they are no file, or the backup refused it; or memory ran out
abbrev pub RefusesBytes : List ℕ → Unfetched → Type 0
RefusesBytes bytes (unfetched.Untold untold.Unfit) = (file : Ltx) → IsLtx bytes file → ⊥
RefusesBytes bytes (unfetched.Untold untold.NoMemory) = Unit {0}
RefusesBytes bytes (unfetched.Backup why) = (file : Ltx) × IsLtx bytes file × (end : Pos) × Adds false end file (Err why)
RefusesBytes bytes _ = ⊥
