-- The `-shm` file, with the last change number that it was given in an index header.
use Rattle.std.specs.Prelude.{ℕ, Bool, nat_le, Option, Some, None, List, [], length, unwrap_or}

-- the bytes, if the file is there
pub record Shared : Type 0 where
  pub file : Option (List ℕ)
  pub last_change : ℕ

-- no file
abbrev pub no_shared : Shared
no_shared = record { file = None; last_change = 0 }

-- the bytes, none where there is no file
abbrev pub bytes_of : Shared → List ℕ
bytes_of shared = unwrap_or shared.file []

-- the file with other bytes
abbrev pub with_bytes : Shared → List ℕ → Shared
with_bytes shared bytes = record { file = Some bytes; last_change = shared.last_change }

-- whether there is an index: the two headers, and what SQLite keeps of checkpoints and locks behind them (WAL-index format, section 2)
abbrev pub has_index : Shared → Bool
has_index shared = nat_le 136 (length (bytes_of shared))
