-- What the parts of a `-shm` file keep between its calls.
use Rattle.std.specs.Prelude.{◌≡◌, true, false, Some, None, [], if◌then◌else◌}
use Rattle.lf_sqlite_pages.specs.Blocks.{IsWithin}
use Rattle.shm_index.specs.Shared.{Shared}
use Rattle.shm_index.specs.declared.file.SharedMemory.TheInside.{Inside}

-- the file that the parts stand for
abbrev pub shared_of : Inside → Shared
shared_of s = record { file = if s.exists then Some s.blocks.bytes else None; last_change = s.last_change }

-- an absent file has no bytes, and a file has the room for its index
pub record IsKept (s : Inside) : Type 0 where
  pub absent : s.exists ≡ false → s.blocks.bytes ≡ []
  pub room : s.exists ≡ true → IsWithin s.blocks.room 0 136
