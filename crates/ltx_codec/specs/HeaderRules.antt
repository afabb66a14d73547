-- The rules of the header's fields, as far as the bytes go.
use Rattle.std.specs.Prelude.{◌≡◌, ◌≢◌, ℕ, ◌≤◌, List, length, take}
use Rattle.lf_sqlite_pages.specs.PageSize.{IsPageSize}
use Rattle.lf_sqlite_pages.specs.LockPage.{IsWithinLimit}
use Rattle.ltx_codec.specs.Fields.{stated_flags, stated_page_size, stated_commit, stated_min, stated_max, stated_pre}
use Rattle.ltx_codec.specs.Format.{magic, IsFlagged}
use Rattle.ltx_codec.specs.declared.fault.LtxFault.{LtxFault}
use Rattle.ltx_codec.specs.declared.fault.LtxFault.TheVariants as fault

-- a field that ends at this byte is there, and among the first n bytes
pub record IsThere (bytes : List ℕ) (n field_end : ℕ) : Type 0 where
  pub within : field_end ≤ n
  pub there : field_end ≤ length bytes

-- the fields that are there among the first n bytes meet their rules
pub record HasSoundFields (bytes : List ℕ) (n : ℕ) : Type 0 where
  pub magic_is : IsThere bytes n 4 → take 4 bytes ≡ magic
  pub flags : IsThere bytes n 8 → stated_flags bytes ≡ 0
  pub page_size : IsThere bytes n 12 → IsPageSize (stated_page_size bytes)
  pub commit : IsThere bytes n 16 → IsWithinLimit (stated_page_size bytes) (stated_commit bytes)
  pub min : IsThere bytes n 24 → 1 ≤ stated_min bytes
  pub max : IsThere bytes n 32 → stated_min bytes ≤ stated_max bytes
  pub snapshot_pre : IsThere bytes n 48 → stated_min bytes ≡ 1 → stated_pre bytes ≡ 0
  pub delta_pre : IsThere bytes n 48 → stated_min bytes ≢ 1 → IsFlagged (stated_pre bytes)

-- a fault of the magic, the flags or the page size
abbrev pub IsOfStart : LtxFault → Type 0
IsOfStart fault.Magic = Unit {0}
IsOfStart fault.Compressed = Unit {0}
IsOfStart fault.UnknownFlags = Unit {0}
IsOfStart fault.PageSize = Unit {0}
IsOfStart _ = ⊥
