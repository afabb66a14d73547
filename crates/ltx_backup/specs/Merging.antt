-- Why files don't become one.
use Rattle.std.specs.Prelude.{◌≡◌, ◌≢◌, List}
use Rattle.ltx_codec.specs.Sums.{sum_of_writes}
use Rattle.ltx_codec.specs.declared.file.Ltx.{Ltx}
use Rattle.ltx_compact.specs.Compaction.{Compacts}
use Rattle.ltx_compact.specs.Joining.{AllJoin}
use Rattle.ltx_backup.specs.declared.fault.BackupFault.{BackupFault}
use Rattle.ltx_backup.specs.declared.fault.BackupFault.TheVariants as fault

-- a file from the first transaction on says another sum than its pages have
abbrev pub IsWrongSum : Ltx → BackupFault → Type 0
IsWrongSum file (fault.SumDiffers want got) =
    (file.header.min ≡ 1) × (want ≡ file.post) × (got ≡ sum_of_writes file.change.pages) × (want ≢ got)
IsWrongSum file _ = ⊥

-- files that don't join one another, or that say another sum than the one file's pages have
abbrev pub IsUnmerged : List Ltx → BackupFault → Type 0
IsUnmerged files (fault.SumDiffers want got) = (file : Ltx) × Compacts files file × IsWrongSum file (fault.SumDiffers want got)
IsUnmerged files (fault.Damaged level min max) = AllJoin files → ⊥
IsUnmerged files fault.NoMemory = Unit {0}
IsUnmerged files _ = ⊥
