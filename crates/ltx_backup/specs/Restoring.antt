-- What restoring to a transaction gives.
use Rattle.std.specs.Prelude.{◌≡◌, ◌≢◌, ◌⊎◌, ℕ, List, [], ◌∷◌, nat_le, if◌then◌else◌, Result, Ok, Err}
use Rattle.lf_sqlite_pages.specs.Apply.{Fits}
use Rattle.lf_sqlite_pages.specs.Image.{DatabaseImage, empty_image}
use Rattle.ltx_codec.specs.Sums.{image_sum}
use Rattle.ltx_codec.specs.Positions.{nowhere}
use Rattle.ltx_codec.specs.declared.file.Ltx.{Ltx}
use Rattle.ltx_compact.specs.Application.{apply_all, FitAll}
use Rattle.ltx_backup.specs.Levels.{Levels, chain, end_of, Has, on_level}
use Rattle.ltx_backup.specs.declared.fault.BackupFault.{BackupFault}
use Rattle.ltx_backup.specs.declared.fault.BackupFault.TheVariants as fault

-- the files whose last transaction is not past a number
abbrev pub up_to : ℕ → List Ltx → List Ltx
up_to txid [] = []
up_to txid (file ∷ files) = if nat_le file.header.max txid then file ∷ up_to txid files else up_to txid files

-- RESTORING to a number: the files up to it, applied in order to the empty image
abbrev pub restored : List Ltx → ℕ → DatabaseImage
restored files txid = apply_all empty_image (up_to txid files)

-- one of the files ends with a transaction, and with this sum
abbrev pub EndsWith : List Ltx → (txid sum : ℕ) → Type 0
EndsWith [] txid sum = ⊥
EndsWith (file ∷ files) txid sum = ((file.header.max ≡ txid) × (file.post ≡ sum)) ⊎ EndsWith files txid sum

-- of these files, applied in order to an image, the one of these numbers is the first that doesn't fit
abbrev pub IsFirstMisfit : DatabaseImage → List Ltx → (min max : ℕ) → Type 0
IsFirstMisfit image [] min max = ⊥
IsFirstMisfit image (file ∷ files) min max =
    ((file.header.min ≡ min) × (file.header.max ≡ max) × (Fits image file.change → ⊥))
    ⊎ Fits image file.change × IsFirstMisfit (apply_all image (file ∷ [])) files min max

-- what restoring answers: of an open backup, by the files of its chain
abbrev pub Restores : Levels → ℕ → Result DatabaseImage BackupFault → Type 0
Restores levels txid (Ok image) =
    (image ≡ restored (chain levels) txid) × FitAll empty_image (up_to txid (chain levels)) × EndsWith (chain levels) txid (image_sum image)
Restores levels txid (Err (fault.NoSuchTxid asked last)) =
    (asked ≡ txid) × (last ≡ (end_of nowhere (chain levels)).txid) × ((sum : ℕ) → EndsWith (chain levels) txid sum → ⊥)
Restores levels txid (Err (fault.SumDiffers want got)) =
    EndsWith (chain levels) txid want × (got ≡ image_sum (restored (chain levels) txid)) × (want ≢ got)
Restores levels txid (Err (fault.Damaged level min max)) =
    IsFirstMisfit empty_image (up_to txid (chain levels)) min max × Has (on_level levels level) min max
Restores levels txid (Err (fault.NotNext have want)) = ⊥
Restores levels txid (Err fault.Broken) = ⊥
Restores levels txid (Err fault.Disk) = Unit {0}
Restores levels txid (Err fault.NoMemory) = Unit {0}
