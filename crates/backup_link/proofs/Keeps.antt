-- Files that are kept, one after another.
use Rattle.std.proofs.Common.{◌≡◌, List, [], ◌∷◌, ◌++◌, Result, Ok, Err, refl, sym, ◌∙◌, subst}
use Rattle.lf_disk.specs.History.{History}
use Rattle.ltx_codec.specs.declared.file.Ltx.{Ltx}
use Rattle.ltx_backup.specs.Entries.{IsKept, SameIndex}
use Rattle.ltx_backup.specs.Levels.{Levels}
use Rattle.ltx_backup.specs.Stored.{added}
use Rattle.ltx_backup.specs.declared.entry.Index.{Index}
use Rattle.ltx_backup.specs.declared.fault.BackupFault.{BackupFault}
use Rattle.ltx_backup.specs.declared.fault.BackupFault.TheVariants as fault
use Rattle.backup_link.specs.Keeping.{ButForDisk, KeepsAdded, Shelf, all_added}

pub all_added-append : (levels : Levels) (files : List Ltx) (file : Ltx) → all_added levels (files ++ file ∷ []) ≡ added (all_added levels files) file
all_added-append levels [] file = refl
all_added-append levels (first ∷ files) file = all_added-append (added levels first) files file

-- nothing was added
pub keeps_none : (honest : Type 0) (shelf : Shelf) → KeepsAdded honest shelf shelf []
keeps_none honest shelf h levels kept = kept

-- one file more, by disks that are as honest as they were
pub keeps_next : (honest honest_then : Type 0) (a b c : Shelf) (files : List Ltx) (file : Ltx) → (honest → honest_then) → KeepsAdded honest a b files
    → KeepsAdded honest_then b c (file ∷ []) → KeepsAdded honest a c (files ++ file ∷ [])
keeps_next honest honest_then a b c files file still first next h levels kept =
    subst (λ (l : Levels). IsKept l c.index c.low c.middle c.high) (sym (all_added-append levels files file)) (next (still h) (all_added levels files) (first h levels kept))

-- and none more
pub keeps_last : (honest honest_then : Type 0) (a b c : Shelf) (files : List Ltx) → (honest → honest_then) → KeepsAdded honest a b files → KeepsAdded honest_then b c []
    → KeepsAdded honest a c files
keeps_last honest honest_then a b c files still first next h levels kept = next (still h) (all_added levels files) (first h levels kept)

-- an index that is the same
pub kept_same : (levels : Levels) (old new : Index) (low middle high : History) → SameIndex old new → IsKept levels old low middle high → IsKept levels new low middle high
kept_same levels old new low middle high same kept = record {
  lows = record { entries_are = same.lows ∙ kept.lows.entries_are; has = kept.lows.has; settled = kept.lows.settled };
  middles = record { entries_are = same.middles ∙ kept.middles.entries_are; has = kept.middles.has; settled = kept.middles.settled };
  highs = record { entries_are = same.highs ∙ kept.highs.entries_are; has = kept.highs.has; settled = kept.highs.settled };
  no_snapshot = kept.no_snapshot;
  joined = kept.joined;
  end = same.end ∙ kept.end;
}

-- a fact that holds, but for a disk's failure
pub but_for_disk : {T : Type 0} (result : Result T BackupFault) (fact other : Type 0) → (fact → other) → ButForDisk result fact → ButForDisk result other
but_for_disk (Ok x) fact other goes h = goes h
but_for_disk (Err fault.Disk) fact other goes h = tt
but_for_disk (Err fault.Broken) fact other goes h = goes h
but_for_disk (Err (fault.NotNext have want)) fact other goes h = goes h
but_for_disk (Err (fault.NoSuchTxid txid last)) fact other goes h = goes h
but_for_disk (Err (fault.SumDiffers want got)) fact other goes h = goes h
but_for_disk (Err (fault.Damaged at min max)) fact other goes h = goes h
but_for_disk (Err fault.NoMemory) fact other goes h = goes h
