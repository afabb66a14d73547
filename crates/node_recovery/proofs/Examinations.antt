-- What the log tells is what the folder tells, where neither a snapshot nor a mark stands.
use Rattle.std.proofs.Common.{◌≡◌, inr, ℕ, true, false, List, [], ◌∷◌, Option, Some, None, Result, Ok, Err, refl, sym, subst}
use Rattle.std.specs.Prelude.{is_some, IfOk, IfErr}
use Rattle.lf_disk.specs.Folder.{Folder, bytes_of}
use Rattle.lf_disk.specs.declared.name.FileName.TheVariants.{Database, Snapshot, Dropped}
use Rattle.txn_log.specs.declared.entry.Entry.{Entry}
use Rattle.txn_log.specs.Kept.{file_of}
use Rattle.node_recovery.specs.declared.fault.RecoverFault.{RecoverFault}
use Rattle.node_recovery.specs.declared.fault.RecoverFault.TheVariants as fault
use Rattle.node_recovery.specs.declared.found.Decider.{Decider}
use Rattle.node_recovery.specs.declared.found.Decider.TheVariants as decider
use Rattle.node_recovery.specs.declared.found.Found.{Found}
use Rattle.node_recovery.specs.declared.tally.Tally.{Tally}
use Rattle.node_recovery.specs.declared.file_summary.FileSummary.{FileSummary}
use Rattle.node_recovery.specs.Agreeing.{IsSummed}
use Rattle.node_recovery.specs.Finding.{FindsBy, FindsIn, JudgesSnapshot, ExaminesLog, Examines}
use Rattle.node_recovery.specs.Listing.{AreListed}
use Rattle.node_recovery.specs.Outline.{entry_of}

pub none_there : (o : Option (List ℕ)) → is_some o ≡ false → o ≡ None
none_there None none = refl
none_there (Some x) none = let no : true ≡ false = none in absurd (cc)

module _ (names : List Entry) (f : Folder) (listed : AreListed names f) (no_snapshot : f Snapshot ≡ None) (no_mark : f Dropped ≡ None) where
  finds_by : (d : Decider) (entries : List Entry) (tally : Tally) → FindsIn names f d entries tally → FindsBy f d names entries tally
  finds_by (decider.Last outline) entries tally finds = record { no_snapshot = no_snapshot; no_mark = no_mark; entries_are = finds.0; read = finds.1; last_is = finds.2; summed = finds.3 }
  finds_by decider.Nothing entries tally finds = record { no_snapshot = no_snapshot; no_mark = no_mark; no_names = finds.0; no_entries = finds.1; no_pages = finds.2; no_bytes = finds.3 }
  finds_by (decider.Snapshot outline) entries tally finds = absurd finds
  finds_by decider.Mark entries tally finds = absurd finds

  pub examined : (result : Result Found RecoverFault) → ExaminesLog names f result → Examines f result
  examined (Ok found) is = record {
    names = subst (λ (ns : List Entry). AreListed ns f) (sym is.0) listed;
    by =
        subst (λ (ns : List Entry). FindsBy f found.decider ns found.entries.items found.tally) (sym is.0)
        (finds_by found.decider found.entries.items found.tally is.1);
  }
  examined (Err (fault.Damaged file want got)) is = inr (no_snapshot, no_mark, names, listed, is)
  examined (Err fault.Disk) is = tt
  examined (Err fault.NoMemory) is = tt

-- where a snapshot stands it decides, or memory ran out
module _ (names : List Entry) (f : Folder) (listed : AreListed names f) (there : is_some (f Snapshot) ≡ true) (read : FileSummary) (judges : JudgesSnapshot (bytes_of (f Snapshot)) (bytes_of (f Database)) (Ok read)) where
  pub found_decides : (result : Result Found RecoverFault)
      → IfOk result (λ found. (found.names.items ≡ names) × (found.decider ≡ decider.Snapshot read.outline) × (found.entries.items ≡ entry_of read.outline ∷ []) × (found.tally ≡ read.tally))
      → IfErr result (λ why. why ≡ fault.NoMemory) → Examines f result
  found_decides (Ok found) is full = record {
    names = subst (λ (ns : List Entry). AreListed ns f) (sym is.0) listed;
    by =
        subst (λ (d : Decider). FindsBy f d found.names.items found.entries.items found.tally) (sym is.1)
        record {
          there = there;
          read = judges.0;
          first = judges.1;
          entries_are = is.2;
          summed = subst (λ (t : Tally). IsSummed (file_of (bytes_of (f Snapshot))) (bytes_of (f Database)) t) (sym is.3) judges.2;
        };
  }
  found_decides (Err (fault.Damaged file want got)) is full = let no : fault.Damaged file want got ≡ fault.NoMemory = full in absurd (cc)
  found_decides (Err fault.Disk) is full = tt
  found_decides (Err fault.NoMemory) is full = tt
