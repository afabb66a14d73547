-- A compaction that is refused leaves what was kept.
use Rattle.std.proofs.Common.{◌≡◌, ◌≢◌, ◌∙◌, inl, inr, ℕ, ◌+◌, false, List, Ok, Err, subst, arith}
use Rattle.lf_disk.specs.History.{History}
use Rattle.ltx_codec.specs.declared.file.Ltx.{Ltx}
use Rattle.ltx_backup.specs.Entries.{IsKept, SameIndex}
use Rattle.ltx_backup.specs.Folding.{IsDue}
use Rattle.ltx_backup.specs.Levels.{Levels}
use Rattle.ltx_backup.specs.Moving.{IsUnfolded}
use Rattle.ltx_backup.specs.Settling.{Settles, KeepsSettled, FoldsOnce, GoesOn, HasSettled}
use Rattle.ltx_backup.specs.declared.entry.Index.{Index}
use Rattle.ltx_backup.specs.declared.fault.BackupFault.{BackupFault}
use Rattle.ltx_backup.specs.declared.fault.BackupFault.TheVariants as fault
use Rattle.ltx_backup.proofs.Settlings.{settles_join}

pub kept_index : (levels : Levels) (index index_now : Index) (l m h : History) → IsKept levels index l m h → SameIndex index index_now → IsKept levels index_now l m h
kept_index levels index index_now l m h kept same = record {
  lows = record { entries_are = same.lows ∙ kept.lows.entries_are; has = kept.lows.has; settled = kept.lows.settled };
  middles = record { entries_are = same.middles ∙ kept.middles.entries_are; has = kept.middles.has; settled = kept.middles.settled };
  highs = record { entries_are = same.highs ∙ kept.highs.entries_are; has = kept.highs.has; settled = kept.highs.settled };
  no_snapshot = kept.no_snapshot;
  joined = kept.joined;
  end = same.end ∙ kept.end;
}

module _ (old : Levels) (index : Index) (l m h : History) where
  pub once_refused : (T : Type 0) (files : List Ltx) (why : BackupFault) → (why ≢ fault.Disk → IsKept old index l m h) → IsUnfolded files why → FoldsOnce {T = T} files old (Err why) index l m h
  once_refused T files fault.Disk kept why = tt
  once_refused T files fault.Broken kept why = absurd why
  once_refused T files (fault.NotNext have want) kept why = absurd why
  once_refused T files (fault.NoSuchTxid txid last) kept why = absurd why
  once_refused T files (fault.SumDiffers want got) kept why = (kept (λ is. absurd (cc)), why)
  once_refused T files (fault.Damaged level a b) kept why = absurd why
  once_refused T files fault.NoMemory kept why = (kept (λ is. absurd (cc)), why)

  pub low_refused : (T : Type 0) (why : BackupFault) → IsDue old.lows → FoldsOnce {T = T} old.lows old (Err why) index l m h → GoesOn old (Err why) index l m h
  low_refused T fault.Disk due once = tt
  low_refused T fault.Broken due once = (once.0, inl (due, once.1))
  low_refused T (fault.NotNext have want) due once = (once.0, inl (due, once.1))
  low_refused T (fault.NoSuchTxid txid last) due once = (once.0, inl (due, once.1))
  low_refused T (fault.SumDiffers want got) due once = (once.0, inl (due, once.1))
  low_refused T (fault.Damaged level a b) due once = (once.0, inl (due, once.1))
  low_refused T fault.NoMemory due once = (once.0, inl (due, once.1))

  pub middle_refused : (T : Type 0) (why : BackupFault) → (IsDue old.lows → ⊥) → IsDue old.middles → FoldsOnce {T = T} old.middles old (Err why) index l m h → GoesOn old (Err why) index l m h
  middle_refused T fault.Disk not due once = tt
  middle_refused T fault.Broken not due once = (once.0, inr (not, due, once.1))
  middle_refused T (fault.NotNext have want) not due once = (once.0, inr (not, due, once.1))
  middle_refused T (fault.NoSuchTxid txid last) not due once = (once.0, inr (not, due, once.1))
  middle_refused T (fault.SumDiffers want got) not due once = (once.0, inr (not, due, once.1))
  middle_refused T (fault.Damaged level a b) not due once = (once.0, inr (not, due, once.1))
  middle_refused T fault.NoMemory not due once = (once.0, inr (not, due, once.1))

  module _ (first : Levels) (count : ℕ) (settles : Settles count first old) where
    abbrev keeps : IsKept old index l m h → KeepsSettled count first index l m h
    keeps kept = record { levels = old; settles = settles; kept = kept }

    -- none is due any more, or the next one is refused
    pub has_ended : GoesOn old (Ok false) index l m h → HasSettled first (Ok count) index l m h
    has_ended on = (record { levels = old; settles = settles; kept = on.0 }, on.1)

    pub has_refused : (why : BackupFault) → GoesOn old (Err why) index l m h → HasSettled first (Err why) index l m h
    has_refused fault.Disk on = tt
    has_refused fault.Broken on = (count, keeps on.0, on.1)
    has_refused (fault.NotNext have want) on = (count, keeps on.0, on.1)
    has_refused (fault.NoSuchTxid txid last) on = (count, keeps on.0, on.1)
    has_refused (fault.SumDiffers want got) on = (count, keeps on.0, on.1)
    has_refused (fault.Damaged level a b) on = (count, keeps on.0, on.1)
    has_refused fault.NoMemory on = (count, keeps on.0, on.1)

    -- one compaction more
    pub one_more : KeepsSettled 1 old index l m h → KeepsSettled (count + 1) first index l m h
    one_more once =
        let more : 1 + count ≡ count + 1 = omega arith in
        record { levels = once.levels; settles = subst (λ (n : ℕ). Settles n first once.levels) more (settles_join count 1 first old once.levels settles once.settles); kept = once.kept }
