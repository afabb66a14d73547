-- A backup after a file was added.
use Rattle.std.proofs.Common.{◌≡◌, ◌≢◌, ◌∙◌, ◌⊎◌, inl, inr, ℕ, Bool, true, false, List, [], ◌∷◌, ◌++◌, Err, refl, sym, ap, subst, arith, eq-eqb}
use Rattle.std.specs.Prelude.{◌==◌, if◌then◌else◌}
use Rattle.std.proofs.lemmas.Bool.Decides.{nat_tests}
use Rattle.lf_base.specs.declared.pos.Pos.{Pos}
use Rattle.lf_disk.specs.declared.name.FileName.TheVariants.{Staged, Snapshot, Ltx as LtxName}
use Rattle.lf_disk.specs.Folder.{Folder, SameBut}
use Rattle.lf_disk.specs.History.{History, now, EachMoment}
use Rattle.lf_disk.specs.Publish.{IsOldOrPublished, IsPublished, with_bytes}
use Rattle.lf_disk.proofs.Moments.{started}
use Rattle.ltx_codec.specs.Format.{IsLtx}
use Rattle.ltx_codec.specs.Positions.{before, after, nowhere}
use Rattle.ltx_codec.specs.declared.file.Ltx.{Ltx}
use Rattle.ltx_backup.specs.Adding.{HoldsEither, Adds, Breaks}
use Rattle.ltx_backup.specs.Causes.{IsBlameless}
use Rattle.ltx_backup.specs.Entries.{entry_of, IsKept}
use Rattle.ltx_backup.specs.Finishing.{AllNamed, Waits, HoldsOnly}
use Rattle.ltx_backup.specs.Levels.{Levels, chain, LeadOn, end_of, HasPast, Holds, only_low}
use Rattle.ltx_backup.specs.Stops.{Stops}
use Rattle.ltx_backup.specs.Stored.{stored, added}
use Rattle.ltx_backup.specs.declared.entry.Entry.{Entry}
use Rattle.ltx_backup.specs.declared.entry.Index.{Index}
use Rattle.ltx_backup.specs.declared.fault.BackupFault.{BackupFault}
use Rattle.ltx_backup.specs.declared.fault.BackupFault.TheVariants as fault
use Rattle.ltx_backup.proofs.Appends.{named_by, has_more}
use Rattle.ltx_backup.proofs.Holding.{has_higher, has_same, holds_same, kept_holds, lead_join, end_join}
use Rattle.ltx_backup.proofs.Judges.{entries_join}
use Rattle.ltx_backup.proofs.Turns.{apart, weaker, and_then}
use Rattle.ltx_backup.proofs.Unique.{lead_lows, grouped}

-- what is added
pub added_first : (levels : Levels) (file : Ltx) → file.header.min ≡ 1 → added levels file ≡ only_low file
added_first levels file first =
    ap (λ (x : Bool). if x then only_low file else record levels { lows = levels.lows ++ file ∷ [] }) (eq-eqb file.header.min 1 first)

pub added_later : (levels : Levels) (file : Ltx) → file.header.min ≢ 1 → added levels file ≡ record levels { lows = levels.lows ++ file ∷ [] }
added_later levels file later =
    let isnt : (file.header.min == 1) ≡ false = grind (arith, nat_tests) in
    ap (λ (x : Bool). if x then only_low file else record levels { lows = levels.lows ++ file ∷ [] }) isnt

-- a file that isn't the first begins at the end
pub at_the_end : (file : Ltx) (end : Pos) → file.header.min ≢ 1 → (file.header.min ≡ 1) ⊎ (before file ≡ end) → before file ≡ end
at_the_end file end later (inl first) = absurd (later first)
at_the_end file end later (inr joins) = joins

pub breaks_by : (T : Type 0) (was now : Bool) (why : BackupFault) → was ≡ false → (why ≡ fault.Disk → now ≡ true) → (why ≢ fault.Disk → now ≡ false) → Breaks {T = T} was (Err why) now
breaks_by T was now fault.Disk sound disk other = disk refl
breaks_by T was now fault.Broken sound disk other = other (λ is. absurd (cc)) ∙ sym sound
breaks_by T was now (fault.NotNext have want) sound disk other = other (λ is. absurd (cc)) ∙ sym sound
breaks_by T was now (fault.NoSuchTxid txid last) sound disk other = other (λ is. absurd (cc)) ∙ sym sound
breaks_by T was now (fault.SumDiffers want got) sound disk other = other (λ is. absurd (cc)) ∙ sym sound
breaks_by T was now (fault.Damaged level a b) sound disk other = other (λ is. absurd (cc)) ∙ sym sound
breaks_by T was now fault.NoMemory sound disk other = other (λ is. absurd (cc)) ∙ sym sound

pub adds_by : (broken : Bool) (end : Pos) (file : Ltx) (why : BackupFault) → broken ≡ false → IsBlameless why → Adds broken end file (Err why)
adds_by broken end file fault.Disk sound blameless = sound
adds_by broken end file fault.Broken sound blameless = absurd blameless
adds_by broken end file (fault.NotNext have want) sound blameless = absurd blameless
adds_by broken end file (fault.NoSuchTxid txid last) sound blameless = absurd blameless
adds_by broken end file (fault.SumDiffers want got) sound blameless = absurd blameless
adds_by broken end file (fault.Damaged level a b) sound blameless = absurd blameless
adds_by broken end file fault.NoMemory sound blameless = sound

-- the files of what is kept have their entries
pub kept_named : (levels : Levels) (index : Index) (l m h : History) → IsKept levels index l m h → AllNamed index.entries (now l) (now m) (now h)
kept_named levels index l m h kept = record {
  lows = named_by index.entries.lows.items levels.lows (now l) kept.lows.entries_are kept.lows.has;
  middles = named_by index.entries.middles.items levels.middles (now m) kept.middles.entries_are kept.middles.has;
  highs = named_by index.entries.highs.items levels.highs (now h) kept.highs.entries_are kept.highs.has;
}

module _ (levels : Levels) (index : Index) (l m h : History) (kept : IsKept levels index l m h) where
  pub held_same : (a b c : Folder) → SameBut Staged (now l) a → SameBut Staged (now m) b → SameBut Staged (now h) c → Holds levels a b c
  held_same a b c low middle high = holds_same levels (now l) (now m) (now h) a b c low middle high (kept_holds levels index l m h kept)

  -- the other two disks stand
  pub one_disk : (l_now : History) (A : Folder → Type 0) (Q : Folder → Folder → Folder → Type 0) → EachMoment l l_now A
      → ((a b c : Folder) → A a → SameBut Staged (now m) b → SameBut Staged (now h) c → Q a b c) → Stops l m h l_now m h Q
  one_disk l_now A Q runs follows =
      weaker l m h l_now m h (λ a b c. A a × SameBut Staged (now m) b × SameBut Staged (now h) c) Q (λ a b c all. follows a b c all.0 all.1 all.2)
      (apart l m h l_now m h A (SameBut Staged (now m)) (SameBut Staged (now h)) runs
      (started m (SameBut Staged (now m)) kept.middles.settled) (started h (SameBut Staged (now h)) kept.highs.settled))

  -- nothing was done
  pub standing_stops : (other : Levels) → Stops l m h l m h (HoldsEither levels other)
  standing_stops other =
      one_disk l (SameBut Staged (now l)) (HoldsEither levels other) (started l (SameBut Staged (now l)) kept.lows.settled)
      (λ a b c low middle high. inl (held_same a b c low middle high))

  module _ (file : Ltx) (is : IsLtx (stored file) file) (joins : before file ≡ index.end) where
    at_end : before file ≡ end_of (end_of nowhere (levels.highs ++ levels.middles)) levels.lows
    at_end =
        joins ∙ kept.end ∙ end_join nowhere (levels.highs ++ levels.middles) levels.lows

    chain_more : chain (record levels { lows = levels.lows ++ file ∷ [] }) ≡ chain levels ++ file ∷ []
    chain_more =
        sym (grouped (levels.highs ++ levels.middles) levels.lows (file ∷ []))

    joined_more : LeadOn nowhere (chain (record levels { lows = levels.lows ++ file ∷ [] }))
    joined_more = subst (λ (xs : List Ltx). LeadOn nowhere xs) (sym chain_more) (lead_join nowhere (chain levels) (file ∷ []) kept.joined (joins ∙ kept.end, tt))

    lows_more : (n : ℕ) (g : Folder) → SameBut Staged (with_bytes (LtxName file.header.min file.header.max) (stored file) (now l)) g → HasPast n (levels.lows ++ file ∷ []) g
    lows_more n g same = has_more (now l) g file is same n (end_of nowhere (levels.highs ++ levels.middles)) levels.lows (has_higher 0 n levels.lows (now l) (omega arith) kept.lows.has) (lead_lows levels kept.joined) at_end

    held_more : (a b c : Folder) → SameBut Staged (with_bytes (LtxName file.header.min file.header.max) (stored file) (now l)) a → SameBut Staged (now m) b → SameBut Staged (now h) c
        → Holds (record levels { lows = levels.lows ++ file ∷ [] }) a b c
    held_more a b c low middle high = inl (record {
      no_snapshot = low Snapshot refl ∙ kept.no_snapshot;
      highs = has_same 0 levels.highs (now h) c (λ x y. high (LtxName x y) refl) kept.highs.has;
      middles = has_higher 0 _ levels.middles b (omega arith) (has_same 0 levels.middles (now m) b (λ x y. middle (LtxName x y) refl) kept.middles.has);
      lows = lows_more _ a low;
      joined = joined_more;
    })

    pub appended_stops : (l_now : History) → EachMoment l l_now (IsOldOrPublished (now l) (LtxName file.header.min file.header.max) (stored file))
        → Stops l m h l_now m h (HoldsEither levels (record levels { lows = levels.lows ++ file ∷ [] }))
    appended_stops l_now runs =
        one_disk l_now (IsOldOrPublished (now l) (LtxName file.header.min file.header.max) (stored file)) _ runs
        (λ a b c low middle high. elim low [
          | inl old ↦ inl (held_same a b c old middle high)
          | inr there ↦ inr (held_more a b c there middle high)
        ])

    pub appended_kept : (index_now : Index) (l_now : History) → IsPublished (now l) (LtxName file.header.min file.header.max) (stored file) l_now
        → index_now.entries.lows.items ≡ index.entries.lows.items ++ entry_of file ∷ [] → index_now.entries.middles.items ≡ index.entries.middles.items
        → index_now.entries.highs.items ≡ index.entries.highs.items → index_now.end ≡ after file → IsKept (record levels { lows = levels.lows ++ file ∷ [] }) index_now l_now m h
    appended_kept index_now l_now there lows middles highs end = record {
      lows = record {
        entries_are = lows ∙ ap (λ (es : List Entry). es ++ entry_of file ∷ []) kept.lows.entries_are ∙ sym (entries_join levels.lows (file ∷ []));
        has = lows_more 0 (now l_now) there.seen;
        settled = there.settled;
      };
      middles = record { entries_are = middles ∙ kept.middles.entries_are; has = kept.middles.has; settled = kept.middles.settled };
      highs = record { entries_are = highs ∙ kept.highs.entries_are; has = kept.highs.has; settled = kept.highs.settled };
      no_snapshot = there.seen Snapshot refl ∙ kept.no_snapshot;
      joined = joined_more;
      end = end ∙ sym (ap (λ (xs : List Ltx). end_of nowhere xs) chain_more ∙ end_join nowhere (chain levels) (file ∷ []));
    }

  -- a snapshot takes the place of all
  module _ (file : Ltx) (entry : Entry) (is : IsLtx (stored file) file) (first : file.header.min ≡ 1) (entry_is : entry ≡ entry_of file) where
    pub published_stops : (l_now : History) → EachMoment l l_now (IsOldOrPublished (now l) Snapshot (stored file)) → Stops l m h l_now m h (HoldsEither levels (only_low file))
    published_stops l_now runs =
        one_disk l_now (IsOldOrPublished (now l) Snapshot (stored file)) _ runs
        (λ a b c low middle high. elim low [
          | inl old ↦ inl (held_same a b c old middle high)
          | inr there ↦ inr (inr (record { file = file; encoding = stored file; there = there Snapshot refl; is = is; first = first; alone = refl }))
        ])

    pub waits_now : (l_now : History) → IsPublished (now l) Snapshot (stored file) l_now → Waits file entry (now l_now)
    waits_now l_now there = record { encoding = stored file; there = there.seen Snapshot refl; is = is; first = first; entry_is = entry_is }

    pub named_now : (l_now : History) → IsPublished (now l) Snapshot (stored file) l_now → AllNamed index.entries (now l_now) (now m) (now h)
    named_now l_now there = record {
      lows = named_by index.entries.lows.items levels.lows (now l_now) kept.lows.entries_are (has_same 0 levels.lows (now l) (now l_now) (λ x y. there.seen (LtxName x y) refl) kept.lows.has);
      middles = named_by index.entries.middles.items levels.middles (now m) kept.middles.entries_are kept.middles.has;
      highs = named_by index.entries.highs.items levels.highs (now h) kept.highs.entries_are kept.highs.has;
    }

    pub installed_stops : (l_mid l_now m_now h_now : History) → EachMoment l l_mid (IsOldOrPublished (now l) Snapshot (stored file))
        → Stops l_mid m h l_now m_now h_now (HoldsOnly file) → Stops l m h l_now m_now h_now (HoldsEither levels (only_low file))
    installed_stops l_mid l_now m_now h_now runs rest =
        and_then l m h l_mid m h l_now m_now h_now (HoldsEither levels (only_low file)) (published_stops l_mid runs)
        (weaker l_mid m h l_now m_now h_now (HoldsOnly file) (HoldsEither levels (only_low file)) (λ a b c only. inr only) rest)
