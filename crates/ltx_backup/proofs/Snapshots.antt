-- A snapshot that waits for its name is opened.
use Rattle.std.proofs.Common.{◌≡◌, ◌∙◌, inl, inr, ℕ, List, [], ◌∷◌, Option, None, Some, IsSome, refl, sym, ap, subst}
use Rattle.std.proofs.lemmas.Bool.{false≢true}
use Rattle.lf_base.specs.declared.pos.Pos.{Pos}
use Rattle.lf_disk.specs.declared.name.FileName.TheVariants.{Staged, Snapshot, Ltx as LtxName}
use Rattle.lf_disk.specs.Folder.{Folder, bytes_of}
use Rattle.lf_disk.specs.History.{History, now, Rests, IsSettledBut}
use Rattle.ltx_codec.specs.Format.{IsLtx}
use Rattle.ltx_codec.specs.Positions.{before, after, nowhere}
use Rattle.ltx_codec.specs.declared.file.Ltx.{Ltx}
use Rattle.ltx_backup.specs.Entries.{entry_of, IsKept}
use Rattle.ltx_backup.specs.Finishing.{AllNamed, Waits, IsAlone, HoldsOnly}
use Rattle.ltx_backup.specs.Levels.{Levels, Holds, only_low}
use Rattle.ltx_backup.specs.Opening.{AllListed, FindsSnapshot, IsNoSnapshot, WhyClosed, IsOpened}
use Rattle.ltx_backup.specs.Stops.{Stops}
use Rattle.ltx_backup.specs.declared.entry.Entry.{Entry}
use Rattle.ltx_backup.specs.declared.entry.Entries.{Entries}
use Rattle.ltx_backup.specs.declared.entry.Index.{Index}
use Rattle.ltx_backup.specs.declared.fault.BackupFault.{BackupFault}
use Rattle.ltx_backup.specs.declared.fault.BackupFault.TheVariants as fault
use Rattle.ltx_backup.proofs.Finishes.{from_nowhere}
use Rattle.ltx_backup.proofs.Holding.{none_some, some_same}
use Rattle.ltx_backup.proofs.Opens.{rested}
use Rattle.ltx_backup.proofs.Stills.{rests_now, rests_stay}
use Rattle.ltx_backup.proofs.Turns.{and_then}
use Rattle.ltx_backup.proofs.Unique.{one_holding}

-- what stands there
pub record There (o : Option (List ℕ)) : Type 0 where
  pub encoding : List ℕ
  pub is : o ≡ Some encoding

pub there_is : (o : Option (List ℕ)) → IsSome o → There o
there_is None some = absurd (false≢true some)
there_is (Some bytes) some = record { encoding = bytes; is = refl }

pub waits_for : (f : Folder) (entry : Entry) (end : Pos) → IsSome (f Snapshot) → (finds : FindsSnapshot entry end f) → Waits finds.file entry f
waits_for f entry end some finds =
    let at = there_is (f Snapshot) some in
    record {
      encoding = at.encoding;
      there = at.is;
      is = subst (λ (o : Option (List ℕ)). IsLtx (bytes_of o) finds.file) at.is finds.is;
      first = finds.first;
      entry_is = finds.entry_is;
    }

pub held_there : (file : Ltx) (entry : Entry) (a b c : Folder) → Waits file entry a → Holds (only_low file) a b c
held_there file entry a b c waits = inr (record { file = file; encoding = waits.encoding; there = waits.there; is = waits.is; first = waits.first; alone = refl })

pub listed_named : (names : Entries) (a b c : Folder) → AllListed names a b c → AllNamed names a b c
listed_named names a b c listed = record {
  lows = λ x y above some. listed.lows.whole x y some;
  middles = λ x y above some. listed.middles.whole x y some;
  highs = λ x y above some. listed.highs.whole x y some;
}

-- the index of a file alone
pub alone_kept : (file : Ltx) (entry : Entry) (index : Index) (l m h : History) → IsAlone file l m h → before file ≡ nowhere → entry ≡ entry_of file
    → index.entries.lows.items ≡ entry ∷ [] → (index.entries.middles.items ≡ []) × (index.entries.highs.items ≡ []) → index.end ≡ after file → IsKept (only_low file) index l m h
alone_kept file entry index l m h alone begins entry_is lows others end = record {
  lows = record { entries_are = lows ∙ ap (λ (e : Entry). e ∷ []) entry_is; has = alone.lows; settled = alone.low_settled };
  middles = record { entries_are = others.0; has = alone.middles; settled = alone.middle_settled };
  highs = record { entries_are = others.1; has = alone.highs; settled = alone.high_settled };
  no_snapshot = alone.no_snapshot;
  joined = (begins, tt);
  end = end;
}

-- a snapshot that is none
module _ (a b c : Folder) (some : IsSome (a Snapshot)) where
  nothing : ((file : Ltx) → IsLtx (bytes_of (a Snapshot)) file → file.header.min ≡ 1 → ⊥) → (levels : Levels) → Holds levels a b c → ⊥
  nothing none levels (inl files) = none_some (a Snapshot) files.no_snapshot some
  nothing none levels (inr snapshot) =
      none snapshot.file (subst (λ (o : Option (List ℕ)). IsLtx (bytes_of o) snapshot.file) (sym snapshot.there) snapshot.is) snapshot.first

  pub no_snapshot_closed : (why : BackupFault) → IsNoSnapshot a why → WhyClosed a b c why
  no_snapshot_closed fault.Disk none = tt
  no_snapshot_closed fault.Broken none = absurd none
  no_snapshot_closed (fault.NotNext have want) none = absurd none
  no_snapshot_closed (fault.NoSuchTxid txid last) none = absurd none
  no_snapshot_closed (fault.SumDiffers want got) none = absurd none
  no_snapshot_closed (fault.Damaged level x y) none = (inr (some, none.0, none.1, none.2), nothing none.3)
  no_snapshot_closed fault.NoMemory none = tt

module _ (entry : Entry) (end : Pos) (names : Entries) (l m h l_mid l_now m_now h_now : History)
    (low_settled : IsSettledBut Staged l) (middle_settled : IsSettledBut Staged m) (high_settled : IsSettledBut Staged h) (low : Rests l l_mid)
    (some : IsSome (now l Snapshot)) (finds : FindsSnapshot entry end (now l)) where
  pub waits_mid : Waits finds.file entry (now l_mid)
  waits_mid =
      let waits = waits_for (now l) entry end some finds in
      record { encoding = waits.encoding; there = rests_now l l_mid low Snapshot ∙ waits.there; is = waits.is; first = waits.first; entry_is = waits.entry_is }

  pub named_mid : AllListed names (now l) (now m) (now h) → AllNamed names (now l_mid) (now m) (now h)
  named_mid listed = record {
    lows = λ x y above some. listed.lows.whole x y (some_same (now l_mid (LtxName x y)) (now l (LtxName x y)) (rests_now l l_mid low (LtxName x y)) some);
    middles = λ x y above some. listed.middles.whole x y some;
    highs = λ x y above some. listed.highs.whole x y some;
  }

  held_now : Holds (only_low finds.file) (now l) (now m) (now h)
  held_now = held_there finds.file entry (now l) (now m) (now h) (waits_for (now l) entry end some finds)

  pub snapshot_stops : (levels : Levels) → Holds levels (now l) (now m) (now h) → Stops l_mid m h l_now m_now h_now (HoldsOnly finds.file) → Stops l m h l_now m_now h_now (Holds levels)
  snapshot_stops levels held stops =
      let same : levels ≡ only_low finds.file = one_holding (only_low finds.file) levels (now l) (now m) (now h) held_now held in
      subst (λ (k : Levels). Stops l m h l_now m_now h_now (Holds k)) (sym same)
      (and_then l m h l_mid m h l_now m_now h_now (Holds (only_low finds.file))
      (rested (only_low finds.file) l m h l_mid m h low_settled middle_settled high_settled low (rests_stay m) (rests_stay h) held_now) stops)

  pub snapshot_opens : (index : Index) → IsAlone finds.file l_now m_now h_now → index.entries.lows.items ≡ entry ∷ [] → (index.entries.middles.items ≡ []) × (index.entries.highs.items ≡ []) → index.end ≡ end
      → IsOpened index l m h l_now m_now h_now
  snapshot_opens index alone lows others end_is =
      let waits = waits_for (now l) entry end some finds in
      record {
        levels = only_low finds.file;
        held = held_now;
        alone = λ other held. one_holding (only_low finds.file) other (now l) (now m) (now h) held_now held;
        kept = alone_kept finds.file entry index l_now m_now h_now alone (from_nowhere finds.file waits.encoding waits.is waits.first) finds.entry_is lows others (end_is ∙ finds.end_is);
      }
