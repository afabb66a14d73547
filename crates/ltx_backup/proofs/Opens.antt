-- Three disks are opened.
use Rattle.std.proofs.Common.{◌≡◌, ◌∙◌, inl, inr, ℕ, List, ◌++◌, Option, None, Some, IsSome, Result, Ok, Err, IfOk, IfErr, false, refl, sym, ap, subst, arith}
use Rattle.std.specs.Prelude.{is_some}
use Rattle.std.proofs.lemmas.Bool.{false≢true}
use Rattle.lf_base.specs.declared.pos.Pos.{Pos}
use Rattle.lf_disk.specs.declared.name.FileName.TheVariants.{Staged, Snapshot, Ltx as LtxName}
use Rattle.lf_disk.specs.Folder.{Folder, SameBut}
use Rattle.lf_disk.specs.History.{History, now, Rests, EachMoment, IsSettledBut}
use Rattle.ltx_codec.specs.Positions.{nowhere}
use Rattle.ltx_codec.specs.declared.file.Ltx.{Ltx}
use Rattle.ltx_backup.specs.Causes.{IsBlameless}
use Rattle.ltx_backup.specs.Entries.{IsKept}
use Rattle.ltx_backup.specs.Judging.{IsJudged, IsBroken}
use Rattle.ltx_backup.specs.Levels.{Levels, LeadOn, end_of, HasPast, HoldsFiles, Holds}
use Rattle.ltx_backup.specs.Listing.{AreListed}
use Rattle.ltx_backup.specs.Opening.{AllListed, FindsFiles, folder_on, WhyClosed, IsOpened}
use Rattle.ltx_backup.specs.Stops.{Stops}
use Rattle.ltx_backup.specs.Trimming.{IsTrimmed, HasTrimmed}
use Rattle.ltx_backup.specs.declared.entry.Entry.{Entry}
use Rattle.ltx_backup.specs.declared.entry.Entries.{Entries}
use Rattle.ltx_backup.specs.declared.entry.Index.{Index}
use Rattle.ltx_backup.specs.declared.fault.BackupFault.{BackupFault}
use Rattle.ltx_backup.specs.declared.fault.BackupFault.TheVariants as fault
use Rattle.ltx_backup.specs.declared.tidying.Bounds.{Bounds}
use Rattle.ltx_backup.proofs.Holding.{AllPast, lead_past, has_trimmed, has_alone, holds_same, end_join, lead_join}
use Rattle.ltx_backup.proofs.Stills.{Alike, rests_now, trims_after, trimmed_after}
use Rattle.ltx_backup.proofs.Turns.{resting, apart, weaker}
use Rattle.ltx_backup.proofs.Unique.{one_level, one_holding, lead_highs, lead_middles, lead_lows, none_there}

module _ (index : Index) (bounds : Bounds) (a b c : Folder) (none : a Snapshot ≡ None) (found : FindsFiles index bounds a b c) where
  levels : Levels
  levels = found.levels

  pub found_holds : Holds found.levels a b c
  found_holds = inl (record {
    no_snapshot = none;
    highs = subst (λ (n : ℕ). HasPast n found.levels.highs c) found.from found.highs;
    middles = subst (λ (n : ℕ). HasPast n found.levels.middles b) found.above_middle found.middles;
    lows = subst (λ (n : ℕ). HasPast n found.levels.lows a) found.above_low found.lows;
    joined = found.index_is.joined;
  })

  past_highs : AllPast bounds.high found.levels.highs
  past_highs = subst (λ (n : ℕ). AllPast n found.levels.highs) (sym found.from) (lead_past c nowhere found.levels.highs found.highs.stand (lead_highs found.levels found.index_is.joined))

  past_middles : AllPast bounds.middle found.levels.middles
  past_middles =
      subst (λ (n : ℕ). AllPast n found.levels.middles) (sym found.above_middle)
      (lead_past b (end_of nowhere found.levels.highs) found.levels.middles found.middles.stand (lead_middles found.levels found.index_is.joined))

  past_lows : AllPast bounds.low found.levels.lows
  past_lows =
      subst (λ (n : ℕ). AllPast n found.levels.lows) (sym found.above_low)
      (lead_past a (end_of nowhere (found.levels.highs ++ found.levels.middles)) found.levels.lows found.lows.stand (lead_lows found.levels found.index_is.joined))

  -- what is passed over may be gone
  pub trimmed_holds : (x y z : Folder) → IsTrimmed bounds.low a x × IsTrimmed bounds.middle b y × IsTrimmed bounds.high c z → Holds found.levels x y z
  trimmed_holds x y z trimmed = inl (record {
    no_snapshot = trimmed.0.snapshot ∙ none;
    highs = subst (λ (n : ℕ). HasPast n found.levels.highs z) found.from (has_trimmed bounds.high bounds.high found.levels.highs c z (omega arith) past_highs trimmed.2 found.highs);
    middles = subst (λ (n : ℕ). HasPast n found.levels.middles y) found.above_middle (has_trimmed bounds.middle bounds.middle found.levels.middles b y (omega arith) past_middles trimmed.1 found.middles);
    lows = subst (λ (n : ℕ). HasPast n found.levels.lows x) found.above_low (has_trimmed bounds.low bounds.low found.levels.lows a x (omega arith) past_lows trimmed.0 found.lows);
    joined = found.index_is.joined;
  })

  -- once it is gone, the index is that of all that stands there
  pub kept_now : (names : Entries) (l m h : History) → AllListed names a b c → HasTrimmed bounds.low names.lows.items a l → HasTrimmed bounds.middle names.middles.items b m
      → HasTrimmed bounds.high names.highs.items c h → IsKept found.levels index l m h
  kept_now names l m h listed low middle high = record {
    lows = record {
      entries_are = found.index_is.lows;
      has = has_alone bounds.low found.levels.lows a l names.lows.items past_lows found.lows (λ x y above some. listed.lows.whole x y some) low;
      settled = low.settled;
    };
    middles = record {
      entries_are = found.index_is.middles;
      has = has_alone bounds.middle found.levels.middles b m names.middles.items past_middles found.middles (λ x y above some. listed.middles.whole x y some) middle;
      settled = middle.settled;
    };
    highs = record {
      entries_are = found.index_is.highs;
      has = has_alone bounds.high found.levels.highs c h names.highs.items past_highs found.highs (λ x y above some. listed.highs.whole x y some) high;
      settled = high.settled;
    };
    no_snapshot = low.trimmed.snapshot ∙ none;
    joined = found.index_is.joined;
    end = found.index_is.end;
  }

-- three disks that are only read
pub rested : (levels : Levels) (l m h l_now m_now h_now : History) → IsSettledBut Staged l → IsSettledBut Staged m → IsSettledBut Staged h
    → Rests l l_now → Rests m m_now → Rests h h_now → Holds levels (now l) (now m) (now h) → Stops l m h l_now m_now h_now (Holds levels)
rested levels l m h l_now m_now h_now low_settled middle_settled high_settled low middle high held =
    weaker l m h l_now m_now h_now (λ a b c. SameBut Staged (now l) a × SameBut Staged (now m) b × SameBut Staged (now h) c) (Holds levels)
    (λ a b c same. holds_same levels (now l) (now m) (now h) a b c same.0 same.1 same.2 held)
    (apart l m h l_now m_now h_now (SameBut Staged (now l)) (SameBut Staged (now m)) (SameBut Staged (now h))
    (resting l l_now low_settled low) (resting m m_now middle_settled middle) (resting h h_now high_settled high))

pub holds_alike : (levels : Levels) (a b c x y z : Folder) → Alike a x → Alike b y → Alike c z → Holds levels a b c → Holds levels x y z
holds_alike levels a b c x y z low middle high held = holds_same levels a b c x y z (λ n differs. low n) (λ n differs. middle n) (λ n differs. high n) held

-- what was read before opens the same
module _ (l m h l_mid m_mid h_mid : History) (low : Rests l l_mid) (middle : Rests m m_mid) (high : Rests h h_mid) where
  pub forward : (levels : Levels) → Holds levels (now l) (now m) (now h) → Holds levels (now l_mid) (now m_mid) (now h_mid)
  forward levels held = holds_alike levels (now l) (now m) (now h) (now l_mid) (now m_mid) (now h_mid) (rests_now l l_mid low) (rests_now m m_mid middle) (rests_now h h_mid high) held

  pub back : (levels : Levels) → Holds levels (now l_mid) (now m_mid) (now h_mid) → Holds levels (now l) (now m) (now h)
  back levels held =
      holds_alike levels (now l_mid) (now m_mid) (now h_mid) (now l) (now m) (now h) (λ n. sym (rests_now l l_mid low n)) (λ n. sym (rests_now m m_mid middle n)) (λ n. sym (rests_now h h_mid high n)) held

  pub opened_after : (index : Index) (l_now m_now h_now : History) → IsOpened index l_mid m_mid h_mid l_now m_now h_now → IsOpened index l m h l_now m_now h_now
  opened_after index l_now m_now h_now opened = record {
    levels = opened.levels;
    held = back opened.levels opened.held;
    alone = λ others held. opened.alone others (forward others held);
    kept = opened.kept;
  }

  pub why_after : (why : BackupFault) → WhyClosed (now l_mid) (now m_mid) (now h_mid) why → WhyClosed (now l) (now m) (now h) why
  why_after fault.Disk closed = tt
  why_after fault.Broken closed = absurd closed
  why_after (fault.NotNext have want) closed = absurd closed
  why_after (fault.NoSuchTxid txid last) closed = absurd closed
  why_after (fault.SumDiffers want got) closed = absurd closed
  why_after (fault.Damaged level a b) closed = (
    elim closed.0 [
      | inl some ↦ inl (subst (λ (o : Option (List ℕ)). IsSome o) (λ i. folder_at level a b i) some)
      | inr snapshot ↦ inr (subst (λ (o : Option (List ℕ)). IsSome o) (rests_now l l_mid low Snapshot) snapshot.0, snapshot.1, snapshot.2, snapshot.3)
    ],
    λ levels held. closed.1 levels (forward levels held),
  )
    where
      folder_at : (level a b : ℕ) → folder_on (now l_mid) (now m_mid) (now h_mid) level (LtxName a b) ≡ folder_on (now l) (now m) (now h) level (LtxName a b)
      folder_at level a b = λ i. folder_on (λ n. rests_now l l_mid low n i) (λ n. rests_now m m_mid middle n i) (λ n. rests_now h h_mid high n i) level (LtxName a b)
  why_after fault.NoMemory closed = tt

-- a level that goes on nowhere
module _ (a b c : Folder) (none : a Snapshot ≡ None) where
  pub high_broken : (why : BackupFault) → IsBroken c 2 nowhere why → WhyClosed a b c why
  high_broken fault.Disk broken = tt
  high_broken fault.Broken broken = absurd broken
  high_broken (fault.NotNext have want) broken = absurd broken
  high_broken (fault.NoSuchTxid txid last) broken = absurd broken
  high_broken (fault.SumDiffers want got) broken = absurd broken
  high_broken (fault.Damaged level x y) broken = (
    inl (subst (λ (k : ℕ). IsSome (folder_on a b c k (LtxName x y))) (sym broken.0) broken.1),
    λ levels held. elim held [
      | inl files ↦ broken.2 levels.highs files.highs (lead_highs levels files.joined)
      | inr snapshot ↦ none_there (a Snapshot) snapshot.encoding none snapshot.there
    ],
  )
  high_broken fault.NoMemory broken = tt

  module _ (entries : List Entry) (end : Pos) (judged : IsJudged c nowhere entries end) where
    same_highs : (levels : Levels) → HoldsFiles levels a b c → levels.highs ≡ judged.files
    same_highs levels files = one_level c 0 nowhere judged.files levels.highs (omega arith) judged.has files.highs judged.joined (lead_highs levels files.joined)

    pub end_is : (levels : Levels) → HoldsFiles levels a b c → end_of nowhere levels.highs ≡ end
    end_is levels files = ap (λ (l : List Ltx). end_of nowhere l) (same_highs levels files) ∙ sym judged.end_is

    pub middle_broken : (why : BackupFault) → IsBroken b 1 end why → WhyClosed a b c why
    middle_broken fault.Disk broken = tt
    middle_broken fault.Broken broken = absurd broken
    middle_broken (fault.NotNext have want) broken = absurd broken
    middle_broken (fault.NoSuchTxid txid last) broken = absurd broken
    middle_broken (fault.SumDiffers want got) broken = absurd broken
    middle_broken (fault.Damaged level x y) broken = (
      inl (subst (λ (k : ℕ). IsSome (folder_on a b c k (LtxName x y))) (sym broken.0) broken.1),
      λ levels held. elim held [
        | inl files ↦
            broken.2 levels.middles (subst (λ (p : Pos). HasPast p.txid levels.middles b) (end_is levels files) files.middles)
            (subst (λ (p : Pos). LeadOn p levels.middles) (end_is levels files) (lead_middles levels files.joined))
        | inr snapshot ↦ none_there (a Snapshot) snapshot.encoding none snapshot.there
      ],
    )
    middle_broken fault.NoMemory broken = tt

    module _ (more : List Entry) (last : Pos) (judged_too : IsJudged b end more last) where
      both_end : (levels : Levels) → HoldsFiles levels a b c → end_of nowhere (levels.highs ++ levels.middles) ≡ last
      both_end levels files =
          let at = end_is levels files in
          let middles : levels.middles ≡ judged_too.files =
          one_level b end.txid end judged_too.files levels.middles (omega arith) judged_too.has (subst (λ (p : Pos). HasPast p.txid levels.middles b) at files.middles)
          judged_too.joined (subst (λ (p : Pos). LeadOn p levels.middles) at (lead_middles levels files.joined)) in
          end_join nowhere levels.highs levels.middles ∙ (λ i. end_of (at i) (middles i)) ∙ sym judged_too.end_is

      pub low_broken : (why : BackupFault) → IsBroken a 0 last why → WhyClosed a b c why
      low_broken fault.Disk broken = tt
      low_broken fault.Broken broken = absurd broken
      low_broken (fault.NotNext have want) broken = absurd broken
      low_broken (fault.NoSuchTxid txid last) broken = absurd broken
      low_broken (fault.SumDiffers want got) broken = absurd broken
      low_broken (fault.Damaged level x y) broken = (
        inl (subst (λ (k : ℕ). IsSome (folder_on a b c k (LtxName x y))) (sym broken.0) broken.1),
        λ levels held. elim held [
          | inl files ↦
              broken.2 levels.lows (subst (λ (p : Pos). HasPast p.txid levels.lows a) (both_end levels files) files.lows)
              (subst (λ (p : Pos). LeadOn p levels.lows) (both_end levels files) (lead_lows levels files.joined))
          | inr snapshot ↦ none_there (a Snapshot) snapshot.encoding none snapshot.there
        ],
      )
      low_broken fault.NoMemory broken = tt

-- no file is to blame
pub blameless_closed : (a b c : Folder) (why : BackupFault) → IsBlameless why → WhyClosed a b c why
blameless_closed a b c fault.Disk blameless = tt
blameless_closed a b c fault.Broken blameless = absurd blameless
blameless_closed a b c (fault.NotNext have want) blameless = absurd blameless
blameless_closed a b c (fault.NoSuchTxid txid last) blameless = absurd blameless
blameless_closed a b c (fault.SumDiffers want got) blameless = absurd blameless
blameless_closed a b c (fault.Damaged level min max) blameless = absurd blameless
blameless_closed a b c fault.NoMemory blameless = tt

-- three disks are read, and then lose what is passed over
module _ (index : Index) (bounds : Bounds) (names : Entries) (l m h l_mid m_mid h_mid l_now m_now h_now : History)
    (low_settled : IsSettledBut Staged l) (middle_settled : IsSettledBut Staged m) (high_settled : IsSettledBut Staged h)
    (low : Rests l l_mid) (middle : Rests m m_mid) (high : Rests h h_mid) (none : now l Snapshot ≡ None) (found : FindsFiles index bounds (now l) (now m) (now h)) where
  pub tidied_stops : (levels : Levels) → Holds levels (now l) (now m) (now h) → EachMoment l_mid l_now (IsTrimmed bounds.low (now l_mid)) → EachMoment m_mid m_now (IsTrimmed bounds.middle (now m_mid))
      → EachMoment h_mid h_now (IsTrimmed bounds.high (now h_mid)) → Stops l m h l_now m_now h_now (Holds levels)
  tidied_stops levels held lows middles highs =
      let same : levels ≡ found.levels = one_holding found.levels levels (now l) (now m) (now h) (found_holds index bounds (now l) (now m) (now h) none found) held in
      subst (λ (k : Levels). Stops l m h l_now m_now h_now (Holds k)) (sym same)
      (weaker l m h l_now m_now h_now (λ a b c. IsTrimmed bounds.low (now l) a × IsTrimmed bounds.middle (now m) b × IsTrimmed bounds.high (now h) c) (Holds found.levels)
      (trimmed_holds index bounds (now l) (now m) (now h) none found)
      (apart l m h l_now m_now h_now (IsTrimmed bounds.low (now l)) (IsTrimmed bounds.middle (now m)) (IsTrimmed bounds.high (now h))
      (trims_after bounds.low l l_mid l_now low_settled low lows) (trims_after bounds.middle m m_mid m_now middle_settled middle middles) (trims_after bounds.high h h_mid h_now high_settled high highs)))

  pub tidied_opens : AllListed names (now l) (now m) (now h) → HasTrimmed bounds.low names.lows.items (now l_mid) l_now → HasTrimmed bounds.middle names.middles.items (now m_mid) m_now
      → HasTrimmed bounds.high names.highs.items (now h_mid) h_now → IsOpened index l m h l_now m_now h_now
  tidied_opens listed lows middles highs = record {
    levels = found.levels;
    held = found_holds index bounds (now l) (now m) (now h) none found;
    alone = λ others held. one_holding found.levels others (now l) (now m) (now h) (found_holds index bounds (now l) (now m) (now h) none found) held;
    kept = kept_now index bounds (now l) (now m) (now h) none found names l_now m_now h_now listed
        (trimmed_after bounds.low names.lows.items l l_mid l_now low lows) (trimmed_after bounds.middle names.middles.items m m_mid m_now middle middles) (trimmed_after bounds.high names.highs.items h h_mid h_now high highs);
  }

pub ok_follows : {T E : Type 0} (result : Result T E) (P Q : T → Type 0) → ((v : T) → P v → Q v) → IfOk result P → IfOk result Q
ok_follows (Ok v) P Q follows is = follows v is
ok_follows (Err e) P Q follows is = tt

pub err_follows : {T E : Type 0} (result : Result T E) (P Q : E → Type 0) → ((e : E) → P e → Q e) → IfErr result P → IfErr result Q
err_follows (Ok v) P Q follows is = tt
err_follows (Err e) P Q follows is = follows e is

-- the levels that were judged, one behind the other
unfoldable pub found_all : (a b c : Folder) (e0 e1 e2 : List Entry) (end0 end1 end2 : Pos) (index : Index) (bounds : Bounds) → IsJudged c nowhere e2 end2 → IsJudged b end2 e1 end1 → IsJudged a end1 e0 end0
    → index.entries.lows.items ≡ e0 → index.entries.middles.items ≡ e1 → index.entries.highs.items ≡ e2 → index.end ≡ end0
    → bounds.high ≡ 0 → bounds.middle ≡ end2.txid → bounds.low ≡ end1.txid → FindsFiles index bounds a b c
found_all a b c e0 e1 e2 end0 end1 end2 index bounds highs middles lows lows_is middles_is highs_is end_is high_is middle_is low_is =
    let both : end_of nowhere (highs.files ++ middles.files) ≡ end1 =
    end_join nowhere highs.files middles.files ∙ ap (λ (p : Pos). end_of p middles.files) (sym highs.end_is) ∙ sym middles.end_is in
    let lead_both : LeadOn nowhere (highs.files ++ middles.files) =
    lead_join nowhere highs.files middles.files highs.joined (subst (λ (p : Pos). LeadOn p middles.files) highs.end_is middles.joined) in
    record {
      levels = record { lows = lows.files; middles = middles.files; highs = highs.files };
      index_is = record {
        lows = lows_is ∙ lows.entries_are;
        middles = middles_is ∙ middles.entries_are;
        highs = highs_is ∙ highs.entries_are;
        joined = lead_join nowhere (highs.files ++ middles.files) lows.files lead_both (subst (λ (p : Pos). LeadOn p lows.files) (sym both) lows.joined);
        end = end_is ∙ lows.end_is ∙ ap (λ (p : Pos). end_of p lows.files) (sym both) ∙ sym (end_join nowhere (highs.files ++ middles.files) lows.files);
      };
      highs = subst (λ (n : ℕ). HasPast n highs.files c) (sym high_is) highs.has;
      middles = subst (λ (n : ℕ). HasPast n middles.files b) (sym middle_is) middles.has;
      lows = subst (λ (n : ℕ). HasPast n lows.files a) (sym low_is) lows.has;
      from = high_is;
      above_middle = middle_is ∙ ap (λ (p : Pos). p.txid) highs.end_is;
      above_low = low_is ∙ ap (λ (p : Pos). p.txid) (sym both);
    }

pub is_none : (o : Option (List ℕ)) → is_some o ≡ false → o ≡ None
is_none None isnt = refl
is_none (Some bytes) isnt = absurd (false≢true (sym isnt))

pub list_alike : (entries : List Entry) (f g : Folder) → Alike f g → AreListed entries f → AreListed entries g
list_alike entries f g same listed = record {
  there = λ x y lists. subst (λ (o : Option (List ℕ)). IsSome o) (sym (same (LtxName x y))) (listed.there x y lists);
  whole = λ x y some. listed.whole x y (subst (λ (o : Option (List ℕ)). IsSome o) (same (LtxName x y)) some);
  order = listed.order;
  narrow = listed.narrow;
  once = listed.once;
}

pub listed_rests : (names : Entries) (l m h l_mid m_mid h_mid : History) → Rests l l_mid → Rests m m_mid → Rests h h_mid → AllListed names (now l) (now m) (now h) → AllListed names (now l_mid) (now m_mid) (now h_mid)
listed_rests names l m h l_mid m_mid h_mid low middle high listed = record {
  lows = list_alike names.lows.items (now l) (now l_mid) (rests_now l l_mid low) listed.lows;
  middles = list_alike names.middles.items (now m) (now m_mid) (rests_now m m_mid middle) listed.middles;
  highs = list_alike names.highs.items (now h) (now h_mid) (rests_now h h_mid high) listed.highs;
}
