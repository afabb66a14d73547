-- What files make of a database while they are judged.
use Rattle.std.proofs.Common.{◌≡◌, ◌∙◌, ℕ, ◌<◌, ◌≤◌, List, [], ◌∷◌, ◌++◌, None, IsSome, Ok, Err, refl, sym, subst}
use Rattle.lf_base.specs.declared.pos.Pos.{Pos}
use Rattle.lf_disk.specs.declared.name.FileName.TheVariants.{Snapshot}
use Rattle.lf_disk.specs.Folder.{Folder}
use Rattle.lf_sqlite_pages.specs.Apply.{Fits, apply}
use Rattle.lf_sqlite_pages.specs.Image.{DatabaseImage}
use Rattle.ltx_codec.specs.Positions.{before, after, nowhere}
use Rattle.ltx_codec.specs.Sums.{image_sum}
use Rattle.ltx_codec.specs.declared.file.Ltx.{Ltx}
use Rattle.ltx_backup.specs.Applying.{IsOtherSum}
use Rattle.ltx_backup.specs.Entries.{entry_of}
use Rattle.ltx_backup.specs.Judging.{IsNext}
use Rattle.ltx_backup.specs.Levels.{Levels, chain, LeadOn, Stands, Holds, only_low}
use Rattle.ltx_backup.specs.Listing.{AreListed}
use Rattle.ltx_backup.specs.Making.{IsBlank, Makes, MakesLevel, MakesAll, JudgingInto, IsJudgedInto, FindsInto, SnapshotInto}
use Rattle.ltx_backup.specs.Ordered.{AllOrdered}
use Rattle.ltx_backup.specs.Restoring.{up_to, EndsWith, Restores}
use Rattle.ltx_backup.specs.declared.entry.Entry.{Entry}
use Rattle.ltx_backup.specs.declared.entry.Index.{Index}
use Rattle.ltx_backup.specs.declared.fault.BackupFault.{BackupFault}
use Rattle.ltx_backup.specs.declared.fault.BackupFault.TheVariants as fault
use Rattle.ltx_backup.specs.declared.judging.Level.{Level}
use Rattle.ltx_backup.specs.declared.restored.Restored.{Restored}
use Rattle.ltx_backup.specs.declared.target.Made.{Made}
use Rattle.ltx_backup.specs.declared.target.Made.TheVariants as made
use Rattle.ltx_backup.specs.declared.target.Target.{Target}
use Rattle.ltx_backup.specs.declared.tidying.Bounds.{Bounds}
use Rattle.ltx_backup.proofs.Judges.{judged_past, judged_more, judged_all, judging_begins}
use Rattle.ltx_backup.proofs.Restores.{ended, levels_join, up_to_join, among_left, among_right, applied_one, left_out, taken}
use Rattle.ltx_backup.proofs.Restorings.{high_misfit, middle_misfit, low_misfit, gives_image, gives_sum}
use Rattle.ltx_backup.proofs.Snapshots.{waits_for, held_there}
use Rattle.ltx_backup.proofs.Stills.{Alike, judging_alike}
use Rattle.ltx_backup.proofs.Opens.{found_all, found_holds}
use Rattle.ltx_backup.proofs.Unique.{one_holding}

pub makes_none : (level : ℕ) (it : Made) → Makes level [] it it
makes_none level (made.Sound here) = ended here
makes_none level (made.Misfit at min max) = refl

pub makes_join : (level : ℕ) (xs ys : List Ltx) (a b c : Made) → Makes level xs a b → Makes level ys b c → Makes level (xs ++ ys) a c
makes_join level xs ys (made.Sound a) (made.Sound b) (made.Sound c) first second = levels_join xs ys a b c first second
makes_join level xs ys (made.Sound a) (made.Sound b) (made.Misfit at min max) first second = (second.0, among_right xs ys a b min max first second.1)
makes_join level xs ys (made.Sound a) (made.Misfit at min max) c first second =
    subst (λ (m : Made). Makes level (xs ++ ys) (made.Sound a) m) (sym second) (first.0, among_left xs ys a min max first.1)
makes_join level xs ys (made.Misfit at min max) b c first second =
    subst (λ (m : Made). Makes level ys m c → c ≡ made.Misfit at min max) (sym first) (λ (is : c ≡ made.Misfit at min max). is) second

pub makes_one : (level : ℕ) (here next : Restored) (file : Ltx) → Fits here.image file.change → next.image ≡ apply here.image file.change → next.post ≡ file.post
    → Makes level (file ∷ []) (made.Sound here) (made.Sound next)
makes_one level here next file fits image post = record { fit = (fits, tt); image = image ∙ sym (applied_one here.image file); post = post }

pub level_none : (level : ℕ) (it : Target) → MakesLevel level [] it it
level_none level it = record { makes = makes_none level it.made; same = refl }

pub level_join : (level : ℕ) (xs ys : List Ltx) (a b c : Target) → MakesLevel level xs a b → MakesLevel level ys b c → MakesLevel level (xs ++ ys) a c
level_join level xs ys a b c first second = record {
  makes = subst (λ (l : List Ltx). Makes level l a.made c.made) (sym (up_to_join a.txid xs ys))
      (makes_join level (up_to a.txid xs) (up_to a.txid ys) a.made b.made c.made first.makes (subst (λ (n : ℕ). Makes level (up_to n ys) b.made c.made) first.same second.makes));
  same = second.same ∙ first.same;
}

pub level_left_out : (level : ℕ) (file : Ltx) (it : Target) → it.txid < file.header.max → MakesLevel level (file ∷ []) it it
level_left_out level file it past = record {
  makes = subst (λ (l : List Ltx). Makes level l it.made it.made) (sym (left_out it.txid file [] past)) (makes_none level it.made);
  same = refl;
}

pub level_taken : (level : ℕ) (file : Ltx) (a b : Target) → file.header.max ≤ a.txid → b.txid ≡ a.txid → Makes level (file ∷ []) a.made b.made → MakesLevel level (file ∷ []) a b
level_taken level file a b within same makes = record {
  makes = subst (λ (l : List Ltx). Makes level l a.made b.made) (sym (taken a.txid file [] within)) makes;
  same = same;
}

pub into_begins : (f : Folder) (level : ℕ) (here : Pos) (start : Target) (found : Level) → found.entries.items ≡ [] → found.end ≡ here → found.target ≡ start → JudgingInto f level here [] start found
unfolding judging_begins
into_begins f level here start found none end same =
    let it = judging_begins f here found.entries.items none in
    record {
      judging = record { files = it.files; stand = it.stand; lead = it.lead; entries_are = it.entries_are; end_is = end ∙ it.end_is; covers = it.covers; sound = it.sound };
      makes = subst (λ (t : Target). MakesLevel level [] start t) (sym same) (level_none level start);
    }

pub into_past : (f : Folder) (level : ℕ) (here : Pos) (names : List Entry) (start : Target) (found : Level) (name : Entry) → JudgingInto f level here names start found → name.min ≤ here.txid
    → JudgingInto f level here (names ++ name ∷ []) start found
unfolding judged_past
into_past f level here names start found name so_far low = record {
  judging = judged_past f here names found.entries.items found.end name so_far.judging low;
  makes = so_far.makes;
}

abbrev next_of : (f : Folder) (end : Pos) (file : Ltx) → Stands f file → before file ≡ end → IsNext f end (entry_of file) (after file)
next_of f end file stands joins = record { file = file; stands = stands; joins = joins; entry_is = refl; end_is = refl }

pub into_more : (f : Folder) (level : ℕ) (here : Pos) (names : List Entry) (start : Target) (found next : Level) (name : Entry) (file : Ltx) → JudgingInto f level here names start found
    → Stands f file → before file ≡ found.end → file.header.min ≡ name.min → file.header.max ≡ name.max
    → next.entries.items ≡ found.entries.items ++ entry_of file ∷ [] → next.end ≡ after file → MakesLevel level (file ∷ []) found.target next.target
    → JudgingInto f level here (names ++ name ∷ []) start next
unfolding judged_more
into_more f level here names start found next name file so_far stands joins min max entries end makes =
    let it = judged_more f here names found.entries.items found.end name so_far.judging (entry_of file) (after file) (next_of f found.end file stands joins) min max in
    record {
      judging = record { files = it.files; stand = it.stand; lead = it.lead; entries_are = entries ∙ it.entries_are; end_is = end ∙ it.end_is; covers = it.covers; sound = it.sound };
      makes = level_join level so_far.judging.files (file ∷ []) start found.target next.target so_far.makes makes;
    }

pub into_all : (f : Folder) (level : ℕ) (here : Pos) (names : List Entry) (start : Target) (found : Level) → AreListed names f → JudgingInto f level here names start found
    → IsJudgedInto f level here start found
unfolding judged_all
into_all f level here names start found listed so_far = record {
  judged = judged_all f here names found.entries.items found.end listed so_far.judging;
  makes = so_far.makes;
}

pub into_alike : (f g : Folder) (level : ℕ) (here : Pos) (names : List Entry) (start : Target) (found : Level) → Alike f g → JudgingInto f level here names start found → JudgingInto g level here names start found
unfolding judging_alike
into_alike f g level here names start found same so_far = record {
  judging = judging_alike f g here names found.entries.items found.end same so_far.judging;
  makes = so_far.makes;
}

-- the levels that were judged, one behind the other
pub found_into : (a b c : Folder) (l0 l1 l2 : Level) (start : Target) (index : Index) (bounds : Bounds) → IsJudgedInto c 2 nowhere start l2 → IsJudgedInto b 1 l2.end l2.target l1 → IsJudgedInto a 0 l1.end l1.target l0
    → index.entries.lows.items ≡ l0.entries.items → index.entries.middles.items ≡ l1.entries.items → index.entries.highs.items ≡ l2.entries.items → index.end ≡ l0.end
    → bounds.high ≡ 0 → bounds.middle ≡ l2.end.txid → bounds.low ≡ l1.end.txid → FindsInto index bounds a b c start l0.target
unfolding found_all
found_into a b c l0 l1 l2 start index bounds highs middles lows lows_is middles_is highs_is end_is high_is middle_is low_is = record {
  finds = found_all a b c l0.entries.items l1.entries.items l2.entries.items l0.end l1.end l2.end index bounds highs.judged middles.judged lows.judged
      lows_is middles_is highs_is end_is high_is middle_is low_is;
  makes = record { high = l2.target; middle = l1.target; highs = highs.makes; middles = middles.makes; lows = lows.makes };
}

-- what the files that count make is what the levels make
pub files_make : (index : Index) (bounds : Bounds) (a b c : Folder) (start next : Target) → a Snapshot ≡ None → FindsInto index bounds a b c start next
    → (levels : Levels) → Holds levels a b c → MakesAll levels start next
files_make index bounds a b c start next none into levels held =
    let same : levels ≡ into.finds.levels = one_holding into.finds.levels levels a b c (found_holds index bounds a b c none into.finds) held in
    subst (λ (ls : Levels). MakesAll ls start next) (sym same) into.makes

pub snapshot_makes : (entry : Entry) (end : Pos) (a b c : Folder) (start next : Target) → IsSome (a Snapshot) → SnapshotInto entry end a start next
    → (levels : Levels) → Holds levels a b c → MakesAll levels start next
snapshot_makes entry end a b c start next some into levels held =
    let there : Holds (only_low into.finds.file) a b c = held_there into.finds.file entry a b c (waits_for a entry end some into.finds) in
    let same : levels ≡ only_low into.finds.file = one_holding (only_low into.finds.file) levels a b c there held in
    subst (λ (ls : Levels). MakesAll ls start next) (sym same)
    (record { high = start; middle = start; highs = level_none 2 start; middles = level_none 1 start; lows = into.makes })

-- what is said of a file that didn't fit
abbrev pub told : Made → BackupFault
told (made.Sound restored) = fault.NoMemory
told (made.Misfit level a b) = fault.Damaged level a b

module _ (levels : Levels) (txid : ℕ) (joined : LeadOn nowhere (chain levels)) (order : AllOrdered (chain levels)) where
  pub misfit_of : (start high middle next : Made) → IsBlank start → Makes 2 (up_to txid levels.highs) start high → Makes 1 (up_to txid levels.middles) high middle
      → Makes 0 (up_to txid levels.lows) middle next → Restores levels txid (Err (told next))
  misfit_of (made.Sound none) (made.Sound high) (made.Sound middle) (made.Sound low) blank highs middles lows = tt
  misfit_of (made.Sound none) (made.Sound high) (made.Sound middle) (made.Misfit at a b) blank highs middles lows =
      low_misfit levels txid joined order none blank high highs middle middles (fault.Damaged at a b) lows
  misfit_of (made.Sound none) (made.Sound high) (made.Misfit at a b) next blank highs middles lows =
      subst (λ (m : Made). Restores levels txid (Err (told m))) (sym lows) (middle_misfit levels txid joined order none blank high highs (fault.Damaged at a b) middles)
  misfit_of (made.Sound none) (made.Misfit at a b) middle next blank highs middles lows =
      let last : next ≡ made.Misfit at a b = subst (λ (m : Made). Makes 0 (up_to txid levels.lows) m next) middles lows in
      subst (λ (m : Made). Restores levels txid (Err (told m))) (sym last) (high_misfit levels txid joined order none blank (fault.Damaged at a b) highs)
  misfit_of (made.Misfit at a b) high middle next blank highs middles lows = absurd blank

  -- the sum of the last file, and that of the pages
  pub record Sums (low : Restored) : Type 0 where
    pub image : (image : DatabaseImage) → image ≡ low.image → low.post ≡ image_sum low.image → Restores levels txid (Ok image)
    pub other : (why : BackupFault) → IsOtherSum low why → Restores levels txid (Err why)

  pub sums_of : (start high middle : Made) (low : Restored) (sum : ℕ) → EndsWith (chain levels) txid sum → IsBlank start → Makes 2 (up_to txid levels.highs) start high
      → Makes 1 (up_to txid levels.middles) high middle → Makes 0 (up_to txid levels.lows) middle (made.Sound low) → Sums low
  sums_of (made.Sound none) (made.Sound high) (made.Sound middle) low sum ends blank highs middles lows = record {
    image = gives_image levels txid joined order none blank high highs middle middles low lows sum ends;
    other = gives_sum levels txid joined order none blank high highs middle middles low lows sum ends;
  }
  sums_of (made.Sound none) (made.Sound high) (made.Misfit at a b) low sum ends blank highs middles lows = absurd (cc)
  sums_of (made.Sound none) (made.Misfit at a b) middle low sum ends blank highs middles lows =
      let last : made.Sound low ≡ made.Misfit at a b = subst (λ (m : Made). Makes 0 (up_to txid levels.lows) m (made.Sound low)) middles lows in absurd (cc)
  sums_of (made.Misfit at a b) high middle low sum ends blank highs middles lows = absurd blank

-- the same of a target, at its own transaction
module _ (levels : Levels) (joined : LeadOn nowhere (chain levels)) (order : AllOrdered (chain levels)) (start next : Target) (blank : IsBlank start.made) (all : MakesAll levels start next) where
  middle_at : all.middle.txid ≡ start.txid
  middle_at = all.middles.same ∙ all.highs.same

  pub txid_stays : next.txid ≡ start.txid
  txid_stays = all.lows.same ∙ middle_at

  high_makes : Makes 2 (up_to next.txid levels.highs) start.made all.high.made
  high_makes = subst (λ (n : ℕ). Makes 2 (up_to n levels.highs) start.made all.high.made) (sym txid_stays) all.highs.makes

  middle_makes : Makes 1 (up_to next.txid levels.middles) all.high.made all.middle.made
  middle_makes = subst (λ (n : ℕ). Makes 1 (up_to n levels.middles) all.high.made all.middle.made) (all.highs.same ∙ sym txid_stays) all.middles.makes

  low_makes : Makes 0 (up_to next.txid levels.lows) all.middle.made next.made
  low_makes = subst (λ (n : ℕ). Makes 0 (up_to n levels.lows) all.middle.made next.made) (middle_at ∙ sym txid_stays) all.lows.makes

  pub target_misfit : Restores levels next.txid (Err (told next.made))
  target_misfit = misfit_of levels next.txid joined order start.made all.high.made all.middle.made next.made blank high_makes middle_makes low_makes

  pub target_sums : (low : Restored) → next.made ≡ made.Sound low → (sum : ℕ) → EndsWith (chain levels) next.txid sum → Sums levels next.txid joined order low
  target_sums low is sum ends =
      sums_of levels next.txid joined order start.made all.high.made all.middle.made low sum ends blank high_makes middle_makes
      (subst (λ (m : Made). Makes 0 (up_to next.txid levels.lows) all.middle.made m) is low_makes)
