-- What restoring a backup gives.
use Rattle.std.proofs.Common.{◌≡◌, ◌∙◌, inl, inr, ℕ, ◌-◌, ◌<◌, ◌≤◌, List, [], ◌∷◌, ◌++◌, Ok, Err, refl, sym, ap, subst, arith}
use Rattle.lf_base.specs.declared.pos.Pos.{Pos}
use Rattle.lf_disk.specs.Folder.{Folder}
use Rattle.lf_sqlite_pages.specs.Image.{DatabaseImage, empty_image}
use Rattle.ltx_codec.specs.Positions.{before, after, nowhere}
use Rattle.ltx_codec.specs.Sums.{image_sum}
use Rattle.ltx_codec.specs.declared.file.Ltx.{Ltx}
use Rattle.ltx_compact.specs.Application.{apply_all, FitAll}
use Rattle.ltx_backup.specs.Applying.{AppliesAll, IsMisfitAmong, IsOtherSum, last_post, Ends, EndsIn}
use Rattle.ltx_backup.specs.Entries.{IsKept}
use Rattle.ltx_backup.specs.Levels.{Levels, chain, LeadOn, AllStand, Has, on_level}
use Rattle.ltx_backup.specs.Opening.{IsIndex}
use Rattle.ltx_backup.specs.Ordered.{AllOrdered}
use Rattle.ltx_backup.specs.Restoring.{up_to, restored, EndsWith, IsFirstMisfit, Restores}
use Rattle.lf_disk.specs.History.{History, now}
use Rattle.ltx_backup.specs.declared.entry.Entry.{Entry}
use Rattle.ltx_backup.specs.declared.entry.Index.{Index}
use Rattle.ltx_backup.specs.declared.fault.BackupFault.{BackupFault}
use Rattle.ltx_backup.specs.declared.fault.BackupFault.TheVariants as fault
use Rattle.ltx_backup.specs.declared.restored.Restored.{Restored}
use Rattle.ltx_backup.proofs.Restores.{levels_join, up_to_join, taken, left_out, among_left, among_right, misfit_has, ends_with, with_ends, ends_left, ends_right, ends_cases}

pub ordered : (f : Folder) (files : List Ltx) → AllStand f files → AllOrdered files
ordered f [] stand = tt
ordered f (file ∷ files) stand = (stand.0.valid.header.min, stand.0.valid.header.max, ordered f files stand.1)

pub ordered_join : (xs ys : List Ltx) → AllOrdered xs → AllOrdered ys → AllOrdered (xs ++ ys)
ordered_join [] ys first second = second
ordered_join (x ∷ xs) ys first second = (first.0, first.1, ordered_join xs ys first.2 second)

pub follows : (here : Pos) (file : Ltx) → before file ≡ here → 1 ≤ file.header.min → here.txid < file.header.min
follows here file joins some = let at : file.header.min - 1 ≡ here.txid = ap (λ (p : Pos). p.txid) joins in omega (arith, at, some)

-- past a transaction there is none up to it
pub none_up_to : (txid : ℕ) (here : Pos) (files : List Ltx) → txid ≤ here.txid → LeadOn here files → AllOrdered files → up_to txid files ≡ []
none_up_to txid here [] past lead order = refl
none_up_to txid here (file ∷ files) past lead order =
    let first = follows here file lead.0 order.0 in
    left_out txid file files (omega (arith, first, past, order.1)) ∙ none_up_to txid (after file) files (omega (arith, first, past, order.1)) lead.1 order.2

pub ends_past : (here : Pos) (files : List Ltx) (txid sum : ℕ) → LeadOn here files → AllOrdered files → EndsWith files txid sum → here.txid < txid
ends_past here [] txid sum lead order ends = absurd ends
ends_past here (file ∷ files) txid sum lead order (inl is) = let first = follows here file lead.0 order.0 in omega (arith, first, is.0, order.1)
ends_past here (file ∷ files) txid sum lead order (inr ends) =
    let first = follows here file lead.0 order.0 in
    let later = ends_past (after file) files txid sum lead.1 order.2 ends in
    omega (arith, first, later, order.1)

-- the last file up to the end of one is that one
pub final_post : (here : Pos) (files : List Ltx) (x txid sum : ℕ) → LeadOn here files → AllOrdered files → EndsWith files txid sum → last_post x (up_to txid files) ≡ sum
final_post here [] x txid sum lead order ends = absurd ends
final_post here (file ∷ files) x txid sum lead order (inl is) =
    ap (λ (l : List Ltx). last_post x l) (taken txid file files (omega (arith, is.0)))
    ∙ ap (λ (l : List Ltx). last_post file.post l) (none_up_to txid (after file) files (omega (arith, is.0)) lead.1 order.2) ∙ is.1
final_post here (file ∷ files) x txid sum lead order (inr ends) =
    let later = ends_past (after file) files txid sum lead.1 order.2 ends in
    ap (λ (l : List Ltx). last_post x l) (taken txid file files (omega (arith, later))) ∙ final_post (after file) files file.post txid sum lead.1 order.2 ends

module _ (levels : Levels) (txid : ℕ) (joined : LeadOn nowhere (chain levels)) (order : AllOrdered (chain levels)) (none : Restored) (blank : none.image ≡ empty_image) where
  parts : up_to txid (chain levels) ≡ (up_to txid levels.highs ++ up_to txid levels.middles) ++ up_to txid levels.lows
  parts = up_to_join txid (levels.highs ++ levels.middles) levels.lows ∙ ap (λ (l : List Ltx). l ++ up_to txid levels.lows) (up_to_join txid levels.highs levels.middles)

  whole : (a b : ℕ) → IsFirstMisfit none.image ((up_to txid levels.highs ++ up_to txid levels.middles) ++ up_to txid levels.lows) a b → IsFirstMisfit empty_image (up_to txid (chain levels)) a b
  whole a b first =
      subst (λ (i : DatabaseImage). IsFirstMisfit i (up_to txid (chain levels)) a b) blank (subst (λ (l : List Ltx). IsFirstMisfit none.image l a b) (sym parts) first)

  pub high_misfit : (why : BackupFault) → IsMisfitAmong (up_to txid levels.highs) 2 none why → Restores levels txid (Err why)
  high_misfit fault.Disk misfit = tt
  high_misfit fault.Broken misfit = absurd misfit
  high_misfit (fault.NotNext have want) misfit = absurd misfit
  high_misfit (fault.NoSuchTxid asked last) misfit = absurd misfit
  high_misfit (fault.SumDiffers want got) misfit = absurd misfit
  high_misfit (fault.Damaged level a b) misfit = (
    whole a b (among_left (up_to txid levels.highs ++ up_to txid levels.middles) (up_to txid levels.lows) none a b (among_left (up_to txid levels.highs) (up_to txid levels.middles) none a b misfit.1)),
    subst (λ (k : ℕ). Has (on_level levels k) a b) (sym misfit.0) (misfit_has none.image txid levels.highs a b misfit.1),
  )
  high_misfit fault.NoMemory misfit = tt

  module _ (high : Restored) (highs : AppliesAll (up_to txid levels.highs) none high) where
    pub middle_misfit : (why : BackupFault) → IsMisfitAmong (up_to txid levels.middles) 1 high why → Restores levels txid (Err why)
    middle_misfit fault.Disk misfit = tt
    middle_misfit fault.Broken misfit = absurd misfit
    middle_misfit (fault.NotNext have want) misfit = absurd misfit
    middle_misfit (fault.NoSuchTxid asked last) misfit = absurd misfit
    middle_misfit (fault.SumDiffers want got) misfit = absurd misfit
    middle_misfit (fault.Damaged level a b) misfit = (
      whole a b (among_left (up_to txid levels.highs ++ up_to txid levels.middles) (up_to txid levels.lows) none a b (among_right (up_to txid levels.highs) (up_to txid levels.middles) none high a b highs misfit.1)),
      subst (λ (k : ℕ). Has (on_level levels k) a b) (sym misfit.0) (misfit_has high.image txid levels.middles a b misfit.1),
    )
    middle_misfit fault.NoMemory misfit = tt

    module _ (middle : Restored) (middles : AppliesAll (up_to txid levels.middles) high middle) where
      both : AppliesAll (up_to txid levels.highs ++ up_to txid levels.middles) none middle
      both = levels_join (up_to txid levels.highs) (up_to txid levels.middles) none high middle highs middles

      pub low_misfit : (why : BackupFault) → IsMisfitAmong (up_to txid levels.lows) 0 middle why → Restores levels txid (Err why)
      low_misfit fault.Disk misfit = tt
      low_misfit fault.Broken misfit = absurd misfit
      low_misfit (fault.NotNext have want) misfit = absurd misfit
      low_misfit (fault.NoSuchTxid asked last) misfit = absurd misfit
      low_misfit (fault.SumDiffers want got) misfit = absurd misfit
      low_misfit (fault.Damaged level a b) misfit = (
        whole a b (among_right (up_to txid levels.highs ++ up_to txid levels.middles) (up_to txid levels.lows) none middle a b both misfit.1),
        subst (λ (k : ℕ). Has (on_level levels k) a b) (sym misfit.0) (misfit_has middle.image txid levels.lows a b misfit.1),
      )
      low_misfit fault.NoMemory misfit = tt

      module _ (low : Restored) (lows : AppliesAll (up_to txid levels.lows) middle low) (sum : ℕ) (ends : EndsWith (chain levels) txid sum) where
        all : AppliesAll (up_to txid (chain levels)) none low
        all =
            subst (λ (l : List Ltx). AppliesAll l none low) (sym parts)
            (levels_join (up_to txid levels.highs ++ up_to txid levels.middles) (up_to txid levels.lows) none middle low both lows)

        image_is : low.image ≡ restored (chain levels) txid
        image_is = all.image ∙ ap (λ (i : DatabaseImage). apply_all i (up_to txid (chain levels))) blank

        post_is : low.post ≡ sum
        post_is = all.post ∙ final_post nowhere (chain levels) none.post txid sum joined order ends

        pub gives_image : (image : DatabaseImage) → image ≡ low.image → low.post ≡ image_sum low.image → Restores levels txid (Ok image)
        gives_image image is same = (
          is ∙ image_is,
          subst (λ (i : DatabaseImage). FitAll i (up_to txid (chain levels))) blank all.fit,
          subst (λ (n : ℕ). EndsWith (chain levels) txid n) (sym post_is ∙ same ∙ ap image_sum (sym is)) ends,
        )

        pub gives_sum : (why : BackupFault) → IsOtherSum low why → Restores levels txid (Err why)
        gives_sum fault.Disk other = absurd other
        gives_sum fault.Broken other = absurd other
        gives_sum (fault.NotNext have want) other = absurd other
        gives_sum (fault.NoSuchTxid asked last) other = absurd other
        gives_sum (fault.SumDiffers want got) other =
            (subst (λ (n : ℕ). EndsWith (chain levels) txid n) (sym post_is ∙ sym other.0) ends, other.1 ∙ ap image_sum image_is, other.2)
        gives_sum (fault.Damaged level a b) other = absurd other
        gives_sum fault.NoMemory other = absurd other

-- the transactions that files end with are those of their entries
module _ (levels : Levels) (index : Index) (is : IsIndex levels index) (txid : ℕ) where
  pub any_ends : (sum : ℕ) → EndsWith (chain levels) txid sum → EndsIn index.entries txid
  any_ends sum ends = elim (ends_cases (levels.highs ++ levels.middles) levels.lows txid sum ends) [
    | inl upper ↦ elim (ends_cases levels.highs levels.middles txid sum upper) [
      | inl high ↦ inr (inr (subst (λ (es : List Entry). Ends es txid) (sym is.highs) (with_ends levels.highs txid sum high)))
      | inr middle ↦ inr (inl (subst (λ (es : List Entry). Ends es txid) (sym is.middles) (with_ends levels.middles txid sum middle)))
    ]
    | inr low ↦ inl (subst (λ (es : List Entry). Ends es txid) (sym is.lows) (with_ends levels.lows txid sum low))
  ]

  pub kept_ends : EndsIn index.entries txid → (sum : ℕ) × EndsWith (chain levels) txid sum
  kept_ends (inl low) =
      let it = ends_with levels.lows txid (subst (λ (es : List Entry). Ends es txid) is.lows low) in
      (it.0, ends_right (levels.highs ++ levels.middles) levels.lows txid it.0 it.1)
  kept_ends (inr (inl middle)) =
      let it = ends_with levels.middles txid (subst (λ (es : List Entry). Ends es txid) is.middles middle) in
      (it.0, ends_left (levels.highs ++ levels.middles) levels.lows txid it.0 (ends_right levels.highs levels.middles txid it.0 it.1))
  kept_ends (inr (inr high)) =
      let it = ends_with levels.highs txid (subst (λ (es : List Entry). Ends es txid) is.highs high) in
      (it.0, ends_left (levels.highs ++ levels.middles) levels.lows txid it.0 (ends_left levels.highs levels.middles txid it.0 it.1))

module _ (levels : Levels) (index : Index) (l m h : History) (kept : IsKept levels index l m h) where
  pub kept_index : IsIndex levels index
  kept_index = record {
    lows = kept.lows.entries_are;
    middles = kept.middles.entries_are;
    highs = kept.highs.entries_are;
    joined = kept.joined;
    end = kept.end;
  }

  pub chain_ordered : AllOrdered (chain levels)
  chain_ordered =
      ordered_join (levels.highs ++ levels.middles) levels.lows
      (ordered_join levels.highs levels.middles (ordered (now h) levels.highs kept.highs.has.stand) (ordered (now m) levels.middles kept.middles.has.stand))
      (ordered (now l) levels.lows kept.lows.has.stand)
