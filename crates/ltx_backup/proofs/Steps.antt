-- One file of a level after another is applied, up to a transaction.
use Rattle.std.proofs.Common.{◌≡◌, ◌∙◌, inl, inr, ℕ, ◌+◌, ◌<◌, ◌≤◌, List, ◌∷◌, length, drop, get_or, sym, ap, subst, arith}
use Rattle.std.proofs.lemmas.Bool.{cases_lt}
use Rattle.lf_disk.specs.declared.name.FileName.TheVariants.{Ltx as LtxName}
use Rattle.lf_disk.specs.Folder.{Folder}
use Rattle.lf_sqlite_pages.specs.Apply.{Fits, apply}
use Rattle.ltx_codec.specs.declared.file.Ltx.{Ltx}
use Rattle.ltx_backup.specs.Applying.{AppliesOne, IsMisfitUpTo, IsMisfitAmong}
use Rattle.ltx_backup.specs.Entries.{entries_of}
use Rattle.ltx_backup.specs.Levels.{AllStand}
use Rattle.ltx_backup.specs.Restoring.{up_to, IsFirstMisfit}
use Rattle.ltx_backup.specs.declared.entry.Entry.{Entry}
use Rattle.ltx_backup.specs.declared.fault.BackupFault.{BackupFault}
use Rattle.ltx_backup.specs.declared.fault.BackupFault.TheVariants as fault
use Rattle.ltx_backup.specs.declared.restored.Restored.{Restored}
use Rattle.ltx_backup.proofs.Holding.{all_stand_same}
use Rattle.ltx_backup.proofs.Lists.{no_entry}
use Rattle.ltx_backup.proofs.Nths.{Nth, nth}
use Rattle.ltx_backup.proofs.Restores.{GoesOn, goes_on, taken, left_out, the_one}
use Rattle.ltx_backup.proofs.Stills.{Alike}

module _ (f g : Folder) (entries : List Entry) (files : List Ltx) (i : ℕ) where
  module _ (txid : ℕ) (before here next : Restored) (same : Alike f g) (are : entries ≡ entries_of files) (stand : AllStand f files) (more : i < length entries)
      (so_far : GoesOn (up_to txid files) (up_to txid (drop i files)) before here) where
    at : Nth g files i (get_or entries i no_entry)
    at = nth g entries files i are more (all_stand_same f g files (λ a b. same (LtxName a b)) stand)

    split_far : GoesOn (up_to txid files) (up_to txid (at.file ∷ drop (i + 1) files)) before here
    split_far = subst (λ (l : List Ltx). GoesOn (up_to txid files) (up_to txid l) before here) at.splits so_far

    max_is : (get_or entries i no_entry).max ≡ at.file.header.max
    max_is = ap (λ (e : Entry). e.max) at.is

    pub step : ((get_or entries i no_entry).max ≤ txid → AppliesOne g (get_or entries i no_entry) here next) → (txid < (get_or entries i no_entry).max → next ≡ here)
        → GoesOn (up_to txid files) (up_to txid (drop (i + 1) files)) before next
    step applies passes = elim (cases_lt txid (get_or entries i no_entry).max) [
      | inl past ↦
          let skipped = subst (λ (l : List Ltx). GoesOn (up_to txid files) l before here) (left_out txid at.file (drop (i + 1) files) (omega (arith, past, max_is))) split_far in
          subst (λ (s : Restored). GoesOn (up_to txid files) (up_to txid (drop (i + 1) files)) before s) (sym (passes past)) skipped
      | inr within ↦
          let one = applies within in
          let it : one.file ≡ at.file = the_one g (get_or entries i no_entry) one.file at.file at.is one.numbers one.stands at.stands in
          let far = subst (λ (l : List Ltx). GoesOn (up_to txid files) l before here) (taken txid at.file (drop (i + 1) files) (omega (arith, within, max_is))) split_far in
          goes_on (up_to txid files) (up_to txid (drop (i + 1) files)) before here next at.file far
          (subst (λ (x : Ltx). Fits here.image x.change) it one.fits) (one.image ∙ ap (λ (x : Ltx). apply here.image x.change) it) (one.post ∙ ap (λ (x : Ltx). x.post) it)
    ]

  module _ (level txid : ℕ) (before here : Restored) (same : Alike f g) (are : entries ≡ entries_of files) (stand : AllStand f files) (more : i < length entries)
      (so_far : GoesOn (up_to txid files) (up_to txid (drop i files)) before here) where
    at_it : Nth g files i (get_or entries i no_entry)
    at_it = nth g entries files i are more (all_stand_same f g files (λ a b. same (LtxName a b)) stand)

    first_misfit : (get_or entries i no_entry).max ≤ txid → (Fits here.image at_it.file.change → ⊥)
        → IsFirstMisfit before.image (up_to txid files) (get_or entries i no_entry).min (get_or entries i no_entry).max
    first_misfit within not =
        let max_at : (get_or entries i no_entry).max ≡ at_it.file.header.max = ap (λ (e : Entry). e.max) at_it.is in
        let min_at : (get_or entries i no_entry).min ≡ at_it.file.header.min = ap (λ (e : Entry). e.min) at_it.is in
        let rest : up_to txid (drop i files) ≡ at_it.file ∷ up_to txid (drop (i + 1) files) = ap (λ (l : List Ltx). up_to txid l) at_it.splits ∙ taken txid at_it.file (drop (i + 1) files) (omega (arith, within, max_at)) in
        so_far.misfit _ _ (subst (λ (l : List Ltx). IsFirstMisfit here.image l (get_or entries i no_entry).min (get_or entries i no_entry).max) (sym rest) (inl (sym min_at, sym max_at, not)))

    pub misfit_among : (why : BackupFault) → IsMisfitUpTo g level (get_or entries i no_entry) txid here why → IsMisfitAmong (up_to txid files) level before why
    misfit_among fault.Disk misfit = tt
    misfit_among fault.Broken misfit = absurd misfit
    misfit_among (fault.NotNext have want) misfit = absurd misfit
    misfit_among (fault.NoSuchTxid asked last) misfit = absurd misfit
    misfit_among (fault.SumDiffers want got) misfit = absurd misfit
    misfit_among (fault.Damaged level_at a b) misfit = (
      misfit.0,
      subst (λ (y : ℕ). IsFirstMisfit before.image (up_to txid files) a y) (sym misfit.2)
          (subst (λ (x : ℕ). IsFirstMisfit before.image (up_to txid files) x (get_or entries i no_entry).max) (sym misfit.1)
          (first_misfit misfit.3.0 (λ fits. misfit.3.1 at_it.file (sym (ap (λ (e : Entry). e.min) at_it.is), sym (ap (λ (e : Entry). e.max) at_it.is)) at_it.stands fits))),
    )
    misfit_among fault.NoMemory misfit = tt
