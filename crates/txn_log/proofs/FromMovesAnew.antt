-- A store moves by the snapshot of a source.
use Rattle.std.proofs.Common.{◌≡◌, ℕ, Bool, true, false, Option, None, Some, Err, List, [], ◌∷◌, IsTrue, refl, subst}
use Rattle.lf_disk.specs.History.{History, now}
use Rattle.lf_sqlite_pages.specs.Apply.{apply}
use Rattle.lf_sqlite_pages.specs.Image.{empty_image}
use Rattle.ltx_codec.specs.Format.{IsLtx, file_encoding, no_meaning}
use Rattle.ltx_codec.specs.declared.file.Ltx.{Ltx}
use Rattle.world_laws.specs.Store.{StoreState, Failure, FailedIn, Install, MayBeFound, installed}
use Rattle.txn_log.specs.BringingAnew.{IsOverLog, PlacesSnapshot, ReadsAs, log_file_of}
use Rattle.txn_log.specs.Calls.{RestsAs, Moved}
use Rattle.txn_log.specs.Draft.{sums_after}
use Rattle.txn_log.specs.From.{Gave}
use Rattle.txn_log.specs.FromSnapshot.{GaveSnapshot, RefusesSnapshot, RefusesInstall, WentInstalled}
use Rattle.txn_log.specs.Installing.{PlacesAnew}
use Rattle.txn_log.specs.Store.{state_in, state_of, failure_of, entry_of, IsStore, IsShaped}
use Rattle.txn_log.specs.declared.entry.Attempt.TheVariants as attempt
use Rattle.txn_log.specs.declared.entry.Entry.{Entry}
use Rattle.txn_log.specs.declared.fault.StoreFault.TheVariants as fault
use Rattle.txn_log.specs.declared.fault.FromFault.{FromFault}
use Rattle.txn_log.specs.declared.fault.FromFault.TheVariants as from
use Rattle.txn_log.specs.declared.publishing.Placed.TheVariants as placed
use Rattle.txn_log.proofs.Installings.{is_done, stands, left_done, went_done, left_in, went_in}
use Rattle.txn_log.proofs.Moves.{image, files}
use Rattle.txn_log.proofs.Naming.{no_others_in}

-- a store that is not broken
module _ (h : History) (size commit : ℕ) (entries : List Entry) (dropped : Bool) (sums : List ℕ) (whole tried : ℕ)
    (shaped : IsShaped commit entries dropped sums) (kept : IsStore h size commit entries dropped sums false whole tried) where
  pub over_log : IsOverLog (image h size commit entries dropped sums whole tried shaped kept) (files h size commit entries dropped sums whole tried shaped kept) dropped entries h
  over_log = record {
    rest = kept.rest;
    others = no_others_in entries (image h size commit entries dropped sums whole tried shaped kept) dropped (now h) kept.rest.kept;
  }

  -- and a snapshot that was placed over it
  module _ (left left_now : Option (List ℕ)) (room : ℕ) (file : Ltx) (gave : GaveSnapshot left left_now room file) (read : ReadsAs file) (honest : Bool) (true_to : IsTrue honest) (new : History) where
    abbrev encoding : List ℕ
    encoding = file_encoding file no_meaning

    is : IsLtx encoding file
    is = record { valid = gave.gave.is.valid; reserved = no_meaning; room = refl; encoding = refl }

    module _ (places : PlacesSnapshot honest h entries file placed.Whole new) where
      abbrev pub state_after : StoreState
      state_after = state_in file.header.page_size file.header.commit (entry_of file ∷ []) false (now new)

      abbrev all : PlacesAnew (image h size commit entries dropped sums whole tried shaped kept) (files h size commit entries dropped sums whole tried shaped kept) dropped (apply empty_image file.change) (log_file_of file) h placed.Whole new
      all = places true_to (image h size commit entries dropped sums whole tried shaped kept) (files h size commit entries dropped sums whole tried shaped kept) dropped over_log

      pub done_from : state_after ≡ installed file
      done_from = is_done file gave.gave.is.valid gave.first encoding is read h size commit entries dropped sums whole tried shaped kept new all.0 all.1

      pub stands_from : (w t : ℕ) → IsStore new file.header.page_size file.header.commit (entry_of file ∷ []) false (sums_after [] file.change) false w t
      stands_from w t = stands file gave.gave.is.valid gave.first encoding is read h size commit entries dropped sums whole tried shaped kept new all.0 all.1 w t

      pub left_from : RestsAs (λ left. left ≡ state_after) new
      left_from = left_done file gave.gave.is.valid gave.first encoding is read h size commit entries dropped sums whole tried shaped kept new all.0 all.1

      pub went_from : Moved (state_in size commit entries dropped (now h)) None h (Install file ∷ []) None state_after None new
      went_from = went_done file gave.gave.is.valid gave.first encoding is read h size commit entries dropped sums whole tried shaped kept new all.0 all.1

    module _ (at : ℕ) (places : PlacesSnapshot honest h entries file (placed.From at) new) where
      abbrev pub failure : Failure
      failure = failure_of new at attempt.Install

      abbrev pub all_in : PlacesAnew (image h size commit entries dropped sums whole tried shaped kept) (files h size commit entries dropped sums whole tried shaped kept) dropped (apply empty_image file.change) (log_file_of file) h (placed.From at) new
      all_in = places true_to (image h size commit entries dropped sums whole tried shaped kept) (files h size commit entries dropped sums whole tried shaped kept) dropped over_log

      pub left_in_from : RestsAs (MayBeFound (state_of new size commit entries dropped true h.moment) (Some failure)) new
      left_in_from = left_in file gave.gave.is.valid gave.first encoding is read h size commit entries dropped sums whole tried shaped kept new at all_in.0 all_in.1

      pub went_in_from : Moved (state_in size commit entries dropped (now h)) None h [] (Some (FailedIn (Install file))) (state_of new size commit entries dropped true h.moment) (Some failure) new
      went_in_from = went_in file gave.gave.is.valid gave.first encoding is read h size commit entries dropped sums whole tried shaped kept new at all_in.0 all_in.1

-- what was refused was not begun
pub refused_went : (left left_now : Option (List ℕ)) (old : StoreState) (was : Option Failure) (start : History) (why : FromFault) (new : StoreState) (now_failed : Option Failure) (end : History) → (why ≡ from.Store fault.Disk → ⊥)
    → Moved old was start [] None new now_failed end → WentInstalled left left_now old was start (Err why) new now_failed end
refused_went left left_now old was start from.Source new now_failed end refused it = it
refused_went left left_now old was start (from.Ltx f) new now_failed end refused it = it
refused_went left left_now old was start from.NotSnapshot new now_failed end refused it = it
refused_went left left_now old was start (from.Room pages) new now_failed end refused it = it
refused_went left left_now old was start (from.Store fault.Disk) new now_failed end refused it = absurd (refused refl)
refused_went left left_now old was start (from.Store fault.Broken) new now_failed end refused it = it
refused_went left left_now old was start (from.Store (fault.NotNext have want)) new now_failed end refused it = it
refused_went left left_now old was start (from.Store (fault.SumDiffers want got)) new now_failed end refused it = it
refused_went left left_now old was start (from.Store fault.Limit) new now_failed end refused it = it
refused_went left left_now old was start (from.Store fault.NoMemory) new now_failed end refused it = it
refused_went left left_now old was start (from.Store (fault.PageSize have want)) new now_failed end refused it = it

-- what was read and refused
pub refuses_read : (left left_now : Option (List ℕ)) (room : ℕ) (broken : Bool) (file : Ltx) (why : FromFault) → Gave left left_now file → RefusesSnapshot room broken file why → RefusesInstall left left_now room broken why
refuses_read left left_now room broken file from.Source gave refuses = tt
refuses_read left left_now room broken file (from.Ltx f) gave refuses = absurd refuses
refuses_read left left_now room broken file from.NotSnapshot gave refuses = (file, gave, refuses)
refuses_read left left_now room broken file (from.Room pages) gave refuses = (file, gave, refuses)
refuses_read left left_now room broken file (from.Store fault.Disk) gave refuses = absurd refuses
refuses_read left left_now room broken file (from.Store fault.Broken) gave refuses = (file, gave, refuses)
refuses_read left left_now room broken file (from.Store (fault.NotNext have want)) gave refuses = (file, gave, refuses)
refuses_read left left_now room broken file (from.Store (fault.SumDiffers want got)) gave refuses = (file, gave, refuses)
refuses_read left left_now room broken file (from.Store fault.Limit) gave refuses = (file, gave, refuses)
refuses_read left left_now room broken file (from.Store fault.NoMemory) gave refuses = (file, gave, refuses)
refuses_read left left_now room broken file (from.Store (fault.PageSize have want)) gave refuses = (file, gave, refuses)

-- a store that is broken before does not answer Disk
pub not_disk : (left left_now : Option (List ℕ)) (room : ℕ) (why : FromFault) → RefusesInstall left left_now room true why → why ≡ from.Store fault.Disk → ⊥
not_disk left left_now room why refuses is =
    let no : true ≡ false = subst (λ (w : FromFault). RefusesInstall left left_now room true w) is refuses in
    true_false no
  where
    true_false : true ≡ false → ⊥
    true_false same = cc
