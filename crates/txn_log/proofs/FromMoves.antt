-- A store moves by the file of a source.
use Rattle.std.proofs.Common.{◌≡◌, ℕ, Bool, true, false, Option, None, Err, List, [], ◌∷◌, refl, sym, ◌∙◌, ap, subst, arith}
use Rattle.lf_base.specs.declared.pos.Pos.{Pos}
use Rattle.lf_disk.specs.declared.name.FileName.TheVariants.{Database, Staged}
use Rattle.lf_disk.specs.Folder.{bytes_of, SameBut}
use Rattle.lf_disk.specs.History.{History, now, EachMoment}
use Rattle.lf_disk.proofs.Moments.{weakened}
use Rattle.lf_sqlite_pages.specs.Header.{image_is_wal}
use Rattle.ltx_codec.specs.Format.{IsFile, IsLtx, no_meaning, file_encoding}
use Rattle.ltx_codec.specs.Sums.{sum_table}
use Rattle.ltx_codec.specs.declared.file.Ltx.{Ltx}
use Rattle.world_laws.specs.Store.{StoreState, Failure}
use Rattle.txn_log.specs.Apply.{whole_file}
use Rattle.txn_log.specs.Bringing.{IsBrought, IsOverGround, ReadsBack, CountsBrought}
use Rattle.txn_log.specs.Calls.{StandsForOne, RestsAs, Moved}
use Rattle.txn_log.specs.From.{RefusesFrom, WentFrom, BreaksFrom, CountsRefused}
use Rattle.txn_log.specs.declared.bringing.Brought.TheVariants as brought
use Rattle.txn_log.specs.declared.fault.StoreFault.TheVariants as fault
use Rattle.txn_log.specs.declared.fault.FromFault.{FromFault}
use Rattle.txn_log.specs.declared.fault.FromFault.TheVariants as from
use Rattle.txn_log.specs.Kept.{LogFile, file_of, Kept, IsAtRest, IsAtRestAt}
use Rattle.txn_log.specs.Publishing.{CanTake}
use Rattle.txn_log.specs.Store.{image_in, files_in, state_in, end_of_entries, AreEntries, IsStore, IsShaped}
use Rattle.txn_log.specs.Taking.{IsQuiet}
use Rattle.txn_log.specs.declared.bringing.Ground.{Ground}
use Rattle.txn_log.specs.declared.entry.Entry.{Entry}
use Rattle.txn_log.proofs.Applyings.{is_whole}
use Rattle.txn_log.proofs.Moves.{image, files, itself}
use Rattle.txn_log.proofs.Placings.{kept_same}
use Rattle.txn_log.proofs.Taking.{can_take-whole}

-- a store whose disk staged something
module _ (h new : History) (size commit : ℕ) (entries : List Entry) (dropped : Bool) (sums : List ℕ) (whole tried : ℕ)
    (shaped : IsShaped commit entries dropped sums) (kept : IsStore h size commit entries dropped sums false whole tried) (run : EachMoment h new (SameBut Staged (now h))) (quiet : IsQuiet (now h) new) where
  same_image : image_in size commit (now new) ≡ image_in size commit (now h)
  same_image = ap (λ (o : Option (List ℕ)). image_in size commit (λ _. o)) (quiet.seen Database refl)

  same_files : (es : List Entry) → files_in es (now new) ≡ files_in es (now h)
  same_files [] = refl
  same_files (e ∷ es) = λ i. record { min = e.min; max = e.max; encoding = bytes_of (quiet.seen (Rattle.lf_disk.specs.declared.name.FileName.TheVariants.Ltx e.min e.max) refl i) } ∷ same_files es i

  pub same_store : state_in size commit entries dropped (now new) ≡ state_in size commit entries dropped (now h)
  same_store = λ i. record { image = same_image i; log = Rattle.txn_log.specs.Durable.log_of (same_files entries i); dropped = dropped }

  kept_new : Kept (image_in size commit (now h)) (files_in entries (now h)) dropped (now new)
  kept_new = kept_same (image_in size commit (now h)) (files_in entries (now h)) dropped (now h) (now new) kept.rest.kept quiet.seen

  at_rest : IsAtRest (image_in size commit (now h)) (files_in entries (now h)) dropped new
  at_rest = record {
    kept = kept_new;
    shows = subst (λ (o : Option (List ℕ)). Rattle.txn_log.specs.Kept.Shows (image_in size commit (now h)) (bytes_of o)) (sym (quiet.seen Database refl)) kept.rest.shows;
    settled = λ c may n other. quiet.left c may n other ∙ sym (quiet.seen n other);
  }

  pub still_kept : (w t : ℕ) → IsStore new size commit entries dropped sums false w t
  still_kept w t = record {
    past = omega arith;
    rest = subst (λ (i : Rattle.lf_sqlite_pages.specs.Image.DatabaseImage). IsAtRestAt i (files_in entries (now new)) dropped new new.moment) (sym same_image)
        (subst (λ (fs : List LogFile). IsAtRestAt (image_in size commit (now h)) fs dropped new new.moment) (sym (same_files entries)) at_rest);
    log = subst (λ (fs : List LogFile). AreEntries entries fs) (sym (same_files entries)) kept.log;
    table = kept.table ∙ ap sum_table (sym same_image);
    early = λ same. absurd (false_true same);
  }
    where
      false_true : false ≡ true → ⊥
      false_true same = cc

  pub still_left : RestsAs (λ left. left ≡ state_in size commit entries dropped (now new)) new
  still_left c may =
      subst (λ (s : StoreState). StandsForOne (λ left. left ≡ s) c) (sym same_store)
      (itself h size commit entries dropped sums whole tried shaped kept c (kept_same (image_in size commit (now h)) (files_in entries (now h)) dropped (now h) c kept.rest.kept (quiet.left c may)))

  pub still_mode : (wal : Bool) → wal ≡ image_is_wal (image_in size commit (now h)) → wal ≡ image_is_wal (image_in size commit (now new))
  still_mode wal is = is ∙ ap image_is_wal (sym same_image)

  -- nothing was done
  pub went_nowhere : Moved (state_in size commit entries dropped (now h)) None h [] None (state_in size commit entries dropped (now new)) None new
  went_nowhere = record {
    can = tt;
    whole = λ some. (refl, refl);
    store = same_store;
    broken = refl;
    moments = weakened h new (SameBut Staged (now h)) (StandsForOne (λ left. left ≡ state_in size commit entries dropped (now h))) run
        (λ c same. itself h size commit entries dropped sums whole tried shaped kept c (kept_same (image_in size commit (now h)) (files_in entries (now h)) dropped (now h) c kept.rest.kept same));
    rests = still_left;
  }

-- a file that was brought
module _ (h : History) (size commit : ℕ) (entries : List Entry) (dropped : Bool) (sums : List ℕ) (whole tried : ℕ) (shaped : IsShaped commit entries dropped sums) (wal : Bool) (room : ℕ) where
  abbrev pub ground : Ground
  ground = record { position = end_of_entries entries; page_size = size; commit = commit; wal = wal; dropped = dropped; room = room }

  pub over_ground : (kept : IsStore h size commit entries dropped sums false whole tried) → IsOverGround (image h size commit entries dropped sums whole tried shaped kept) (files h size commit entries dropped sums whole tried shaped kept) h ground sums
  over_ground kept = record {
    rest = kept.rest;
    empty = λ marked. ap (λ (es : List Entry). files_in es (now h)) (shaped.marked marked);
    complete = λ file valid taken. (can_take-whole h size commit entries dropped sums whole tried kept file valid taken (is_whole size commit entries dropped sums file shaped valid taken)).complete;
    whole = λ file valid taken. is_whole size commit entries dropped sums file shaped valid taken;
  }

  module _ (left left_now : Option (List ℕ)) (file : Ltx) (brought : IsBrought left left_now ground sums file) (back : ReadsBack commit file) where
    abbrev pub made : Ltx
    made = whole_file commit file

    abbrev pub encoding : List ℕ
    encoding = file_encoding made no_meaning

    pub valid : IsFile made
    valid = is_whole size commit entries dropped sums file shaped brought.gave.is.valid brought.taken

    pub is : IsLtx encoding made
    is = record { valid = valid; reserved = no_meaning; room = refl; encoding = refl }

    pub read : file_of encoding ≡ made
    read = back valid

    pub can : (kept : IsStore h size commit entries dropped sums false whole tried) → CanTake (state_in size commit entries dropped (now h)) made
    can kept = can_take-whole h size commit entries dropped sums whole tried kept file brought.gave.is.valid brought.taken valid

-- what was refused was not begun
pub refused_went : (left left_now : Option (List ℕ)) (commit : ℕ) (old : StoreState) (was : Option Failure) (start : History) (why : FromFault) (new : StoreState) (now_failed : Option Failure) (end : History) → (why ≡ from.Store fault.Disk → ⊥)
    → Moved old was start [] None new now_failed end → WentFrom left left_now commit old was start (Err why) new now_failed end
refused_went left left_now commit old was start from.Source new now_failed end refused it = it
refused_went left left_now commit old was start (from.Ltx f) new now_failed end refused it = it
refused_went left left_now commit old was start from.NotSnapshot new now_failed end refused it = it
refused_went left left_now commit old was start (from.Room pages) new now_failed end refused it = it
refused_went left left_now commit old was start (from.Store fault.Disk) new now_failed end refused it = absurd (refused refl)
refused_went left left_now commit old was start (from.Store fault.Broken) new now_failed end refused it = it
refused_went left left_now commit old was start (from.Store (fault.NotNext have want)) new now_failed end refused it = it
refused_went left left_now commit old was start (from.Store (fault.SumDiffers want got)) new now_failed end refused it = it
refused_went left left_now commit old was start (from.Store fault.Limit) new now_failed end refused it = it
refused_went left left_now commit old was start (from.Store fault.NoMemory) new now_failed end refused it = it
refused_went left left_now commit old was start (from.Store (fault.PageSize have want)) new now_failed end refused it = it

pub refused_breaks : (was now_broken : Bool) (source source_now disk disk_now : ℕ) (why : FromFault) → now_broken ≡ was → (why ≡ from.Store fault.Disk → ⊥) → CountsRefused source source_now why → disk_now ≡ disk
    → BreaksFrom {T = Pos} was source disk (Err why) now_broken source_now disk_now
refused_breaks was now_broken source source_now disk disk_now from.Source same refused counts still = (same, counts, still)
refused_breaks was now_broken source source_now disk disk_now (from.Ltx f) same refused counts still = (same, counts, still)
refused_breaks was now_broken source source_now disk disk_now from.NotSnapshot same refused counts still = (same, counts, still)
refused_breaks was now_broken source source_now disk disk_now (from.Room pages) same refused counts still = (same, counts, still)
refused_breaks was now_broken source source_now disk disk_now (from.Store fault.Disk) same refused counts still = absurd (refused refl)
refused_breaks was now_broken source source_now disk disk_now (from.Store fault.Broken) same refused counts still = (same, counts, still)
refused_breaks was now_broken source source_now disk disk_now (from.Store (fault.NotNext have want)) same refused counts still = (same, counts, still)
refused_breaks was now_broken source source_now disk disk_now (from.Store (fault.SumDiffers want got)) same refused counts still = (same, counts, still)
refused_breaks was now_broken source source_now disk disk_now (from.Store fault.Limit) same refused counts still = (same, counts, still)
refused_breaks was now_broken source source_now disk disk_now (from.Store fault.NoMemory) same refused counts still = (same, counts, still)
refused_breaks was now_broken source source_now disk disk_now (from.Store (fault.PageSize have want)) same refused counts still = (same, counts, still)

-- what was brought and refused counts as that
pub refused_counts : (source source_now disk disk_now : ℕ) (why : FromFault) → CountsBrought source source_now disk disk_now (brought.Refused why) → CountsRefused source source_now why × (disk_now ≡ disk)
refused_counts source source_now disk disk_now from.Source counts = counts
refused_counts source source_now disk disk_now (from.Ltx f) counts = counts
refused_counts source source_now disk disk_now from.NotSnapshot counts = counts
refused_counts source source_now disk disk_now (from.Room pages) counts = counts
refused_counts source source_now disk disk_now (from.Store why) counts = counts

-- a store that is broken before does not answer Disk
pub not_disk : (left left_now : Option (List ℕ)) (room : ℕ) (position : Pos) (size commit : ℕ) (sums : List ℕ) (why : FromFault) → RefusesFrom left left_now room true position size commit sums why → why ≡ from.Store fault.Disk → ⊥
not_disk left left_now room position size commit sums why refuses is =
    let no : true ≡ false = subst (λ (w : FromFault). RefusesFrom left left_now room true position size commit sums w) is refuses in
    true_false no
  where
    true_false : true ≡ false → ⊥
    true_false same = cc
