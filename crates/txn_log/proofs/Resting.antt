-- A store whose disk was read.
use Rattle.std.proofs.Common.{◌≡◌, ℕ, Bool, true, false, List, Some, None, sym, ◌∙◌, ap, subst, arith}
use Rattle.std.specs.Prelude.{if◌then◌else◌}
use Rattle.lf_disk.specs.Folder.{Folder}
use Rattle.lf_disk.specs.History.{History, now, Rests}
use Rattle.lf_sqlite_pages.specs.Header.{image_is_wal}
use Rattle.ltx_codec.specs.Sums.{sum_table}
use Rattle.txn_log.specs.declared.entry.Entry.{Entry}
use Rattle.txn_log.specs.Calls.{StandsForOne, RestsAs}
use Rattle.txn_log.specs.Kept.{IsAtRestAt}
use Rattle.txn_log.specs.Store.{image_in, files_in, state_in, AreEntries, IsStore}
use Rattle.txn_log.proofs.Stores.{at_rest_past}

module _ (h new : History) (rests : Rests h new) where
  pub same_now : now new ≡ now h
  same_now = ap (λ (t : ℕ). new.seen t) rests.moment ∙ (λ i n. rests.past.seen h.moment n (omega arith) i)

  pub kept_rested : (size commit : ℕ) (entries : List Entry) (dropped : Bool) (sums : List ℕ) (whole tried : ℕ) → IsStore h size commit entries dropped sums false whole tried → IsStore new size commit entries dropped sums false whole tried
  kept_rested size commit entries dropped sums whole tried is = record {
    past = omega arith;
    rest =
        subst (λ (t : ℕ). IsAtRestAt (image_in size commit (new.seen t)) (files_in entries (new.seen t)) dropped new t) (sym rests.moment)
        (subst (λ (f : Folder). IsAtRestAt (image_in size commit f) (files_in entries f) dropped new h.moment) (λ i n. sym (rests.past.seen h.moment n (omega arith)) i)
        (at_rest_past (image_in size commit (now h)) (files_in entries (now h)) dropped h new h.moment (omega arith) rests.past is.rest));
    log = subst (λ (f : Folder). AreEntries entries (files_in entries f)) (sym same_now) is.log;
    table = is.table ∙ ap (λ (f : Folder). sum_table (image_in size commit f)) (sym same_now);
    early = λ same. absurd (false_true same);
  }
    where
      false_true : false ≡ true → ⊥
      false_true same = cc

  pub left_rested : (size commit : ℕ) (entries : List Entry) (dropped : Bool) → RestsAs (λ left. left ≡ state_in size commit entries dropped (now h)) h → RestsAs (λ left. left ≡ state_in size commit entries dropped (now new)) new
  left_rested size commit entries dropped is c may =
      subst (λ (f : Folder). StandsForOne (λ left. left ≡ state_in size commit entries dropped f) c) (sym same_now)
      (is c (rests.past.no_more h.moment c (omega arith) (subst (λ (t : ℕ). new.leaves t c) rests.moment may)))

  pub mode_rested : (size commit : ℕ) (wal : Bool) → wal ≡ image_is_wal (image_in size commit (now h)) → wal ≡ image_is_wal (image_in size commit (now new))
  mode_rested size commit wal is = is ∙ ap (λ (f : Folder). image_is_wal (image_in size commit f)) (sym same_now)

  pub told_rested : (size commit : ℕ) (before after : Bool) → after ≡ before
      → (if after then Some (image_in size commit (now new)) else None) ≡ (if before then Some (image_in size commit (now h)) else None)
  told_rested size commit before after same = λ i. if same i then Some (image_in size commit (same_now i)) else None
