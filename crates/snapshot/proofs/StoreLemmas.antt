-- A store of which pages were read is as it was.
use Rattle.std.proofs.Common.{◌≡◌, ℕ, ◌*◌, ◌≤◌, arith, Bool, false, List, [], None, refl, sym, ◌∙◌, ap, subst}
use Rattle.lf_disk.specs.Folder.{Folder}
use Rattle.lf_disk.specs.History.{History, now, Rests}
use Rattle.lf_disk.proofs.Moments.{rests_on, started}
use Rattle.lf_sqlite_pages.specs.Header.{image_is_wal}
use Rattle.lf_sqlite_pages.specs.PageSize.{IsPageSize, is_page_size}
use Rattle.std.proofs.lemmas.Bool.Decides.{nat_tests}
use Rattle.world_laws.specs.Store.{MayBeFound, StoreState}
use Rattle.txn_log.specs.declared.entry.Attempt.{Attempt}
use Rattle.txn_log.specs.declared.entry.Entry.{Entry}
use Rattle.txn_log.specs.Calls.{RestsAs, Moved, StandsForOne, MayFind}
use Rattle.txn_log.specs.Store.{image_in, state_in, state_of, failed_of, meant, IsStore}
use Rattle.txn_log.proofs.PagesRead.{count}
use Rattle.txn_log.proofs.Resting.{same_now, kept_rested, left_rested, mode_rested}
use Rattle.snapshot.specs.Pages.{HasPages}

module _ (h new : History) (rests : Rests h new) (size commit : ℕ) (entries : List Entry) (dropped broken : Bool) (whole : ℕ) (open_ : broken ≡ false) where
  pub kept_still : (sums : List ℕ) (tried : ℕ) → IsStore h size commit entries dropped sums broken whole tried → IsStore new size commit entries dropped sums broken whole tried
  kept_still sums tried is =
      subst (λ (b : Bool). IsStore new size commit entries dropped sums b whole tried) (sym open_)
      (kept_rested h new rests size commit entries dropped sums whole tried
      (subst (λ (b : Bool). IsStore h size commit entries dropped sums b whole tried) open_ is))

  pub mode_still : (wal : Bool) → wal ≡ image_is_wal (state_of h size commit entries dropped broken whole).image → wal ≡ image_is_wal (state_of new size commit entries dropped broken whole).image
  mode_still wal is =
      subst (λ (b : Bool). wal ≡ image_is_wal (state_of new size commit entries dropped b whole).image) (sym open_)
      (mode_rested h new rests size commit wal
      (subst (λ (b : Bool). wal ≡ image_is_wal (state_of h size commit entries dropped b whole).image) open_ is))

  abbrev pub IsLeft : History → Bool → Attempt → ℕ → Type 0
  IsLeft k b attempt tried = RestsAs (MayBeFound (state_of k size commit entries dropped b whole) (failed_of k b attempt tried)) k

  pub left_still : (attempt : Attempt) (tried : ℕ) → IsLeft h broken attempt tried → IsLeft new broken attempt tried
  left_still attempt tried is =
      subst (λ (b : Bool). IsLeft new b attempt tried) (sym open_)
      (left_rested h new rests size commit entries dropped (subst (λ (b : Bool). IsLeft h b attempt tried) open_ is))

  -- no call was made on it
  pub moved_still : (attempt : Attempt) (tried : ℕ) → IsLeft h broken attempt tried
      → Moved (state_of h size commit entries dropped broken whole) (failed_of h broken attempt tried) h [] None
      (state_of new size commit entries dropped broken whole) (failed_of new broken attempt tried) new
  moved_still attempt tried is =
      let left = subst (λ (b : Bool). IsLeft h b attempt tried) open_ is in
      let old : StoreState = state_in size commit entries dropped (now h) in
      subst (λ (b : Bool). Moved (state_of h size commit entries dropped b whole) (failed_of h b attempt tried) h [] None
      (state_of new size commit entries dropped b whole) (failed_of new b attempt tried) new) (sym open_)
      (record {
        can = tt;
        whole = λ some. (refl, refl);
        store = ap (λ (f : Folder). state_in size commit entries dropped f) (same_now h new rests);
        broken = refl;
        moments = rests_on h h new (StandsForOne (MayFind old None [])) (started h (StandsForOne (MayFind old None [])) left) rests;
        rests = left_rested h new rests size commit entries dropped left;
      })

-- the database file of a store that is not broken is its pages
pub has_pages : (h : History) (size commit : ℕ) (entries : List Entry) (dropped broken : Bool) (sums : List ℕ) (whole tried : ℕ) → broken ≡ false
    → IsStore h size commit entries dropped sums broken whole tried → HasPages size commit (now h)
has_pages h size commit entries dropped broken sums whole tried open_ is =
    let kept = subst (λ (b : Bool). IsStore h size commit entries dropped sums b whole tried) open_ is in
    kept.rest.shows.long ∙ ap (λ (c : ℕ). c * size) (count size commit (now h))

-- and its image is that of the file as it reads
pub image_now : (h : History) (size commit whole : ℕ) (broken : Bool) → broken ≡ false → image_in size commit (h.seen (meant h broken whole)) ≡ image_in size commit (now h)
image_now h size commit whole broken open_ = ap (λ (b : Bool). image_in size commit (h.seen (meant h b whole))) open_

-- the largest page
pub page_size-most : (size : ℕ) → IsPageSize size → size ≤ 65536
unfolding is_page_size
page_size-most size is = grind (arith, nat_tests)
