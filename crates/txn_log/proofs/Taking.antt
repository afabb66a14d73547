-- A store can take the draft of a change, and another's file that joins.
use Rattle.std.proofs.Common.{◌≡◌, inl, inr, ℕ, ◌+◌, ◌-◌, Bool, false, List, [], ◌∷◌, length, Some, None, refl, sym, ◌∙◌, ap, subst, arith, unwrap_or, replicate}
use Rattle.std.proofs.lemmas.List.FromFn.{length-map-range_with_len}
use Rattle.page_checksum.specs.Sums.{flagged, joined}
use Rattle.lf_base.specs.declared.pos.Pos.{Pos}
use Rattle.lf_disk.specs.declared.name.FileName.TheVariants.{Database}
use Rattle.lf_disk.specs.Folder.{bytes_of}
use Rattle.lf_disk.specs.History.{History, now}
use Rattle.lf_sqlite_pages.specs.Change.{PageChange, IsChange, FitsOver, written}
use Rattle.lf_sqlite_pages.specs.Complete.{completed, completed_page}
use Rattle.lf_sqlite_pages.specs.Image.{DatabaseImage}
use Rattle.lf_sqlite_pages.specs.Apply.{apply, Fits}
use Rattle.lf_sqlite_pages.proofs.Completing.{Fits-complete, completed-past}
use Rattle.lf_sqlite_pages.proofs.Writes.{written-writes_of}
use Rattle.ltx_codec.specs.Format.{IsFile}
use Rattle.ltx_codec.specs.Positions.{before}
use Rattle.ltx_codec.specs.Sums.{image_sum}
use Rattle.ltx_codec.specs.declared.file.Ltx.{Ltx}
use Rattle.txn_log.specs.declared.entry.Entry.{Entry}
use Rattle.txn_log.specs.Apply.{whole_file, IsTaken}
use Rattle.txn_log.specs.Draft.{sums_after, drafted}
use Rattle.txn_log.specs.Kept.{IsComplete}
use Rattle.txn_log.specs.Pages.{page_in}
use Rattle.txn_log.specs.Publishing.{CanTake}
use Rattle.txn_log.specs.Store.{image_in, files_in, state_in, end_of_entries, IsStore}
use Rattle.txn_log.proofs.Commits.{image_sum-apply}
use Rattle.txn_log.proofs.Entries.{end-log}

no_list : (xs : List (List ℕ)) → length xs ≡ 0 → xs ≡ []
no_list [] none = refl
no_list (x ∷ xs) none = absurd (omega (arith, none))

module _ (h : History) (size commit : ℕ) (entries : List Entry) (dropped : Bool) (sums : List ℕ) (whole tried : ℕ) (kept : IsStore h size commit entries dropped sums false whole tried)
    (change : PageChange) (valid : IsChange change) (fits : FitsOver size commit change) where
  abbrev pub image : DatabaseImage
  image = image_in size commit (now h)

  count : length image.pages ≡ commit
  count = length-map-range_with_len (page_in size (bytes_of (now h Database))) 1 commit

  fits_image : Fits image change
  fits_image = elim fits [
    | inl same ↦ inl same
    | inr (inl none) ↦ inr (inl (no_list image.pages (count ∙ none)))
    | inr (inr holds) ↦ inr (inr holds)
  ]

  fits_whole : Fits image (completed change commit)
  fits_whole = subst (λ (c : ℕ). Fits image (completed change c)) count (Fits-complete image change valid fits_image)

  complete : IsComplete image (completed change commit)
  complete = record {
    fits = fits_whole;
    past = λ n past last data_page none.
        let there : written (completed change commit).pages n ≡ Some (unwrap_or (written change.pages n) (replicate change.page_size 0)) =
        written-writes_of (completed_page change commit) change.commit n (omega (arith, past)) last ∙ completed-past change commit n data_page (omega (arith, past, count)) in
        none_some _ (sym none ∙ there);
  }
    where
      none_some : (x : List ℕ) → None ≡ Some x → ⊥
      none_some x same = cc

  -- the sum of the pages after it is that of the table
  pub sum_is : image_sum (apply image (completed change commit)) ≡ flagged (joined (sums_after sums (completed change commit)))
  sum_is = image_sum-apply image (completed change commit) complete ∙ sym (ap (λ (s : List ℕ). flagged (joined (sums_after s (completed change commit)))) kept.table)

  -- the draft of the change
  module _ (stamp node : ℕ) where
    abbrev pub file : Ltx
    file = drafted (end_of_entries entries) commit sums change stamp node

    next : before file ≡ end_of_entries entries
    next =
        let p : Pos = end_of_entries entries in
        let back : p.txid + 1 - 1 ≡ p.txid = omega arith in
        λ i. record { txid = back i; sum = p.sum }

    pub can_take : IsFile (drafted (end_of_entries entries) commit sums change stamp node)
        → CanTake (state_in size commit entries dropped (now h)) (drafted (end_of_entries entries) commit sums change stamp node)
    can_take is = record {
      is = is;
      joins = record {
        next = next ∙ end-log entries (files_in entries (now h)) kept.log;
        fits = fits_whole;
        sum = sum_is;
      };
      complete = complete;
    }

-- another's file that is taken
module _ (h : History) (size commit : ℕ) (entries : List Entry) (dropped : Bool) (sums : List ℕ) (whole tried : ℕ) (kept : IsStore h size commit entries dropped sums false whole tried)
    (file : Ltx) (valid : IsFile file) (taken : IsTaken (end_of_entries entries) size commit sums file) where
  pub can_take-whole : IsFile (whole_file commit file) → CanTake (state_in size commit entries dropped (now h)) (whole_file commit file)
  can_take-whole is = record {
    is = is;
    joins = record {
      next = taken.next ∙ end-log entries (files_in entries (now h)) kept.log;
      fits = fits_whole h size commit entries dropped sums whole tried kept file.change valid.block.pages taken.fits;
      sum = sum_is h size commit entries dropped sums whole tried kept file.change valid.block.pages taken.fits ∙ sym taken.sum;
    };
    complete = complete h size commit entries dropped sums whole tried kept file.change valid.block.pages taken.fits;
  }
