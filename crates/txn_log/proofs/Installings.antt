-- A snapshot takes the place of a store.
use Rattle.std.proofs.Common.{◌≡◌, inl, inr, ℕ, ◌-◌, ◌≤◌, Bool, true, false, Option, Some, None, IsSome, List, [], ◌∷◌, unwrap_or, refl, sym, ◌∙◌, ap, subst, arith}
use Rattle.std.proofs.lemmas.Bool.{cases_eq}
use Rattle.page_checksum.specs.Sums.{flagged, joined}
use Rattle.lf_base.specs.declared.pos.Pos.{Pos}
use Rattle.lf_disk.specs.declared.name.FileName.TheVariants.{Database}
use Rattle.lf_disk.specs.Folder.{Folder, bytes_of}
use Rattle.lf_disk.specs.History.{History, now, EachMoment}
use Rattle.lf_disk.proofs.Moments.{weakened}
use Rattle.lf_sqlite_pages.specs.LockPage.{lock_page_of, IsDataPage}
use Rattle.lf_sqlite_pages.specs.Image.{DatabaseImage, empty_image}
use Rattle.lf_sqlite_pages.specs.Change.{PageChange, IsChange, HoldsEveryPage, written}
use Rattle.lf_sqlite_pages.specs.Apply.{apply, page_after}
use Rattle.lf_sqlite_pages.proofs.Laws.{length-apply, page_at-apply, page_after-data, page_after-lock_page}
use Rattle.lf_sqlite_pages.proofs.Applying.{written-lock_page}
use Rattle.ltx_codec.specs.Format.{IsFile, IsLtx}
use Rattle.ltx_codec.specs.Positions.{before, nowhere}
use Rattle.ltx_codec.specs.declared.file.Ltx.{Ltx}
use Rattle.ltx_codec.proofs.ChangedSumLemmas.{image_sum-whole}
use Rattle.world_laws.specs.Store.{StoreState, Failure, FailedIn, Install, MayBeFound, IsCandidate, end_of, installed}
use Rattle.txn_log.specs.declared.entry.Entry.{Entry}
use Rattle.txn_log.specs.declared.entry.Attempt.TheVariants as attempt
use Rattle.txn_log.specs.Calls.{StandsForOne, RestsAs, Moved}
use Rattle.txn_log.specs.Draft.{sums_after}
use Rattle.txn_log.specs.Durable.{Durable, IsEncoding, IsLog, IsSummed}
use Rattle.txn_log.specs.Installing.{IsKeptOrInstalled, IsOverAnew}
use Rattle.txn_log.specs.Kept.{LogFile, file_of, Decides, Kept, IsAtRest, IsComplete}
use Rattle.txn_log.specs.Pages.{page_in}
use Rattle.txn_log.specs.Placing.{IsTried}
use Rattle.txn_log.specs.Settling.{IsInstalled}
use Rattle.txn_log.specs.Store.{state_in, state_of, failure_of, entry_of, IsStore, IsShaped}
use Rattle.txn_log.proofs.Commits.{Follows, end_of-push, image_sum-apply, tells-more}
use Rattle.txn_log.proofs.Entries.{end-push}
use Rattle.txn_log.proofs.Installed.{alone}
use Rattle.txn_log.proofs.Moves.{moved-done, moved-in, at_last, durable, store, image, files}
use Rattle.txn_log.proofs.Naming.{no_others_in}
use Rattle.txn_log.proofs.Placings.{kept_same}
use Rattle.txn_log.proofs.Puttings.{page_in-lock}
use Rattle.txn_log.proofs.Stores.{Tells, seen_before, settles, state_now}

-- a change that writes each data page decides alone
module _ (change : PageChange) (valid : IsChange change) (holds : HoldsEveryPage change) where
  no_false : false ≡ true → ⊥
  no_false same = cc

  some : (n : ℕ) → 1 ≤ n → n ≤ change.commit → IsDataPage change.page_size n → written change.pages n ≡ None → ⊥
  some n first last data_page none = no_false (subst (λ (o : Option (List ℕ)). IsSome o) none (holds n first last data_page))

  there : (o : Option (List ℕ)) (x y : List ℕ) → (o ≡ None → ⊥) → unwrap_or o x ≡ unwrap_or o y
  there None x y not = absurd (not refl)
  there (Some page) x y not = refl

  pub decides-whole : (bytes : List ℕ) → Decides change (apply empty_image change) bytes
  decides-whole bytes = record {
    page_size = refl;
    commit = length-apply empty_image change;
    pages = λ n first last. page_at-apply empty_image change n first last ∙ ap (λ (p : List ℕ). Some p) (page n first last);
    left = λ n first last data_page none. absurd (some n first last data_page none);
  }
    where
      page : (n : ℕ) → 1 ≤ n → n ≤ change.commit → page_after empty_image change n ≡ unwrap_or (written change.pages n) (page_in change.page_size bytes n)
      page n first last = elim (cases_eq n (lock_page_of change.page_size)) [
        | inl lock ↦
            ap (page_after empty_image change) lock ∙ page_after-lock_page empty_image change
            ∙ sym (ap (λ (o : Option (List ℕ)). unwrap_or o (page_in change.page_size bytes n)) (ap (written change.pages) lock ∙ written-lock_page change valid) ∙ page_in-lock change.page_size bytes n lock)
        | inr other ↦ page_after-data empty_image change n other ∙ there (written change.pages n) _ (page_in change.page_size bytes n) (some n first last other)
      ]

  pub complete-whole : IsComplete empty_image change
  complete-whole = record {
    fits = inr (inl refl);
    past = λ n past last data_page none. some n (omega (arith, past)) last data_page none;
  }

-- an empty log ends nowhere
end_none : end_of [] ≡ nowhere
unfolding end_of
end_none = refl

-- a snapshot
module _ (file : Ltx) (valid : IsFile file) (first : file.header.min ≡ 1) where
  abbrev pub made : DatabaseImage
  made = apply empty_image file.change

  holds : HoldsEveryPage file.change
  holds = valid.block.snapshot_pages first

  pub complete : IsComplete empty_image file.change
  complete = complete-whole file.change valid.block.pages holds

  -- it follows a database that was never written
  pub next : before file ≡ nowhere
  next =
      let low : file.header.min - 1 ≡ 0 = omega (arith, first) in
      λ i. record { txid = low i; sum = (valid.header.snapshot_pre first) i }

  -- the sum that it leads to is that of its pages
  pub summed : IsSummed (installed file)
  summed _ = ap (λ (p : Pos). p.sum) (end_of-push [] file) ∙ valid.post.snapshot first ∙ image_sum-whole empty_image file.change valid.block.pages holds

  pub table_sum : file.post ≡ flagged (joined (sums_after [] file.change))
  table_sum =
      valid.post.snapshot first ∙ image_sum-whole empty_image file.change valid.block.pages holds ∙ image_sum-apply empty_image file.change complete

  -- the fields fit together after it
  pub shaped-installed : IsShaped file.header.commit (entry_of file ∷ []) false (sums_after [] file.change)
  shaped-installed = record {
    count = Rattle.std.proofs.lemmas.List.FromFn.length-map-range_with_len (Rattle.txn_log.specs.Draft.sum_after [] file.change) 1 file.change.commit ∙ valid.block.commit;
    limit = valid.header.widths.commit;
    none = λ none. absurd (not_none none);
    marked = λ marked. absurd (false_true marked);
    sum = λ _. ap (λ (p : Pos). p.sum) (end-push [] (entry_of file)) ∙ table_sum;
    some = λ _. omega (arith, ap (λ (p : Pos). p.txid) (end-push [] (entry_of file)), valid.header.min, valid.header.max);
  }
    where
      not_none : entry_of file ∷ [] ≡ [] → ⊥
      not_none none = cc

      false_true : false ≡ true → ⊥
      false_true same = cc

  module _ (encoding : List ℕ) (is : IsLtx encoding file) (read : file_of encoding ≡ file) where
    abbrev pub log_file : LogFile
    log_file = record { min = file.header.min; max = file.header.max; encoding = encoding }

    is_encoding : IsEncoding encoding
    is_encoding = subst (λ (f : Ltx). ∥ IsLtx encoding f ∥₁) (sym read) ∣ is ∣₁

    low : (file_of encoding).header.min ≡ file.header.min
    low = ap (λ (f : Ltx). f.header.min) read

    high : (file_of encoding).header.max ≡ file.header.max
    high = ap (λ (f : Ltx). f.header.max) read

    pub durable_installed : (c : Folder) → IsInstalled made log_file c → Durable c (installed file)
    durable_installed c either = elim either [
      | inl by ↦ inr (inl (record {
        encoding = encoding;
        by = by;
        log = ap (λ (f : Ltx). f ∷ []) (sym read);
        is = is_encoding;
        first = low ∙ first;
        sum = summed;
        unmarked = refl;
      }))
      | inr kept ↦ inl (record {
        files = log_file ∷ [];
        kept = kept;
        log = ap (λ (f : Ltx). f ∷ []) (sym read);
        sound = alone log_file is_encoding low high;
        sum = summed;
        unmarked = refl;
      })
    ]

    follows : Follows [] log_file
    follows = record {
      is = is_encoding;
      min = low;
      max = high;
      order = valid.header.max;
      above = omega (arith, Rattle.txn_log.proofs.Commits.end_of-none, valid.header.min);
      next = ap before read ∙ next ∙ sym end_none;
    }

    nothing : Tells empty_image [] 0 0 [] []
    nothing = record {
      size_is = refl;
      commit_is = refl;
      log = record { log = none; same = refl };
      named = record { min = λ k e f within. absurd (omega (arith, within)); max = λ k e f within. absurd (omega (arith, within)) };
      count = refl;
      table = refl;
    }
      where
        none : IsLog []
        none = record {
          ascends = tt;
          encodings = λ k d within. absurd (omega (arith, within));
          min = λ k d within. absurd (omega (arith, within));
          max = λ k d within. absurd (omega (arith, within));
          follow = λ k d within. absurd (omega (arith, within));
        }

    -- the fields after it
    pub tells_after : Tells made (log_file ∷ []) file.header.page_size file.header.commit (entry_of file ∷ []) (sums_after [] file.change)
    tells_after =
        let all = tells-more empty_image file.change complete 0 0 [] [] [] log_file nothing follows in
        let P : ℕ → ℕ → Ltx → Type 0 = λ s c f. Tells made (log_file ∷ []) s c (entry_of f ∷ []) (sums_after [] file.change) in
        subst (λ (s : ℕ). P s file.header.commit file) valid.block.page_size
        (subst (λ (c : ℕ). P file.change.page_size c file) valid.block.commit
        (subst (λ (f : Ltx). P file.change.page_size file.change.commit f) read all))

    -- over a store that is not broken
    module _ (h : History) (size commit : ℕ) (entries : List Entry) (dropped : Bool) (sums : List ℕ) (whole tried : ℕ)
        (shaped : IsShaped commit entries dropped sums) (kept : IsStore h size commit entries dropped sums false whole tried) where
      abbrev pub old : StoreState
      old = store h size commit entries dropped sums whole tried shaped kept

      abbrev pub old_image : DatabaseImage
      old_image = image h size commit entries dropped sums whole tried shaped kept

      abbrev pub old_files : List LogFile
      old_files = files h size commit entries dropped sums whole tried shaped kept

      pub over : IsOverAnew old_image old_files dropped made encoding entries file.change h
      over = record {
        rest = kept.rest;
        would = record {
          decides = decides-whole file.change valid.block.pages holds (bytes_of (now h Database));
          tells = ap (λ (f : Ltx). f.change) read;
          others = no_others_in entries old_image dropped (now h) kept.rest.kept;
        };
      }

      stands_before : (c : Folder) → Kept old_image old_files dropped c → Durable c old
      stands_before c is = durable h size commit entries dropped sums whole tried shaped kept c is

      pub candidate : (c : Folder) → IsKeptOrInstalled old_image old_files dropped made log_file c → StandsForOne (IsCandidate old (Install file ∷ [])) c
      candidate c either = elim either [
        | inl is ↦ ∣ (old, inl (inl refl), stands_before c is) ∣₁
        | inr is ↦ ∣ (installed file, inl (inr refl), durable_installed c is) ∣₁
      ]

      pub leaves : (c : Folder) → IsKeptOrInstalled old_image old_files dropped made log_file c → StandsForOne (MayBeFound old (Some (FailedIn (Install file)))) c
      leaves c either = elim either [
        | inl is ↦ ∣ (old, inl refl, stands_before c is) ∣₁
        | inr is ↦ ∣ (installed file, inr refl, durable_installed c is) ∣₁
      ]

      module _ (new : History) where
        -- the file is the log, and its pages are written
        module _ (run : EachMoment h new (IsKeptOrInstalled old_image old_files dropped made log_file)) (rest : IsAtRest made (log_file ∷ []) false new) where
          abbrev pub state_after : StoreState
          state_after = state_in file.header.page_size file.header.commit (entry_of file ∷ []) false (now new)

          pub is_done : state_after ≡ installed file
          is_done =
              state_now made (log_file ∷ []) false file.header.page_size file.header.commit (entry_of file ∷ []) (sums_after [] file.change) new rest tells_after
              ∙ (λ i. record { image = made; log = (read i) ∷ []; dropped = false })

          pub left_done : RestsAs (λ left. left ≡ state_after) new
          left_done c may =
              ∣ (installed file, sym is_done, durable_installed c (inr (kept_same made (log_file ∷ []) false (now new) c rest.kept (rest.settled c may)))) ∣₁

          pub went_done : Moved old None h (Install file ∷ []) None state_after None new
          went_done =
              moved-done old state_after (Install file) h new (valid, first) is_done
              (weakened h new (IsKeptOrInstalled old_image old_files dropped made log_file) (StandsForOne (IsCandidate old (Install file ∷ []))) run candidate) left_done

          pub stands : (w t : ℕ) → IsStore new file.header.page_size file.header.commit (entry_of file ∷ []) false (sums_after [] file.change) false w t
          stands w t = settles made (log_file ∷ []) false file.header.page_size file.header.commit (entry_of file ∷ []) (sums_after [] file.change) new rest tells_after w t

        -- a call failed from the rename on
        module _ (at : ℕ) (run : EachMoment h new (IsKeptOrInstalled old_image old_files dropped made log_file)) (staged : IsTried encoding at new) where
          abbrev pub failure : Failure
          failure = failure_of new at attempt.Install

          same_file : FailedIn (Install file) ≡ failure
          same_file = ap (λ (f : Ltx). FailedIn (Install f)) (sym (ap file_of staged.read ∙ read))

          same_store : state_of new size commit entries dropped true h.moment ≡ old
          same_store = seen_before size commit entries dropped sums h new run.past whole

          pub left_in : RestsAs (MayBeFound (state_of new size commit entries dropped true h.moment) (Some failure)) new
          left_in =
              subst (λ (f : Failure). RestsAs (MayBeFound (state_of new size commit entries dropped true h.moment) (Some f)) new) same_file
              (subst (λ (s : StoreState). RestsAs (MayBeFound s (Some (FailedIn (Install file)))) new) (sym same_store)
              (λ c may. leaves c (at_last h new (IsKeptOrInstalled old_image old_files dropped made log_file) run c may)))

          pub went_in : Moved old None h [] (Some (FailedIn (Install file))) (state_of new size commit entries dropped true h.moment) (Some failure) new
          went_in =
              subst (λ (f : Failure). Moved old None h [] (Some (FailedIn (Install file))) (state_of new size commit entries dropped true h.moment) (Some f) new) same_file
              (moved-in old (state_of new size commit entries dropped true h.moment) (Install file) h new (valid, first) same_store
              (weakened h new (IsKeptOrInstalled old_image old_files dropped made log_file) (StandsForOne (IsCandidate old (Install file ∷ []))) run candidate)
              (subst (λ (f : Failure). RestsAs (MayBeFound (state_of new size commit entries dropped true h.moment) (Some f)) new) (sym same_file) left_in))
