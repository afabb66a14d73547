-- A store moves by a call.
use Rattle.std.proofs.Common.{◌≡◌, ◌≢◌, ◌⊎◌, inl, inr, ℕ, ◌<◌, ◌≤◌, ◌^◌, Bool, true, false, List, [], ◌∷◌, ◌++◌, Option, Some, None, Err, refl, sym, ◌∙◌, ap, subst, arith}
use Rattle.std.proofs.lemmas.Bool.{cases_Bool}
use Rattle.page_checksum.specs.Sums.{flagged, joined}
use Rattle.lf_disk.specs.declared.name.FileName.TheVariants.{Staged}
use Rattle.lf_disk.specs.Folder.{Folder, bytes_of}
use Rattle.lf_disk.specs.History.{History, now, may_leave, EachMoment}
use Rattle.lf_disk.proofs.Moments.{started, weakened}
use Rattle.lf_sqlite_pages.specs.Image.{DatabaseImage, empty_image}
use Rattle.lf_sqlite_pages.specs.Apply.{apply}
use Rattle.ltx_codec.specs.Format.{IsLtx}
use Rattle.ltx_codec.specs.declared.file.Ltx.{Ltx}
use Rattle.ltx_codec.proofs.SumLaws.{image_sum-table}
use Rattle.world_laws.specs.Store.{StoreState, StoreCall, Failure, FailedBefore, FailedIn, MayBeFound, IsCandidate, MayLeave, CanDo, end_of, done, with_file, dropped_store}
use Rattle.txn_log.specs.declared.entry.Entry.{Entry}
use Rattle.txn_log.specs.declared.entry.Attempt.{Attempt}
use Rattle.txn_log.specs.declared.entry.Attempt.TheVariants as attempt
use Rattle.txn_log.specs.declared.fault.StoreFault.{StoreFault}
use Rattle.txn_log.specs.declared.fault.StoreFault.TheVariants as fault
use Rattle.txn_log.specs.Calls.{StandsForOne, RestsAs, MayFind, Moved, Went}
use Rattle.txn_log.specs.Draft.{sums_after}
use Rattle.txn_log.specs.Durable.{Durable, log_of, IsSummed}
use Rattle.txn_log.specs.Kept.{LogFile, file_of, last_of, Kept, IsBySnapshot, IsAtRest}
use Rattle.txn_log.specs.Placing.{IsOver, IsTried, IsBetween}
use Rattle.txn_log.specs.Publishing.{Publishes, call_of, CanTake, IsSummedBy}
use Rattle.txn_log.specs.Store.{image_in, files_in, state_in, state_of, failure_of, entry_of, IsStore, IsShaped}
use Rattle.txn_log.proofs.Commits.{Follows, log-more, is_log-more, end_of-push, end_of-none, tells-more}
use Rattle.txn_log.proofs.Entries.{end-log, end-push}
use Rattle.txn_log.proofs.Placings.{kept_same}
use Rattle.txn_log.proofs.Stores.{Tells, named_in, length-files_in, seen_before, settles, state_now}

-- a call that was not begun
pub moved-none : (store : StoreState) (was : Option Failure) (h : History) → RestsAs (MayBeFound store was) h → Moved store was h [] None store was h
moved-none store None h rests = record {
  can = tt;
  whole = λ some. (refl, refl);
  store = refl;
  broken = refl;
  moments = started h (StandsForOne (MayFind store None [])) rests;
  rests = rests;
}
moved-none store (Some failure) h rests = record {
  can = tt;
  whole = λ some. (refl, refl);
  store = refl;
  broken = refl;
  moments = started h (StandsForOne (MayFind store (Some failure) [])) rests;
  rests = rests;
}

-- one that was done
pub moved-done : (store new : StoreState) (call : StoreCall) (h end : History) → CanDo store call → new ≡ done store call
    → EachMoment h end (StandsForOne (IsCandidate store (call ∷ []))) → RestsAs (MayBeFound new None) end → Moved store None h (call ∷ []) None new None end
moved-done store new call h end can is moments rests = record {
  can = (can, tt);
  whole = λ some. let no_way : false ≡ true = some in absurd (false_true no_way);
  store = is;
  broken = refl;
  moments = moments;
  rests = rests;
}
  where
    false_true : false ≡ true → ⊥
    false_true same = cc

-- one that failed before it published anything
pub moved-before : (store new : StoreState) (h end : History) → new ≡ store → EachMoment h end (StandsForOne (IsCandidate store []))
    → RestsAs (MayBeFound new (Some FailedBefore)) end → Moved store None h [] (Some FailedBefore) new (Some FailedBefore) end
moved-before store new h end is moments rests = record {
  can = tt;
  whole = λ some. let no_way : false ≡ true = some in absurd (false_true no_way);
  store = is;
  broken = refl;
  moments = moments;
  rests = rests;
}
  where
    false_true : false ≡ true → ⊥
    false_true same = cc

-- and one that failed from there on
pub moved-in : (store new : StoreState) (call : StoreCall) (h end : History) → CanDo store call → new ≡ store → EachMoment h end (StandsForOne (IsCandidate store (call ∷ [])))
    → RestsAs (MayBeFound new (Some (FailedIn call))) end → Moved store None h [] (Some (FailedIn call)) new (Some (FailedIn call)) end
moved-in store new call h end can is moments rests = record {
  can = (can, tt);
  whole = λ some. let no_way : false ≡ true = some in absurd (false_true no_way);
  store = is;
  broken = refl;
  moments = moments;
  rests = rests;
}
  where
    false_true : false ≡ true → ⊥
    false_true same = cc

-- what holds of each moment holds of the last
pub at_last : (h end : History) (P : Folder → Type 0) → EachMoment h end P → (c : Folder) → may_leave end c → P c
at_last h end P run c may = run.each end.moment c run.later (omega arith) may

-- a call that publishes a file: it can be done, makes the store with the file, and leaves that or the store before
can-publish : (tries : Attempt) (store : StoreState) (file : Ltx) → Publishes tries file → CanTake store file → CanDo store (call_of tries file)
can-publish attempt.Commit store file publishes can = (can.is, can.joins, publishes)
can-publish attempt.Apply store file publishes can = (can.is, can.joins)
can-publish attempt.Unpublished store file publishes can = absurd publishes
can-publish attempt.Drop store file publishes can = absurd publishes
can-publish attempt.Install store file publishes can = absurd publishes
can-publish (attempt.Prune keep) store file publishes can = absurd publishes

done-publish : (tries : Attempt) (store : StoreState) (file : Ltx) → done store (call_of tries file) ≡ with_file store file
done-publish attempt.Commit store file = refl
done-publish attempt.Apply store file = refl
done-publish attempt.Unpublished store file = refl
done-publish attempt.Drop store file = refl
done-publish attempt.Install store file = refl
done-publish (attempt.Prune keep) store file = refl

may_leave-publish : (tries : Attempt) (store : StoreState) (file : Ltx) (left : StoreState) → (left ≡ store) ⊎ (left ≡ with_file store file) → MayLeave store (call_of tries file) left
may_leave-publish attempt.Commit store file left either = either
may_leave-publish attempt.Apply store file left either = either
may_leave-publish attempt.Unpublished store file left either = either
may_leave-publish attempt.Drop store file left either = either
may_leave-publish attempt.Install store file left either = either
may_leave-publish (attempt.Prune keep) store file left either = either

failure-publish : (tries : Attempt) (h : History) (tried : ℕ) (file : Ltx) → Publishes tries file → failure_of h tried tries ≡ FailedIn (call_of tries (file_of (bytes_of (h.seen tried Staged))))
failure-publish attempt.Commit h tried file publishes = refl
failure-publish attempt.Apply h tried file publishes = refl
failure-publish attempt.Unpublished h tried file publishes = absurd publishes
failure-publish attempt.Drop h tried file publishes = absurd publishes
failure-publish attempt.Install h tried file publishes = absurd publishes
failure-publish (attempt.Prune keep) h tried file publishes = absurd publishes

-- a store that is not broken
module _ (h : History) (size commit : ℕ) (entries : List Entry) (dropped : Bool) (sums : List ℕ) (whole tried : ℕ)
    (shaped : IsShaped commit entries dropped sums) (kept : IsStore h size commit entries dropped sums false whole tried) where
  abbrev pub image : DatabaseImage
  image = image_in size commit (now h)

  abbrev pub files : List LogFile
  files = files_in entries (now h)

  abbrev pub store : StoreState
  store = state_in size commit entries dropped (now h)

  pub tells : Tells image files size commit entries sums
  tells = record {
    size_is = refl;
    commit_is = sym (Rattle.std.proofs.lemmas.List.FromFn.length-map-range_with_len (Rattle.txn_log.specs.Pages.page_in size (bytes_of (now h Rattle.lf_disk.specs.declared.name.FileName.TheVariants.Database))) 1 commit);
    log = kept.log;
    named = named_in entries (now h);
    count = sym (length-files_in entries (now h));
    table = kept.table;
  }

  some_entries : (log_of files ≢ []) → entries ≢ []
  some_entries some none = some (ap (λ (es : List Entry). log_of (files_in es (now h))) none)

  pub summed : IsSummed store
  summed some =
      ap (λ p. p.sum) (sym (end-log entries files kept.log)) ∙ shaped.sum (some_entries some) ∙ ap (λ (s : List ℕ). flagged (joined s)) kept.table ∙ sym (image_sum-table image)

  -- the mark is that of an empty log, and so of no pages
  no_image : dropped ≡ true → image ≡ empty_image
  no_image marked = kept.rest.kept.decided.none (ap (λ (es : List Entry). last_of (files_in es (now h))) (shaped.marked marked))

  no_log : dropped ≡ true → log_of files ≡ []
  no_log marked = ap (λ (es : List Entry). log_of (files_in es (now h))) (shaped.marked marked)

  is_dropped : dropped ≡ true → store ≡ dropped_store
  is_dropped marked = λ i. record { image = no_image marked i; log = no_log marked i; dropped = marked i }

  pub durable : (c : Folder) → Kept image files dropped c → Durable c store
  durable c is = elim (cases_Bool dropped) [
    | inl marked ↦ inr (inr (record { by = record { no_snapshot = is.no_snapshot; stands = is.mark ∙ marked }; empty = is_dropped marked }))
    | inr unmarked ↦
        inl (record {
          files = files;
          kept = subst (λ (d : Bool). Kept image files d c) unmarked is;
          log = refl;
          sound = kept.log.log;
          sum = summed;
          unmarked = unmarked;
        })
  ]

  pub itself : (c : Folder) → Kept image files dropped c → StandsForOne (λ left. left ≡ store) c
  itself c is = ∣ (store, refl, durable c is) ∣₁

  pub rests : RestsAs (λ left. left ≡ store) h
  rests c may = itself c (kept_same image files dropped (now h) c kept.rest.kept (kept.rest.settled c may))

  -- and a file that it can take
  module _ (tries : Attempt) (file : Ltx) (encoding : List ℕ) (publishes : Publishes tries file) (can : CanTake store file) (is : IsLtx encoding file) (read : file_of encoding ≡ file) where
    abbrev pub call : StoreCall
    call = call_of tries file

    abbrev pub log_file : LogFile
    log_file = record { min = file.header.min; max = file.header.max; encoding = encoding }

    abbrev pub made : DatabaseImage
    made = apply image file.change

    pub follows : Follows files log_file
    follows = record {
      is = subst (λ (f : Ltx). ∥ IsLtx encoding f ∥₁) (sym read) ∣ is ∣₁;
      min = ap (λ (f : Ltx). f.header.min) read;
      max = ap (λ (f : Ltx). f.header.max) read;
      order = is.valid.header.max;
      above = omega (arith, ap (λ p. p.txid) can.joins.next, is.valid.header.min);
      next = ap Rattle.ltx_codec.specs.Positions.before read ∙ can.joins.next;
    }

    pub over : IsOver image files dropped encoding file.change h
    over = record {
      rest = kept.rest;
      empty = λ marked. ap (λ (es : List Entry). files_in es (now h)) (shaped.marked marked);
      tells = ap (λ (f : Ltx). f.change) read;
      valid = is.valid.block.pages;
      complete = can.complete;
    }

    pub log_after : log_of files ++ file ∷ [] ≡ log_of (files ++ log_file ∷ [])
    log_after = ap (λ (f : Ltx). log_of files ++ f ∷ []) (sym read) ∙ sym (log-more files log_file)

    sum_after : IsSummed (with_file store file)
    sum_after some = ap (λ p. p.sum) (end_of-push (log_of files) file) ∙ sym can.joins.sum

    pub durable_after : (c : Folder) → Kept made (files ++ log_file ∷ []) false c → Durable c (with_file store file)
    durable_after c there = inl (record {
      files = files ++ log_file ∷ [];
      kept = there;
      log = log_after;
      sound = is_log-more files log_file kept.log.log follows;
      sum = sum_after;
      unmarked = refl;
    })

    -- on a dropped store the file is the first
    first_number : dropped ≡ true → file.header.min ≡ 1
    first_number marked =
        let start : (end_of (log_of files)).txid ≡ 0 = ap (λ (l : List Ltx). (end_of l).txid) (no_log marked) ∙ end_of-none in
        omega (arith, ap (λ p. p.txid) can.joins.next, is.valid.header.min, start)

    durable_snapshot : dropped ≡ true → (c : Folder) → IsBySnapshot made encoding c → Durable c (with_file store file)
    durable_snapshot marked c by =
        inr (inl (record {
          encoding = encoding;
          by = by;
          log = ap (λ (l : List Ltx). l ++ file ∷ []) (no_log marked) ∙ ap (λ (f : Ltx). f ∷ []) (sym read);
          is = follows.is;
          first = ap (λ (f : Ltx). f.header.min) read ∙ first_number marked;
          sum = sum_after;
          unmarked = refl;
        }))

    pub candidate : (c : Folder) → IsBetween image files dropped made log_file c → StandsForOne (IsCandidate store (call ∷ [])) c
    candidate c either = elim either [
      | inl before ↦ ∣ (store, inl (may_leave-publish tries store file store (inl refl)), durable c before) ∣₁
      | inr (inl anew) ↦ ∣ (with_file store file, inl (may_leave-publish tries store file (with_file store file) (inr refl)), durable_snapshot anew.0 c anew.1) ∣₁
      | inr (inr there) ↦ ∣ (with_file store file, inl (may_leave-publish tries store file (with_file store file) (inr refl)), durable_after c there) ∣₁
    ]

    pub leaves : (c : Folder) → IsBetween image files dropped made log_file c → StandsForOne (MayBeFound store (Some (FailedIn call))) c
    leaves c either = elim either [
      | inl before ↦ ∣ (store, may_leave-publish tries store file store (inl refl), durable c before) ∣₁
      | inr (inl anew) ↦ ∣ (with_file store file, may_leave-publish tries store file (with_file store file) (inr refl), durable_snapshot anew.0 c anew.1) ∣₁
      | inr (inr there) ↦ ∣ (with_file store file, may_leave-publish tries store file (with_file store file) (inr refl), durable_after c there) ∣₁
    ]

    -- the fields after it
    pub tells_after : Tells made (files ++ log_file ∷ []) file.header.page_size file.header.commit (entries ++ entry_of file ∷ []) (sums_after sums file.change)
    tells_after =
        let all = tells-more image file.change can.complete size commit entries sums files log_file tells follows in
        let P : ℕ → ℕ → Ltx → Type 0 = λ s c f. Tells made (files ++ log_file ∷ []) s c (entries ++ entry_of f ∷ []) (sums_after sums file.change) in
        subst (λ (s : ℕ). P s file.header.commit file) is.valid.block.page_size
        (subst (λ (c : ℕ). P file.change.page_size c file) is.valid.block.commit
        (subst (λ (f : Ltx). P file.change.page_size file.change.commit f) read all))

    module _ (new : History) where
      -- the file is published and its change written
      module _ (run : EachMoment h new (IsBetween image files dropped made log_file)) (rest : IsAtRest made (files ++ log_file ∷ []) false new) where
        abbrev pub state_after : StoreState
        state_after = state_in file.header.page_size file.header.commit (entries ++ entry_of file ∷ []) false (now new)

        pub is_done : state_after ≡ with_file store file
        is_done =
            state_now made (files ++ log_file ∷ []) false file.header.page_size file.header.commit (entries ++ entry_of file ∷ []) (sums_after sums file.change) new rest tells_after
            ∙ (λ i. record { image = made; log = sym log_after i; dropped = false })

        pub left_done : RestsAs (λ left. left ≡ state_after) new
        left_done c may =
            ∣ (with_file store file, sym is_done, durable_after c (kept_same made (files ++ log_file ∷ []) false (now new) c rest.kept (rest.settled c may))) ∣₁

        pub went_done : Moved store None h (call ∷ []) None state_after None new
        went_done = moved-done store state_after call h new (can-publish tries store file publishes can) (is_done ∙ sym (done-publish tries store file)) (weakened h new (IsBetween image files dropped made log_file) (StandsForOne (IsCandidate store (call ∷ []))) run candidate) left_done

        pub stands : (w t : ℕ) → IsStore new file.header.page_size file.header.commit (entries ++ entry_of file ∷ []) false (sums_after sums file.change) false w t
        stands w t = settles made (files ++ log_file ∷ []) false file.header.page_size file.header.commit (entries ++ entry_of file ∷ []) (sums_after sums file.change) new rest tells_after w t

      -- a call failed from the rename on
      module _ (at : ℕ) (run : EachMoment h new (IsBetween image files dropped made log_file)) (staged : IsTried encoding at new) where
        abbrev pub failure : Failure
        failure = failure_of new at tries

        same_file : FailedIn call ≡ failure
        same_file = ap (λ (f : Ltx). FailedIn (call_of tries f)) (sym (ap file_of staged.read ∙ read)) ∙ sym (failure-publish tries new at file publishes)

        same_store : state_of new size commit entries dropped true h.moment ≡ store
        same_store = seen_before size commit entries dropped sums h new run.past whole

        pub left_in : RestsAs (MayBeFound (state_of new size commit entries dropped true h.moment) (Some failure)) new
        left_in =
            subst (λ (f : Failure). RestsAs (MayBeFound (state_of new size commit entries dropped true h.moment) (Some f)) new) same_file
            (subst (λ (s : StoreState). RestsAs (MayBeFound s (Some (FailedIn call))) new) (sym same_store)
            (λ c may. leaves c (at_last h new (IsBetween image files dropped made log_file) run c may)))

        pub went_in : Moved store None h [] (Some (FailedIn call)) (state_of new size commit entries dropped true h.moment) (Some failure) new
        went_in =
            subst (λ (f : Failure). Moved store None h [] (Some (FailedIn call)) (state_of new size commit entries dropped true h.moment) (Some f) new) same_file
            (moved-in store (state_of new size commit entries dropped true h.moment) call h new (can-publish tries store file publishes can) same_store
            (weakened h new (IsBetween image files dropped made log_file) (StandsForOne (IsCandidate store (call ∷ []))) run candidate)
            (subst (λ (f : Failure). RestsAs (MayBeFound (state_of new size commit entries dropped true h.moment) (Some f)) new) (sym same_file) left_in))

  -- a call failed before it published anything
  module _ (new : History) (run : EachMoment h new (Kept image files dropped)) where
    stays : state_of new size commit entries dropped true h.moment ≡ store
    stays = seen_before size commit entries dropped sums h new run.past whole

    pub left_before : RestsAs (MayBeFound (state_of new size commit entries dropped true h.moment) (Some FailedBefore)) new
    left_before =
        subst (λ (s : StoreState). RestsAs (λ left. left ≡ s) new) (sym stays) (λ c may. itself c (at_last h new (Kept image files dropped) run c may))

    pub went_before : Moved store None h [] (Some FailedBefore) (state_of new size commit entries dropped true h.moment) (Some FailedBefore) new
    went_before =
        moved-before store (state_of new size commit entries dropped true h.moment) h new stays
        (weakened h new (Kept image files dropped) (StandsForOne (IsCandidate store [])) run itself) left_before

-- the fields fit together after a file
pub shaped-after : (commit : ℕ) (entries : List Entry) (sums : List ℕ) (file : Ltx) → file.header.commit ≡ file.change.commit → file.header.commit < 2 ^ 32 → 1 ≤ file.header.max → IsSummedBy sums file
    → IsShaped file.header.commit (entries ++ entry_of file ∷ []) false (sums_after sums file.change)
shaped-after commit entries sums file same low first summed = record {
  count = Rattle.std.proofs.lemmas.List.FromFn.length-map-range_with_len (Rattle.txn_log.specs.Draft.sum_after sums file.change) 1 file.change.commit ∙ sym same;
  limit = low;
  none = λ none. absurd (not_none entries none);
  marked = λ marked. absurd (false_true marked);
  sum = λ some. ap (λ p. p.sum) (end-push entries (entry_of file)) ∙ summed;
  some = λ some. omega (arith, ap (λ p. p.txid) (end-push entries (entry_of file)), first);
}
  where
    not_none : (es : List Entry) → es ++ entry_of file ∷ [] ≡ [] → ⊥
    not_none [] none = cc
    not_none (e ∷ es) none = cc

    false_true : false ≡ true → ⊥
    false_true same = cc

-- a call that was refused
pub went-none : (T : Type 0) (store : StoreState) (was : Option Failure) (h : History) (call : StoreCall) (why : StoreFault) → (why ≡ fault.Disk → ⊥) → RestsAs (MayBeFound store was) h
    → Went {T = T} store was h call (Err why) store was h
went-none T store was h call fault.Disk refused rests = absurd (refused refl)
went-none T store was h call fault.Broken refused rests = moved-none store was h rests
went-none T store was h call (fault.NotNext have want) refused rests = moved-none store was h rests
went-none T store was h call (fault.SumDiffers want got) refused rests = moved-none store was h rests
went-none T store was h call fault.Limit refused rests = moved-none store was h rests
went-none T store was h call fault.NoMemory refused rests = moved-none store was h rests
went-none T store was h call (fault.PageSize have want) refused rests = moved-none store was h rests
