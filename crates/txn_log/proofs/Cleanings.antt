-- A store loses the first files of its log.
use Rattle.std.proofs.Common.{◌≡◌, ◌≢◌, inl, inr, ℕ, zero, suc, ◌+◌, ◌-◌, ◌<◌, ◌≤◌, Bool, true, false, List, [], ◌∷◌, length, length-take, length-drop, take, drop, get_or, get_or-take, get_or-drop, fold, Some, None, refl, sym, ◌∙◌, ap, subst, arith}
use Rattle.std.proofs.lemmas.Bool.{cases_Bool}
use Rattle.std.proofs.lemmas.List.{drop-map, length-map}
use Rattle.lf_base.specs.declared.pos.Pos.{Pos}
use Rattle.lf_disk.specs.Folder.{Folder}
use Rattle.lf_disk.specs.History.{History, now, EachMoment}
use Rattle.lf_disk.proofs.Moments.{weakened}
use Rattle.lf_sqlite_pages.specs.Image.{DatabaseImage}
use Rattle.lf_sqlite_pages.specs.Header.{image_is_wal}
use Rattle.ltx_codec.specs.Positions.{before, after, nowhere}
use Rattle.ltx_codec.specs.declared.file.Ltx.{Ltx}
use Rattle.world_laws.specs.Store.{StoreState, PruneTo, FailedIn, MayBeFound, IsCandidate, end_of, done, without_front}
use Rattle.txn_log.specs.declared.entry.Entry.{Entry}
use Rattle.txn_log.specs.Calls.{StandsForOne, RestsAs, Moved}
use Rattle.txn_log.specs.Durable.{Durable, IsEncoding, log_of, Follow, IsLog}
use Rattle.txn_log.specs.Entries.{AreNamed}
use Rattle.txn_log.specs.Kept.{LogFile, file_of, Kept, IsAtRest, Ascends}
use Rattle.txn_log.specs.Pruning.{AreFirst, IsPruned}
use Rattle.txn_log.specs.Store.{image_in, files_in, state_in, state_of, end_of_entries, entry_of, IsStore, IsShaped}
use Rattle.txn_log.proofs.Moves.{moved-done, moved-in, at_last, tells, summed, files, store}
use Rattle.txn_log.proofs.Placings.{kept_same}
use Rattle.txn_log.proofs.Prunings.{ascends_drop}
use Rattle.txn_log.proofs.Stores.{Tells, named_in, length-files_in, seen_before, settles, state_now}

lower : (low number : ℕ) (files : List LogFile) → low ≤ number → Ascends number files → Ascends low files
lower low number [] under ascends = tt
lower low number (f ∷ fs) under ascends = (omega (arith, ascends.0), ascends.1, ascends.2)

log-drop : (n : ℕ) (files : List LogFile) → drop n (log_of files) ≡ log_of (drop n files)
log-drop n files = drop-map (λ (f : LogFile). file_of f.encoding) n files

-- what holds of each file of a log holds of each that is left
each-drop : (P : LogFile → Type 0) (n : ℕ) (files : List LogFile) → ((k : ℕ) (d : LogFile) → k < length files → P (get_or files k d)) → (k : ℕ) (d : LogFile) → k < length (drop n files) → P (get_or (drop n files) k d)
each-drop P n files each k d within = subst P (sym (get_or-drop n files k d)) (each (n + k) d (omega (arith, within, length-drop n files)))

follow-drop : (n : ℕ) (log : List Ltx) → Follow log → Follow (drop n log)
follow-drop n log follow k d within =
    let place : n + (k + 1) ≡ n + k + 1 = omega arith in
    ap before (get_or-drop n log (k + 1) d ∙ ap (λ (i : ℕ). get_or log i d) place)
    ∙ follow (n + k) d (omega (arith, within, length-drop n log))
    ∙ sym (ap after (get_or-drop n log k d))

is_log-drop : (n : ℕ) (files : List LogFile) → IsLog files → IsLog (drop n files)
is_log-drop n files log = record {
  ascends = let after = ascends_drop 0 files n log.ascends in lower 0 after.0 (drop n files) (omega arith) after.1;
  encodings = each-drop (λ (f : LogFile). IsEncoding f.encoding) n files log.encodings;
  min = each-drop (λ (f : LogFile). (file_of f.encoding).header.min ≡ f.min) n files log.min;
  max = each-drop (λ (f : LogFile). (file_of f.encoding).header.max ≡ f.max) n files log.max;
  follow = subst (λ (l : List Ltx). Follow l) (log-drop n files) (follow-drop n (log_of files) log.follow);
}

-- the end stays where the last file does
end-drop-from : (position : Pos) (n : ℕ) (log : List Ltx) → n < length log → (start : Pos) → fold (λ _ (g : Ltx). after g) start (drop n log) ≡ fold (λ _ (g : Ltx). after g) position log
end-drop-from position n [] some start = absurd (omega (arith, some))
end-drop-from position zero (g ∷ gs) some start = refl
end-drop-from position (suc n) (g ∷ gs) some start = end-drop-from (after g) n gs (omega (arith, some)) start

end-drop : (n : ℕ) (log : List Ltx) → n < length log → end_of (drop n log) ≡ end_of log
unfolding end_of
end-drop n log some = end-drop-from nowhere n log some nowhere

entries-drop-from : (position : Pos) (n : ℕ) (es : List Entry) → n < length es → (start : Pos) → fold (λ _ (e : Entry). e.post) start (drop n es) ≡ fold (λ _ (e : Entry). e.post) position es
entries-drop-from position n [] some start = absurd (omega (arith, some))
entries-drop-from position zero (g ∷ gs) some start = refl
entries-drop-from position (suc n) (g ∷ gs) some start = entries-drop-from g.post n gs (omega (arith, some)) start

pub entries-drop : (n : ℕ) (es : List Entry) → n < length es → end_of_entries (drop n es) ≡ end_of_entries es
unfolding end_of_entries
entries-drop n es some = entries-drop-from nowhere n es some nowhere

-- a log with files has no mark
pub unmarked : (commit : ℕ) (entries : List Entry) (dropped : Bool) (sums : List ℕ) → IsShaped commit entries dropped sums → 0 < length entries → dropped ≡ false
unmarked commit entries dropped sums shaped some = elim (cases_Bool dropped) [
  | inl marked ↦ absurd (omega (arith, some, ap length (shaped.marked marked)))
  | inr isnt ↦ isnt
]

-- the fields fit together after it
pub shaped-drop : (commit : ℕ) (entries : List Entry) (dropped : Bool) (sums : List ℕ) (n : ℕ) → n < length entries → IsShaped commit entries dropped sums → IsShaped commit (drop n entries) dropped sums
shaped-drop commit entries dropped sums n fewer shaped =
    let there : entries ≢ [] = λ none. absurd (omega (arith, fewer, ap length none)) in
    let same : end_of_entries (drop n entries) ≡ end_of_entries entries = entries-drop n entries fewer in
    record {
      count = shaped.count;
      limit = shaped.limit;
      none = λ none. absurd (omega (arith, fewer, length-drop n entries, ap length none));
      marked = λ marked. absurd (there (shaped.marked marked));
      sum = λ some. ap (λ (p : Pos). p.sum) same ∙ shaped.sum there;
      some = λ some. omega (arith, ap (λ (p : Pos). p.txid) same, shaped.some there);
    }

module _ (h : History) (size commit : ℕ) (entries : List Entry) (sums : List ℕ) (whole tried : ℕ)
    (shaped : IsShaped commit entries false sums) (kept : IsStore h size commit entries false sums false whole tried)
    (front : List Entry) (gone keep : ℕ) (taken : front ≡ take gone entries) (fits : gone < length entries) (some_kept : 1 ≤ keep) (amount : gone ≡ length entries - keep) where
  abbrev pub old : StoreState
  old = state_in size commit entries false (now h)

  abbrev pub old_files : List LogFile
  old_files = files_in entries (now h)

  abbrev pub old_image : DatabaseImage
  old_image = image_in size commit (now h)

  ascends : Ascends 0 old_files
  ascends = kept.log.log.ascends

  pub count : length front ≡ gone
  count = ap length taken ∙ omega (arith, length-take gone entries)

  room : length front < length old_files
  room = omega (arith, count, length-files_in entries (now h), fits)

  named : AreNamed front old_files
  named =
      let all = named_in entries (now h) in
      subst (λ (es : List Entry). AreNamed es old_files) (sym taken)
      record {
        min = λ k e f within.
            let low : k < gone = omega (arith, length-take gone entries) in
            all.min k e f (omega (arith, low, fits)) ∙ sym (ap (λ (x : Entry). x.min) (get_or-take gone entries k e low));
        max = λ k e f within.
            let low : k < gone = omega (arith, length-take gone entries) in
            all.max k e f (omega (arith, low, fits)) ∙ sym (ap (λ (x : Entry). x.max) (get_or-take gone entries k e low));
      }

  pub first : AreFirst old_image old_files front h
  first = record { rest = kept.rest; ascends = ascends; named = named; fewer = room }

  log_long : length (log_of old_files) ≡ length entries
  log_long = length-map old_files (λ (f : LogFile). file_of f.encoding) ∙ length-files_in entries (now h)

  -- a folder with some of the first files gone
  durable : (n : ℕ) (c : Folder) → n ≤ gone → Kept old_image (drop n old_files) false c → Durable c (without_front old n)
  durable n c few there = inl (record {
    files = drop n old_files;
    kept = there;
    log = log-drop n old_files;
    sound = is_log-drop n old_files kept.log.log;
    sum = λ some.
        ap (λ (p : Pos). p.sum) (end-drop n (log_of old_files) (omega (arith, few, fits, log_long)))
        ∙ summed h size commit entries false sums whole tried shaped kept (λ none. absurd (omega (arith, fits, sym log_long, ap length none)));
    unmarked = refl;
  })

  most : length (log_of old_files) - keep ≡ gone
  most = omega (arith, log_long, amount)

  pub leaves : (c : Folder) → IsPruned old_image old_files (length front) c → StandsForOne (MayBeFound old (Some (FailedIn (PruneTo keep)))) c
  leaves c pruned =
      let few : pruned.gone ≤ gone = omega (arith, pruned.no_more, count) in
      ∣ (without_front old pruned.gone, (pruned.gone, omega (arith, few, most), refl), durable pruned.gone c few pruned.kept) ∣₁

  pub candidate : (c : Folder) → IsPruned old_image old_files (length front) c → StandsForOne (IsCandidate old (PruneTo keep ∷ [])) c
  candidate c pruned =
      let few : pruned.gone ≤ gone = omega (arith, pruned.no_more, count) in
      ∣ (without_front old pruned.gone, inl (pruned.gone, omega (arith, few, most), refl), durable pruned.gone c few pruned.kept) ∣₁

  module _ (new : History) (run : EachMoment h new (IsPruned old_image old_files (length front))) where
    -- the files are gone
    module _ (rest : IsAtRest old_image (drop (length front) old_files) false new) where
      abbrev pub state_after : StoreState
      state_after = state_in size commit (drop gone entries) false (now new)

      rest_gone : IsAtRest old_image (drop gone old_files) false new
      rest_gone = subst (λ (n : ℕ). IsAtRest old_image (drop n old_files) false new) count rest

      same_files : drop gone old_files ≡ files_in (drop gone entries) (now h)
      same_files = drop-map (λ (e : Entry). let it : LogFile = Rattle.txn_log.proofs.Stores.file_at (now h) e in it) gone entries

      tells_after : Tells old_image (drop gone old_files) size commit (drop gone entries) sums
      tells_after =
          let all = tells h size commit entries false sums whole tried shaped kept in
          record {
            size_is = all.size_is;
            commit_is = all.commit_is;
            log = record {
              log = is_log-drop gone old_files kept.log.log;
              same = sym (drop-map (λ (f : LogFile). entry_of (file_of f.encoding)) gone old_files) ∙ ap (λ (es : List Entry). drop gone es) kept.log.same;
            };
            named = subst (λ (fs : List LogFile). AreNamed (drop gone entries) fs) (sym same_files) (named_in (drop gone entries) (now h));
            count = sym (ap length same_files ∙ length-files_in (drop gone entries) (now h));
            table = all.table;
          }

      is_done : state_after ≡ done old (PruneTo keep)
      is_done =
          state_now old_image (drop gone old_files) false size commit (drop gone entries) sums new rest_gone tells_after
          ∙ (λ i. record { image = old_image; log = (sym (log-drop gone old_files) ∙ ap (λ (n : ℕ). drop n (log_of old_files)) (sym most)) i; dropped = false })

      pub mode_after : (wal : Bool) → wal ≡ image_is_wal old_image → wal ≡ image_is_wal (image_in size commit (now new))
      mode_after wal is = is ∙ ap (λ (s : StoreState). image_is_wal s.image) (sym is_done)

      pub left_done : RestsAs (λ left. left ≡ state_after) new
      left_done c may =
          let there : Durable c (without_front old gone) =
          durable gone c (omega arith) (kept_same old_image (drop gone old_files) false (now new) c rest_gone.kept (rest_gone.settled c may)) in
          let same : without_front old gone ≡ state_after = ap (λ (n : ℕ). without_front old n) (sym most) ∙ sym is_done in
          ∣ (without_front old gone, same, there) ∣₁

      pub went_done : Moved old None h (PruneTo keep ∷ []) None state_after None new
      went_done = moved-done old state_after (PruneTo keep) h new some_kept is_done (weakened h new (IsPruned old_image old_files (length front)) (StandsForOne (IsCandidate old (PruneTo keep ∷ []))) run candidate) left_done

      pub stands : (w t : ℕ) → IsStore new size commit (drop gone entries) false sums false w t
      stands w t = settles old_image (drop gone old_files) false size commit (drop gone entries) sums new rest_gone tells_after w t

    -- a removal failed
    same_store : state_of new size commit entries false true h.moment ≡ old
    same_store = seen_before size commit entries false sums h new run.past whole

    pub left_in : RestsAs (MayBeFound (state_of new size commit entries false true h.moment) (Some (FailedIn (PruneTo keep)))) new
    left_in =
        subst (λ (s : StoreState). RestsAs (MayBeFound s (Some (FailedIn (PruneTo keep)))) new) (sym same_store)
        (λ c may. leaves c (at_last h new (IsPruned old_image old_files (length front)) run c may))

    pub went_in : Moved old None h [] (Some (FailedIn (PruneTo keep))) (state_of new size commit entries false true h.moment) (Some (FailedIn (PruneTo keep))) new
    went_in =
        moved-in old (state_of new size commit entries false true h.moment) (PruneTo keep) h new some_kept same_store
        (weakened h new (IsPruned old_image old_files (length front)) (StandsForOne (IsCandidate old (PruneTo keep ∷ []))) run candidate) left_in

pub log_count : (entries : List Entry) (f : Folder) → length (log_of (files_in entries f)) ≡ length entries
log_count entries f = length-map (files_in entries f) (λ (x : LogFile). file_of x.encoding) ∙ length-files_in entries f

-- nothing to remove
pub went_idle : (store : StoreState) (keep : ℕ) (h : History) → 1 ≤ keep → length store.log - keep ≡ 0 → RestsAs (λ left. left ≡ store) h → Moved store None h (PruneTo keep ∷ []) None store None h
went_idle store keep h some none rests =
    let same : store ≡ done store (PruneTo keep) = λ i. record { image = store.image; log = (ap (λ (n : ℕ). drop n store.log) (sym none)) i; dropped = store.dropped } in
    moved-done store store (PruneTo keep) h h some same
    (Rattle.lf_disk.proofs.Moments.started h (StandsForOne (IsCandidate store (PruneTo keep ∷ []))) (λ c may. Rattle.std.proofs.Math.Logic.∥∥₁_map (rests c may) (λ x. (x.0, inr (x.1 ∙ same), x.2)))) rests
