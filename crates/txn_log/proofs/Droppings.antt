-- A store whose database is dropped.
use Rattle.std.proofs.Common.{◌≡◌, inl, inr, ℕ, ◌-◌, ◌<◌, ◌≤◌, true, false, List, [], ◌∷◌, length, Some, None, replicate, refl, sym, ap, subst, arith}
use Rattle.lf_base.specs.declared.pos.Pos.{Pos}
use Rattle.lf_disk.specs.Folder.{Folder}
use Rattle.lf_disk.specs.History.{History, now, EachMoment}
use Rattle.lf_disk.proofs.Moments.{weakened}
use Rattle.lf_sqlite_pages.specs.Image.{DatabaseImage, empty_image}
use Rattle.world_laws.specs.Store.{StoreState, DropAll, FailedIn, MayBeFound, IsCandidate, CanDo, dropped_store}
use Rattle.txn_log.specs.declared.entry.Entry.{Entry}
use Rattle.txn_log.specs.Calls.{StandsForOne, RestsAs, Moved}
use Rattle.txn_log.specs.Dropping.{NameAll, IsKeptOrDropped}
use Rattle.txn_log.specs.Durable.{Durable}
use Rattle.txn_log.specs.Kept.{LogFile, Kept, IsByMark, IsAtRest}
use Rattle.txn_log.specs.Store.{state_in, state_of, files_in, end_of_entries, IsStore, IsShaped, IsSized}
use Rattle.txn_log.proofs.Entries.{end-log, end-empty}
use Rattle.txn_log.proofs.Moves.{moved-done, moved-in, at_last, image, durable}
use Rattle.txn_log.proofs.Placings.{kept_same}
use Rattle.txn_log.proofs.Stores.{Tells, named_in, length-files_in, seen_before, settles}

-- a log that ends past the start has a file
pub some_entries : (entries : List Entry) → 1 ≤ (end_of_entries entries).txid → 0 < length entries
some_entries [] first = absurd (omega (arith, first, ap (λ (p : Pos). p.txid) end-empty))
some_entries (e ∷ es) first = omega arith

-- a table without pages has no sums
pub no_sums : (sums : List ℕ) → replicate {A = ℕ} (0 - length sums) 0 ≡ []
no_sums sums =
    let none : 0 - length sums ≡ 0 = omega arith in
    ap (λ (n : ℕ). replicate {A = ℕ} n 0) none

-- the fields of a dropped store fit together
pub shaped_dropped : IsShaped 0 [] true []
shaped_dropped = record {
  count = refl;
  limit = omega arith;
  none = λ none. refl;
  marked = λ marked. refl;
  sum = λ some. absurd (some refl);
  some = λ some. absurd (some refl);
}

pub sized_dropped : IsSized 0 0
sized_dropped = record { sized = λ some. absurd (omega (arith, some)); pages = λ some. absurd (omega (arith, some)) }

tells_dropped : Tells empty_image [] 0 0 [] []
tells_dropped = record {
  size_is = refl;
  commit_is = refl;
  log = record {
    log = record {
      ascends = tt;
      encodings = λ k d within. absurd (omega (arith, within));
      min = λ k d within. absurd (omega (arith, within));
      max = λ k d within. absurd (omega (arith, within));
      follow = λ k d within. absurd (omega (arith, within));
    };
    same = refl;
  };
  named = record { min = λ k e f within. absurd (omega (arith, within)); max = λ k e f within. absurd (omega (arith, within)) };
  count = refl;
  table = refl;
}

durable_dropped : (c : Folder) → IsByMark c → Durable c dropped_store
durable_dropped c by = inr (inr (record { by = by; empty = refl }))

-- the files are gone and the mark stands
module _ (new : History) (rest : IsAtRest empty_image [] true new) where
  pub left_dropped : RestsAs (λ left. left ≡ state_in 0 0 [] true (now new)) new
  left_dropped c may =
      let kept : Kept empty_image [] true c = kept_same empty_image [] true (now new) c rest.kept (rest.settled c may) in
      ∣ (dropped_store, refl, durable_dropped c (record { no_snapshot = kept.no_snapshot; stands = kept.mark })) ∣₁

  pub stands : (w t : ℕ) → IsStore new 0 0 [] true [] false w t
  stands w t = settles empty_image [] true 0 0 [] [] new rest tells_dropped w t

module _ (h : History) (size commit : ℕ) (entries : List Entry) (sums : List ℕ) (whole tried : ℕ)
    (shaped : IsShaped commit entries false sums) (kept : IsStore h size commit entries false sums false whole tried) (first : 1 ≤ (end_of_entries entries).txid) where
  abbrev pub old : StoreState
  old = state_in size commit entries false (now h)

  abbrev pub old_image : DatabaseImage
  old_image = image h size commit entries false sums whole tried shaped kept

  abbrev pub old_files : List LogFile
  old_files = files_in entries (now h)

  pub name_all : NameAll entries old_files
  name_all = record { named = named_in entries (now h); count = sym (length-files_in entries (now h)) }

  can : CanDo old DropAll
  can = subst (λ (p : Pos). 1 ≤ p.txid) (end-log entries old_files kept.log) first

  durable_old : (c : Folder) → Kept old_image old_files false c → Durable c old
  durable_old = durable h size commit entries false sums whole tried shaped kept

  leaves : (c : Folder) → IsKeptOrDropped old_image old_files c → StandsForOne (MayBeFound old (Some (FailedIn DropAll))) c
  leaves c either = elim either [
    | inl before ↦ ∣ (old, inl refl, durable_old c before) ∣₁
    | inr by ↦ ∣ (dropped_store, inr refl, durable_dropped c by) ∣₁
  ]

  candidate : (c : Folder) → IsKeptOrDropped old_image old_files c → StandsForOne (IsCandidate old (DropAll ∷ [])) c
  candidate c either = elim either [
    | inl before ↦ ∣ (old, inl (inl refl), durable_old c before) ∣₁
    | inr by ↦ ∣ (dropped_store, inl (inr refl), durable_dropped c by) ∣₁
  ]

  module _ (new : History) (run : EachMoment h new (IsKeptOrDropped old_image old_files)) where
    all_moments : EachMoment h new (StandsForOne (IsCandidate old (DropAll ∷ [])))
    all_moments = weakened h new (IsKeptOrDropped old_image old_files) (StandsForOne (IsCandidate old (DropAll ∷ []))) run candidate

    pub went_done : IsAtRest empty_image [] true new → Moved old None h (DropAll ∷ []) None (state_in 0 0 [] true (now new)) None new
    went_done rest = moved-done old (state_in 0 0 [] true (now new)) DropAll h new can refl all_moments (left_dropped new rest)

    same_store : state_of new size commit entries false true h.moment ≡ old
    same_store = seen_before size commit entries false sums h new run.past whole

    pub left_in : RestsAs (MayBeFound (state_of new size commit entries false true h.moment) (Some (FailedIn DropAll))) new
    left_in =
        subst (λ (s : StoreState). RestsAs (MayBeFound s (Some (FailedIn DropAll))) new) (sym same_store)
        (λ c may. leaves c (at_last h new (IsKeptOrDropped old_image old_files) run c may))

    pub went_in : Moved old None h [] (Some (FailedIn DropAll)) (state_of new size commit entries false true h.moment) (Some (FailedIn DropAll)) new
    went_in = moved-in old (state_of new size commit entries false true h.moment) DropAll h new can same_store all_moments left_in
