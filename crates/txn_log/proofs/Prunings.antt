-- The oldest file of a log becomes the staged file.
use Rattle.std.proofs.Common.{◌≡◌, ◌⊎◌, inl, inr, ℕ, zero, suc, ◌+◌, ◌<◌, ◌≤◌, Bool, true, false, cond, eqb-true, eq-eqb, Option, Some, None, IsSome, Result, List, [], ◌∷◌, length, length-drop, drop, get_or, refl, sym, ◌∙◌, ap, subst, arith}
use Rattle.std.specs.Prelude.{◌==◌, ◌&&◌, is_some}
use Rattle.std.proofs.lemmas.Bool.{cases_Bool, and_parts, and_from}
use Rattle.std.proofs.lemmas.List.{drop_more}
use Rattle.lf_disk.specs.declared.name.FileName.{FileName}
use Rattle.lf_disk.specs.declared.name.FileName.TheVariants.{Database, Staged, Snapshot, Dropped, Ltx}
use Rattle.lf_disk.specs.Folder.{Folder, bytes_of, same_name}
use Rattle.lf_disk.specs.Names.{same_name-refl, same_name-one}
use Rattle.txn_log.specs.declared.entry.Entry.{Entry}
use Rattle.txn_log.proofs.Placings.{kept_same}
use Rattle.txn_log.proofs.Stores.{encoding_from, unnamed}
use Rattle.lf_disk.specs.Change.{Step, Perhaps, Renames}
use Rattle.lf_disk.specs.History.{History, now, may_leave, Ticks, Moves, EachMoment}
use Rattle.lf_disk.proofs.Moments.{started, goes_on}
use Rattle.lf_sqlite_pages.specs.Image.{DatabaseImage}
use Rattle.txn_log.specs.Kept.{LogFile, last_of, IsDecided, Kept, Shows, IsAtRest, Ascends}
use Rattle.txn_log.specs.Pruning.{AreFirst, IsPruned}

last_rest : (file : LogFile) (rest : List LogFile) → 0 < length rest → last_of (file ∷ rest) ≡ last_of rest
last_rest file [] some = absurd (omega arith)
last_rest file (r ∷ rs) some = refl

-- a file is gone, and the others but the staged one are as before
record Loses (a b : ℕ) (f c : Folder) : Type 0 where
  pub here : c (Ltx a b) ≡ None
  pub elsewhere : (n : FileName) → same_name n (Ltx a b) ≡ false → same_name n Staged ≡ false → c n ≡ f n

loses : (a b : ℕ) (f c : Folder) → Renames (Ltx a b) Staged f c → Loses a b f c
loses a b f c renames = record {
  here = let same = same_name-refl (Ltx a b) in renames (Ltx a b) ∙ rw same refl;
  elsewhere = λ n other staged. renames n ∙ rw (staged, other) refl;
}

module _ (image : DatabaseImage) (file : LogFile) (rest : List LogFile) (some : 0 < length rest) (whole : file.min ≤ file.max) (ascends : Ascends file.max rest) where
  one_less : (f c : Folder) → Kept image (file ∷ rest) false f → Loses file.min file.max f c → Kept image rest false c
  one_less f c kept loss = record {
    log = λ a b. elim (cases_Bool (a == file.min && b == file.max)) [
      | inl is ↦
          let both = and_parts (a == file.min) (b == file.max) is in
          let low : a ≡ file.min = eqb-true a file.min both.0 in
          let high : b ≡ file.max = eqb-true b file.max both.1 in
          let at : c (Ltx a b) ≡ c (Ltx file.min file.max) = λ i. c (Ltx (low i) (high i)) in
          at ∙ loss.here ∙ sym (unnamed None file.max rest a b ascends (omega (arith, low)))
      | inr isnt ↦
          loss.elsewhere (Ltx a b) isnt refl ∙ kept.log a b ∙ ap (λ (x : Bool). encoding_from (cond x (Some file.encoding) None) rest a b) isnt
    ];
    no_snapshot = loss.elsewhere Snapshot refl refl ∙ kept.no_snapshot;
    mark = ap is_some (loss.elsewhere Dropped refl refl) ∙ kept.mark;
    decided =
        subst (λ (l : Option LogFile). IsDecided l image (bytes_of (c Database))) (last_rest file rest some)
        (subst (λ (o : Option (List ℕ)). IsDecided (last_of (file ∷ rest)) image (bytes_of o)) (sym (loss.elsewhere Database refl refl)) kept.decided);
    bare = λ none unmarked. ap bytes_of (loss.elsewhere Database refl refl) ∙ kept.bare (last_rest file rest some ∙ none) unmarked;
  }

  pub at_rest_less : (h new : History) → IsAtRest image (file ∷ rest) false h → Moves (Renames (Ltx file.min file.max) Staged) (Renames (Ltx file.min file.max) Staged) h new → IsAtRest image rest false new
  at_rest_less h new before moves =
      let seen : Loses file.min file.max (now h) (now new) = loses file.min file.max (now h) (now new) moves.seen in
      record {
        kept = one_less (now h) (now new) before.kept seen;
        shows = subst (λ (o : Option (List ℕ)). Shows image (bytes_of o)) (sym (seen.elsewhere Database refl refl)) before.shows;
        settled = λ c may n staged.
            let from = moves.left c may in
            let loss : Loses file.min file.max from.0 c = loses file.min file.max from.0 c from.2 in
            elim (cases_Bool (same_name n (Ltx file.min file.max))) [
              | inl is ↦
                  let same : n ≡ Ltx file.min file.max = same_name-one n (Ltx file.min file.max) is in
                  ap c same ∙ loss.here ∙ sym (ap (now new) same ∙ seen.here)
              | inr isnt ↦ loss.elsewhere n isnt staged ∙ before.settled from.0 from.1 n staged ∙ sym (seen.elsewhere n isnt staged)
            ];
      }

  -- a rename that failed
  pub maybe_less : (h new : History) (sees : Step) → IsAtRest image (file ∷ rest) false h → Moves sees (Perhaps (Renames (Ltx file.min file.max) Staged)) h new → (c : Folder) → may_leave new c
      → Kept image (file ∷ rest) false c ⊎ Kept image rest false c
  maybe_less h new sees before moves c may =
      let from = moves.left c may in
      let kept : Kept image (file ∷ rest) false from.0 = kept_same image (file ∷ rest) false (now h) from.0 before.kept (before.settled from.0 from.1) in
      elim from.2 [
        | inl same ↦ inl (kept_same image (file ∷ rest) false from.0 c kept (λ n other. same n))
        | inr done ↦ inr (one_less from.0 c kept (loses file.min file.max from.0 c done))
      ]

  pub stands_first : (f : Folder) → Kept image (file ∷ rest) false f → IsSome (f (Ltx file.min file.max))
  stands_first f kept =
      let named : (file.min == file.min && file.max == file.max) ≡ true = and_from (file.min == file.min) (file.max == file.max) (eq-eqb file.min file.min refl) (eq-eqb file.max file.max refl) in
      let is : f (Ltx file.min file.max) ≡ Some file.encoding =
      kept.log file.min file.max
      ∙ ap (λ (x : Bool). encoding_from (cond x (Some file.encoding) None) rest file.min file.max) named
      ∙ unnamed (Some file.encoding) file.max rest file.min file.max ascends whole in
      subst (λ (o : Option (List ℕ)). IsSome o) (sym is) refl

-- the numbers of what is left ascend too
pub ascends_drop : (number : ℕ) (files : List LogFile) (i : ℕ) → Ascends number files → (m : ℕ) × Ascends m (drop i files)
ascends_drop number files zero ascends = (number, ascends)
ascends_drop number [] (suc i) ascends = (number, tt)
ascends_drop number (f ∷ fs) (suc i) ascends = ascends_drop f.max fs i ascends.2

-- the run so far: i files are gone
pub record Pruning (image : DatabaseImage) (files : List LogFile) (most i : ℕ) (h mid : History) : Type 0 where
  pub rest : IsAtRest image (drop i files) false mid
  pub runs : EachMoment h mid (IsPruned image files most)

pub begins : (image : DatabaseImage) (files : List LogFile) (most : ℕ) (h : History) → IsAtRest image files false h → Pruning image files most 0 h h
begins image files most h rest = record {
  rest = rest;
  runs = started h (IsPruned image files most) (λ c may. record { gone = 0; no_more = omega arith; kept = kept_same image files false (now h) c rest.kept (rest.settled c may) });
}

-- the next of the files
pub record Next (files : List LogFile) (i a b : ℕ) : Type 0 where
  pub file : LogFile
  pub splits : drop i files ≡ file ∷ drop (i + 1) files
  pub low : file.min ≡ a
  pub high : file.max ≡ b
  pub whole : file.min ≤ file.max
  pub ascends : Ascends file.max (drop (i + 1) files)
  pub some : 0 < length (drop (i + 1) files)

pub next : (image : DatabaseImage) (entries : List Entry) (e : Entry) (files : List LogFile) (i : ℕ) (h : History) → AreFirst image files entries h → i < length entries
    → Next files i (get_or entries i e).min (get_or entries i e).max
next image entries e files i h first more =
    let d : LogFile = record { min = 0; max = 0; encoding = [] } in
    let splits : drop i files ≡ get_or files i d ∷ drop (i + 1) files = drop_more files i d (omega (arith, first.fewer, more)) in
    let after = ascends_drop 0 files i first.ascends in
    let here : Ascends after.0 (get_or files i d ∷ drop (i + 1) files) = subst (λ (fs : List LogFile). Ascends after.0 fs) splits after.1 in
    record {
      file = get_or files i d;
      splits = splits;
      low = first.named.min i e d more;
      high = first.named.max i e d more;
      whole = here.1;
      ascends = here.2;
      some = omega (arith, length-drop (i + 1) files, first.fewer, more);
    }

module _ {T E : Type 0} (result : Result T E) (image : DatabaseImage) (files : List LogFile) (most i a b : ℕ) (h mid new : History) (more : i < most)
    (at : Next files i a b) (so_far : Pruning image files most i h mid) (ticks : Ticks result mid new) where
  before : IsAtRest image (at.file ∷ drop (i + 1) files) false mid
  before = subst (λ (fs : List LogFile). IsAtRest image fs false mid) at.splits so_far.rest

  pub removed : Moves (Renames (Ltx a b) Staged) (Renames (Ltx a b) Staged) mid new → Pruning image files most (i + 1) h new
  removed moves =
      let named : Moves (Renames (Ltx at.file.min at.file.max) Staged) (Renames (Ltx at.file.min at.file.max) Staged) mid new =
      let P : ℕ → ℕ → Type 0 = λ x y. Moves (Renames (Ltx x y) Staged) (Renames (Ltx x y) Staged) mid new in
      subst (λ (x : ℕ). P x at.file.max) (sym at.low) (subst (λ (y : ℕ). P a y) (sym at.high) moves) in
      let rest : IsAtRest image (drop (i + 1) files) false new = at_rest_less image at.file (drop (i + 1) files) at.some at.whole at.ascends mid new before named in
      record {
        rest = rest;
        runs = goes_on result h mid new (IsPruned image files most) so_far.runs ticks
            (λ c may. record { gone = i + 1; no_more = omega arith; kept = kept_same image (drop (i + 1) files) false (now new) c rest.kept (rest.settled c may) });
      }

  pub not_removed : (sees : Step) → Moves sees (Perhaps (Renames (Ltx a b) Staged)) mid new → EachMoment h new (IsPruned image files most)
  not_removed sees moves =
      let named : Moves sees (Perhaps (Renames (Ltx at.file.min at.file.max) Staged)) mid new =
      let P : ℕ → ℕ → Type 0 = λ x y. Moves sees (Perhaps (Renames (Ltx x y) Staged)) mid new in
      subst (λ (x : ℕ). P x at.file.max) (sym at.low) (subst (λ (y : ℕ). P a y) (sym at.high) moves) in
      goes_on result h mid new (IsPruned image files most) so_far.runs ticks
      (λ c may. elim (maybe_less image at.file (drop (i + 1) files) at.some at.whole at.ascends mid new sees before named c may) [
        | inl kept ↦ record { gone = i; no_more = omega arith; kept = subst (λ (fs : List LogFile). Kept image fs false c) (sym at.splits) kept }
        | inr kept ↦ record { gone = i + 1; no_more = omega arith; kept = kept }
      ])

-- the next of the files is there
pub is_there : (image : DatabaseImage) (files : List LogFile) (most i a b : ℕ) (h mid : History) → Next files i a b → Pruning image files most i h mid → IsSome (now mid (Ltx a b))
is_there image files most i a b h mid at so_far =
    let kept : Kept image (at.file ∷ drop (i + 1) files) false (now mid) = subst (λ (fs : List LogFile). Kept image fs false (now mid)) at.splits so_far.rest.kept in
    let there : IsSome (now mid (Ltx at.file.min at.file.max)) = stands_first image at.file (drop (i + 1) files) at.some at.whole at.ascends (now mid) kept in
    subst (λ (x : ℕ). IsSome (now mid (Ltx x b))) at.low (subst (λ (y : ℕ). IsSome (now mid (Ltx at.file.min y))) at.high there)
