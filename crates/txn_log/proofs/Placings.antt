-- A staged file is ready to be put in place.
use Rattle.std.proofs.Common.{◌≡◌, inl, inr, ℕ, Bool, false, true, is_some, List, ◌∷◌, [], ◌++◌, refl, sym, ◌∙◌, ap, subst, arith, IsSome, Option}
use Rattle.std.proofs.lemmas.Bool.{cases_Bool}
use Rattle.lf_disk.specs.declared.name.FileName.TheVariants.{Database, Staged, Snapshot, Dropped, Ltx}
use Rattle.lf_disk.specs.Folder.{Folder, bytes_of, SameBut, same_name}
use Rattle.lf_disk.specs.Names.{same_name-one}
use Rattle.lf_disk.specs.History.{History, now, EachMoment}
use Rattle.lf_disk.specs.Publish.{IsStaged}
use Rattle.lf_disk.proofs.Moments.{joined, weakened}
use Rattle.lf_sqlite_pages.specs.Image.{DatabaseImage}
use Rattle.lf_sqlite_pages.specs.Change.{PageChange}
use Rattle.lf_sqlite_pages.specs.Apply.{apply}
use Rattle.txn_log.specs.Kept.{LogFile, encoding_of, Kept, IsAtRest, IsDecided, last_of}
use Rattle.txn_log.specs.Putting.{IsSettled, IsReady, IsBeforeOrAfter}
use Rattle.txn_log.specs.Installing.{IsReadyAnew, IsAsBeforeOrInstalled}
use Rattle.txn_log.specs.Placing.{IsOver, IsTried, IsBetween}
use Rattle.txn_log.proofs.Puttings.{decides}

-- the staged file is of no account
pub kept_same : (image : DatabaseImage) (files : List LogFile) (dropped : _) (f c : Folder) → Kept image files dropped f → SameBut Staged f c → Kept image files dropped c
kept_same image files dropped f c kept same = record {
  log = λ a b. same (Ltx a b) refl ∙ kept.log a b;
  no_snapshot = same Snapshot refl ∙ kept.no_snapshot;
  mark = ap is_some (same Dropped refl) ∙ kept.mark;
  decided = subst (λ (o : Option (List ℕ)). IsDecided (last_of files) image (bytes_of o)) (sym (same Database refl)) kept.decided;
  bare = λ none unmarked. ap bytes_of (same Database refl) ∙ kept.bare none unmarked;
}

-- where there is no mark, no snapshot is needed
pub between : (image : DatabaseImage) (files : List LogFile) (dropped : _) (made : DatabaseImage) (file : LogFile) → dropped ≡ false → (c : Folder)
    → IsBeforeOrAfter image files made (files ++ file ∷ []) c → IsBetween image files dropped made file c
between image files dropped made file unmarked c either = elim either [
  | inl before ↦ inl (subst (λ d. Kept image files d c) (sym unmarked) before)
  | inr there ↦ inr (inr there)
]

-- a store with the mark has no files
module _ (image : DatabaseImage) (files : List LogFile) (dropped : Bool) (encoding : List ℕ) (change : PageChange) (h : History) (marked : dropped ≡ true) (none : files ≡ []) (ready : IsReady image files dropped encoding change h) where
  pub anew_ready : IsReadyAnew ready.before (apply image change) encoding [] change h
  anew_ready = record {
    staged = ready.staged;
    would = record {
      decides = decides image change (bytes_of (ready.before Database)) ready.valid ready.shows ready.complete;
      tells = ready.tells;
      others = λ a b. ready.kept.log a b ∙ ap (λ (fs : List LogFile). encoding_of fs a b) none;
    };
  }

  pub anew_moments : (file : LogFile) (new : History) → EachMoment h new (IsAsBeforeOrInstalled ready.before (apply image change) file) → EachMoment h new (IsBetween image files dropped (apply image change) file)
  anew_moments file new run =
      weakened h new (IsAsBeforeOrInstalled ready.before (apply image change) file) (IsBetween image files dropped (apply image change) file) run
      (λ c is. elim is [
        | inl same ↦ inl (kept_same image files dropped ready.before c ready.kept same)
        | inr (inl by) ↦ inr (inl (marked, by))
        | inr (inr kept) ↦ inr (inr (subst (λ (fs : List LogFile). Kept (apply image change) (fs ++ file ∷ []) false c) (sym none) kept))
      ])

pub anew_rest : (files : List LogFile) (made : DatabaseImage) (file : LogFile) (new : History) → files ≡ [] → IsAtRest made (file ∷ []) false new → IsAtRest made (files ++ file ∷ []) false new
anew_rest files made file new none rest = subst (λ (fs : List LogFile). IsAtRest made (fs ++ file ∷ []) false new) (sym none) rest

pub settled : (before : Folder) (bytes : List ℕ) (h : History) → IsStaged before bytes h → IsSettled h
settled before bytes h staged c may n = elim (cases_Bool (same_name n Staged)) [
  | inl is ↦ let name : n ≡ Staged = same_name-one n Staged is in ap c name ∙ staged.whole c may ∙ sym (ap (now h) name ∙ staged.here)
  | inr isnt ↦ staged.others c may n isnt ∙ sym (staged.seen n isnt)
]

pub there : (before : Folder) (bytes : List ℕ) (h : History) → IsStaged before bytes h → IsSome (now h Staged)
there before bytes h staged = subst (λ (o : Option (List ℕ)). IsSome o) (sym staged.here) refl

module _ (image : DatabaseImage) (files : List LogFile) (dropped : _) (encoding : List ℕ) (change : PageChange) (h mid : History) (over : IsOver image files dropped encoding change h) where
  pub stays : EachMoment h mid (SameBut Staged (now h)) → EachMoment h mid (Kept image files dropped)
  stays runs = weakened h mid (SameBut Staged (now h)) (Kept image files dropped) runs (λ c same. kept_same image files dropped (now h) c over.rest.kept same)

  pub ready : IsStaged (now h) encoding mid → IsReady image files dropped encoding change mid
  ready staged = record {
    before = now h;
    staged = staged;
    kept = over.rest.kept;
    shows = over.rest.shows;
    tells = over.tells;
    valid = over.valid;
    complete = over.complete;
  }

  pub moments : (new : History) (file : LogFile) → EachMoment h mid (SameBut Staged (now h)) → EachMoment mid new (IsBetween image files dropped (apply image change) file)
      → EachMoment h new (IsBetween image files dropped (apply image change) file)
  moments new file first second =
      joined h mid new (IsBetween image files dropped (apply image change) file)
      (weakened h mid (Kept image files dropped) (IsBetween image files dropped (apply image change) file) (stays first) (λ c kept. inl kept)) second

  pub tried : (new : History) (P : Folder → Type 0) → IsStaged (now h) encoding mid → EachMoment mid new P → IsTried encoding mid.moment new
  tried new P staged run = record {
    past = run.later;
    read = ap bytes_of (run.past.seen mid.moment Staged (omega arith) ∙ staged.here);
  }
