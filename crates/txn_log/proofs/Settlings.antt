-- The rest of an install, call by call.
use Rattle.std.proofs.Common.{◌≡◌, inl, inr, ℕ, false, cond, Option, Some, None, IsSome, Result, List, [], ◌∷◌, refl, sym, ◌∙◌, ap, subst, arith}
use Rattle.std.specs.Prelude.{◌==◌, ◌&&◌, is_some}
use Rattle.std.proofs.lemmas.Option.{same_Some}
use Rattle.lf_disk.specs.declared.name.FileName.{FileName}
use Rattle.lf_disk.specs.declared.name.FileName.TheVariants.{Database, Staged, Snapshot, Dropped, Ltx}
use Rattle.lf_disk.specs.Folder.{Folder, bytes_of, SameBut, same_name, with_file, renamed}
use Rattle.lf_disk.specs.Change.{Step, Perhaps, SetsFile, Renames}
use Rattle.lf_disk.specs.History.{History, now, may_leave, Ticks, Moves, EachMoment, IsSettledBut}
use Rattle.lf_disk.proofs.Moments.{started, goes_on, joined, weakened}
use Rattle.lf_sqlite_pages.specs.Image.{DatabaseImage}
use Rattle.lf_sqlite_pages.specs.Change.{PageChange, IsChange}
use Rattle.txn_log.specs.declared.entry.Entry.{Entry}
use Rattle.txn_log.specs.Rewriting.{IsWorn, IsRewritten}
use Rattle.txn_log.specs.Kept.{LogFile, encoded_change, Decides, Kept, Shows, IsAtRest, IsBySnapshot}
use Rattle.txn_log.specs.Settling.{without, HasNoOthers, IsThinned, IsCleared, IsUnsettled, IsInstalled}
use Rattle.txn_log.proofs.Clearings.{without-other, cleared_all}
use Rattle.txn_log.proofs.Puttings.{still_decides, shows_after}

-- a step that was taken was perhaps taken
pub perhaps : (h new : History) (sees step : Step) → Moves sees step h new → Moves sees (Perhaps step) h new
perhaps h new sees step moves = record {
  seen = moves.seen;
  left = λ c may. let from = moves.left c may in (from.0, from.1, inr from.2);
}

-- the mark is removed, or perhaps not
unmarking : (d c : Folder) → Perhaps (SetsFile Dropped None) d c → SameBut Dropped d c
unmarking d c step n other = elim step [
  | inl same ↦ same n
  | inr sets ↦ sets.elsewhere n other
]

pub unmarked_settled : (h mid : History) → IsSettledBut Staged h → Moves (SetsFile Dropped None) (SetsFile Dropped None) h mid → IsSettledBut Staged mid
unmarked_settled h mid settled moves c may n other =
    let from = moves.left c may in
    elim (Rattle.std.proofs.lemmas.Bool.cases_Bool (same_name n Dropped)) [
      | inl is ↦
          let name : n ≡ Dropped = Rattle.lf_disk.specs.Names.same_name-one n Dropped is in
          ap c name ∙ from.2.here ∙ sym (ap (now mid) name ∙ moves.seen.here)
      | inr isnt ↦ from.2.elsewhere n isnt ∙ settled from.0 from.1 n other ∙ sym (moves.seen.elsewhere n isnt)
    ]

-- the transaction files of a folder are removed alike where they are alike
pub without-alike : (entries : List Entry) (f g : Folder) → ((a b : ℕ) → g (Ltx a b) ≡ f (Ltx a b)) → (a b : ℕ) → without entries g (Ltx a b) ≡ without entries f (Ltx a b)
without-alike [] f g alike a b = alike a b
without-alike (e ∷ es) f g alike a b =
    without-alike es (with_file (Ltx e.min e.max) None f) (with_file (Ltx e.min e.max) None g)
    (λ x y. ap (λ (o : Option (List ℕ)). cond (x == e.min && y == e.max) None o) (alike x y)) a b

pub thinned-other : (entries : List Entry) (f c : Folder) → IsThinned entries f c → (n : FileName) → ((a b : ℕ) → same_name n (Ltx a b) ≡ false) → same_name n Staged ≡ false → c n ≡ f n
thinned-other entries f c is n other staged = is.rest n staged ∙ without-other (Rattle.std.specs.Prelude.take is.gone entries) f n other

pub cleared-other : (entries : List Entry) (f : Folder) (h : History) → IsCleared entries f h → (n : FileName) → ((a b : ℕ) → same_name n (Ltx a b) ≡ false) → now h n ≡ f n
cleared-other entries f h is n other = is.seen n ∙ without-other entries f n other

-- the snapshot decides as long as it and the database file stay
pub by_same : (image : DatabaseImage) (encoding : List ℕ) (f c : Folder) → c Snapshot ≡ f Snapshot → c Database ≡ f Database → IsBySnapshot image encoding f → IsBySnapshot image encoding c
by_same image encoding f c snapshot database by = record {
  stands = snapshot ∙ by.stands;
  decides = subst (λ (o : Option (List ℕ)). Decides (encoded_change encoding) image (bytes_of o)) (sym database) by.decides;
}

pub by_worn : (image : DatabaseImage) (encoding : List ℕ) (change : PageChange) (f c : Folder) → encoded_change encoding ≡ change → IsWorn change f c → IsBySnapshot image encoding f → IsBySnapshot image encoding c
by_worn image encoding change f c tells worn by = record {
  stands = worn.others Snapshot refl refl ∙ by.stands;
  decides =
      subst (λ (x : PageChange). Decides x image (bytes_of (c Database))) (sym tells)
      (still_decides change image (bytes_of (f Database)) (bytes_of (c Database)) (subst (λ (x : PageChange). Decides x image (bytes_of (f Database))) tells by.decides) worn.database.bytes);
}

-- all is written, and the snapshot still has its old name
pub record IsWritten (image : DatabaseImage) (encoding : List ℕ) (h : History) : Type 0 where
  pub by : IsBySnapshot image encoding (now h)
  pub shows : Shows image (bytes_of (now h Database))
  pub unmarked : now h Dropped ≡ None
  pub none : (a b : ℕ) → now h (Ltx a b) ≡ None
  pub settled : IsSettledBut Staged h

renamed_alike : (a b : ℕ) (f g : Folder) → SameBut Staged f g → (n : FileName) → same_name n Staged ≡ false → renamed Snapshot (Ltx a b) g n ≡ renamed Snapshot (Ltx a b) f n
renamed_alike a b f g same n other =
    ap (λ (o : Option (List ℕ)). cond (same_name n (Ltx a b)) o (cond (same_name n Snapshot) None (g n))) (same Snapshot refl)
    ∙ ap (λ (o : Option (List ℕ)). cond (same_name n (Ltx a b)) (f Snapshot) (cond (same_name n Snapshot) None o)) (same n other)

module _ (image : DatabaseImage) (file : LogFile) (h new : History) (written : IsWritten image file.encoding h) where
  pub named : (c : Folder) → SameBut Staged (renamed Snapshot (Ltx file.min file.max) (now h)) c → Kept image (file ∷ []) false c
  named c same = record {
    log = λ a b.
        same (Ltx a b) refl
        ∙ ap (λ (o : Option (List ℕ)). cond (a == file.min && b == file.max) o (now h (Ltx a b))) written.by.stands
        ∙ ap (λ (o : Option (List ℕ)). cond (a == file.min && b == file.max) (Some file.encoding) o) (written.none a b);
    no_snapshot = same Snapshot refl;
    mark = ap is_some (same Dropped refl ∙ written.unmarked);
    decided = record {
      none = λ none. let no : None ≡ Some file = sym none in absurd (cc);
      some = λ other some.
          let is : file ≡ other = same_Some file other some in
          subst (λ (x : LogFile). Decides (encoded_change x.encoding) image (bytes_of (c Database))) is
          (subst (λ (o : Option (List ℕ)). Decides (encoded_change file.encoding) image (bytes_of o)) (sym (same Database refl)) written.by.decides);
    };
    bare = λ none. let no : None ≡ Some file = sym none in absurd (cc);
  }

  here : (d c : Folder) → may_leave h d → Renames Snapshot (Ltx file.min file.max) d c → SameBut Staged (renamed Snapshot (Ltx file.min file.max) (now h)) c
  here d c may renames n other = renames n ∙ renamed_alike file.min file.max (now h) d (written.settled d may) n other

  pub renaming : (sees : Step) → Moves sees (Perhaps (Renames Snapshot (Ltx file.min file.max))) h new → (c : Folder) → may_leave new c → IsInstalled image file c
  renaming sees moves c may =
      let from = moves.left c may in
      elim from.2 [
        | inl same ↦
            let still = written.settled from.0 from.1 in
            inl (by_same image file.encoding (now h) c (same Snapshot ∙ still Snapshot refl) (same Database ∙ still Database refl) written.by)
        | inr renames ↦ inr (named c (here from.0 c from.1 renames))
      ]

  pub at_rest : Moves (Renames Snapshot (Ltx file.min file.max)) (Renames Snapshot (Ltx file.min file.max)) h new → IsAtRest image (file ∷ []) false new
  at_rest moves = record {
    kept = named (now new) (λ n other. moves.seen n);
    shows = subst (λ (o : Option (List ℕ)). Shows image (bytes_of o)) (sym (moves.seen Database)) written.shows;
    settled = λ c may n other.
        let from = moves.left c may in
        here from.0 c from.1 from.2 n other ∙ sym (moves.seen n);
  }

-- From a folder in which a snapshot decides. The stages are: the mark is removed, the other files, then the pages are written.
module _ (image : DatabaseImage) (file : LogFile) (entries : List Entry) (change : PageChange) (h : History)
    (settled : IsSettledBut Staged h) (is : IsUnsettled image file.encoding entries change (now h)) where
  abbrev P : Folder → Type 0
  P = IsInstalled image file

  pub begin : EachMoment h h P
  begin = started h P (λ c may. inl (by_same image file.encoding (now h) c (settled c may Snapshot refl) (settled c may Database refl) is.by))

  pub unmarks : {T E : Type 0} (result : Result T E) (mid : History) (sees : Step) → Ticks result h mid → Moves sees (Perhaps (SetsFile Dropped None)) h mid → EachMoment h mid P
  unmarks result mid sees ticks moves =
      goes_on result h h mid P begin ticks
      (λ c may.
      let from = moves.left c may in
      let step : SameBut Dropped from.0 c = unmarking from.0 c from.2 in
      let still = settled from.0 from.1 in
      inl (by_same image file.encoding (now h) c (step Snapshot refl ∙ still Snapshot refl) (step Database refl ∙ still Database refl) is.by))

  module _ (one : History) (sees : Step) (moves : Moves (SetsFile Dropped None) sees h one) where
    by_one : IsBySnapshot image file.encoding (now one)
    by_one = by_same image file.encoding (now h) (now one) (moves.seen.elsewhere Snapshot refl) (moves.seen.elsewhere Database refl) is.by

    others_one : HasNoOthers entries (now one)
    others_one a b = without-alike entries (now h) (now one) (λ x y. moves.seen.elsewhere (Ltx x y) refl) a b ∙ is.others a b

    pub clears : (two : History) → EachMoment h one P → EachMoment one two (IsThinned entries (now one)) → EachMoment h two P
    clears two first second =
        joined h one two P first
        (weakened one two (IsThinned entries (now one)) P second
        (λ c thin. inl (by_same image file.encoding (now one) c (thinned-other entries (now one) c thin Snapshot (λ a b. refl) refl) (thinned-other entries (now one) c thin Database (λ a b. refl) refl) by_one)))

    module _ (two : History) (cleared : IsCleared entries (now one) two) where
      by_two : IsBySnapshot image file.encoding (now two)
      by_two =
          by_same image file.encoding (now one) (now two) (cleared-other entries (now one) two cleared Snapshot (λ a b. refl)) (cleared-other entries (now one) two cleared Database (λ a b. refl)) by_one

      pub writes : (three : History) → EachMoment h two P → EachMoment two three (IsWorn change (now two)) → EachMoment h three P
      writes three first second =
          joined h two three P first
          (weakened two three (IsWorn change (now two)) P second (λ c worn. inl (by_worn image file.encoding change (now two) c is.tells worn by_two)))

      pub written : (three : History) → IsChange change → EachMoment two three (IsWorn change (now two)) → may_leave three (now three) → IsRewritten change (now two) three → IsWritten image file.encoding three
      written three valid runs real done = record {
        by = by_worn image file.encoding change (now two) (now three) is.tells (runs.each three.moment (now three) runs.later (omega arith) real) by_two;
        shows =
            subst (λ (o : Option (List ℕ)). Shows image (bytes_of o)) (sym done.database)
            (shows_after change image (bytes_of (now two Database)) valid (subst (λ (x : PageChange). Decides x image (bytes_of (now two Database))) is.tells by_two.decides));
        unmarked = done.others Dropped refl ∙ cleared-other entries (now one) two cleared Dropped (λ a b. refl) ∙ moves.seen.here;
        none = λ a b. done.others (Ltx a b) refl ∙ cleared_all entries (now one) two others_one cleared a b;
        settled = done.settled;
      }

-- the snapshot is there when it is to be renamed
pub snapshot_there : (entries : List Entry) (change : PageChange) (h one two three : History) (sees : Step) → IsSome (now h Snapshot) → Moves (SetsFile Dropped None) sees h one → IsCleared entries (now one) two
    → IsRewritten change (now two) three → IsSome (now three Snapshot)
snapshot_there entries change h one two three sees some moves cleared done =
    let same : now three Snapshot ≡ now h Snapshot =
    done.others Snapshot refl ∙ cleared-other entries (now one) two cleared Snapshot (λ a b. refl) ∙ moves.seen.elsewhere Snapshot refl in
    subst (λ (o : Option (List ℕ)). IsSome o) (sym same) some
