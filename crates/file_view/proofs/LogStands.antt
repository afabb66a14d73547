-- How the files go on to stand over the committed image when the log is cut or removed.
use Rattle.std.proofs.Common.{◌≡◌, ◌≢◌, ℕ, ◌-◌, ◌<◌, ◌≤◌, Bool, true, false, ◌&&◌, not, length, take, List, [], Option, Some, None, IfSome, refl, sym, ap, ◌∙◌, inl, inr, arith}
use Rattle.std.specs.Prelude.{◌==◌}
use Rattle.std.proofs.lemmas.Bool.{cases_lt, cond-false}
use Rattle.std.proofs.lemmas.Bool.Decides.{nat_tests}
use Rattle.byte_locks.specs.declared.owner.Owner.{Owner}
use Rattle.database_file.specs.DatabaseFile.{is_clean}
use Rattle.database_under_log.specs.Over.{Agrees}
use Rattle.database_under_log.proofs.KeepLemmas.{cut-keeps, empty_none}
use Rattle.lf_base.specs.FileBytes.{resized}
use Rattle.lf_sqlite_pages.specs.Image.{DatabaseImage}
use Rattle.wal_watch.specs.Frames.{committed_count, committed_end, frame_place, page_size_in, size_in}
use Rattle.wal_watch.specs.News.{HasSameFrames, last_size}
use Rattle.wal_watch.specs.Refusals.{IsSoundCut, CutsCommitted}
use Rattle.wal_watch.proofs.CommitLemmas.{has_committed}
use Rattle.wal_watch.proofs.LawLemmas.{keeps_count, keeps_frames, keeps_size, end_is}
use Rattle.wal_watch.proofs.StayLemmas.{take-resized}
use Rattle.file_view.specs.declared.view.Scene.{Scene}
use Rattle.file_view.specs.LogRules.{log_cut_rows, log_unlink_rows, log_cut, log_removed}
use Rattle.file_view.specs.Overlay.{without_uncommitted, IsOverImage, StandsOver}
use Rattle.file_view.specs.Refusal.{first_refusal}
use Rattle.file_view.specs.Served.{Served, log_contents, has_committed_frames}
use Rattle.file_view.proofs.DatabaseLemmas.{opposite}
use Rattle.file_view.proofs.LogLemmas.{cut-sound, nothing-left}
use Rattle.file_view.proofs.RowLemmas.{none-holds}
use Rattle.file_view.proofs.StandLemmas.{clean-clean}

-- what isn't uncommitted keeps nothing, where a rule asks for that
pub clean-when : (s : Served) → (has_committed_frames s && not (is_clean s.database)) ≡ false → 0 < committed_count (log_contents s) → is_clean (without_uncommitted s) ≡ true
clean-when s row some = by-writer s.writer refl where
  by-writer : (w : Option Owner) → s.writer ≡ w → is_clean (without_uncommitted s) ≡ true
  by-writer None alone =
      let framed : has_committed_frames s ≡ true = grind (arith, nat_tests, some) in
      rw alone (opposite _ (rw framed at row))
  by-writer (Some owner) there = rw there (clean-clean s.database)

-- the same database file under another log
pub stands-logged : (told : Option DatabaseImage) (page_size commit : ℕ) (old new : Served) → new.database ≡ old.database → new.writer ≡ old.writer →
    (0 < committed_count (log_contents new) → page_size_in (log_contents new) ≡ page_size) → (0 < committed_count (log_contents new) → last_size (log_contents new) ≡ commit) →
    IfSome told (λ i. Agrees (without_uncommitted old) i (log_contents old) → Agrees (without_uncommitted old) i (log_contents new)) →
    StandsOver told page_size commit old → StandsOver told page_size commit new
stands-logged told page_size commit old new database writer sized last agrees stands =
    let file : without_uncommitted new ≡ without_uncommitted old = rw (writer, database) refl in
    record {
      shape = record {
        fits = rw database stands.shape.fits;
        follows = record { page_size_is = sized; commit_is = last };
      };
      image = over-told told file agrees stands.image;
    } where
      over-told : (told : Option DatabaseImage) → without_uncommitted new ≡ without_uncommitted old →
          IfSome told (λ i. Agrees (without_uncommitted old) i (log_contents old) → Agrees (without_uncommitted old) i (log_contents new)) →
          IfSome told (IsOverImage old) → IfSome told (IsOverImage new)
      over-told None file agrees h = tt
      over-told (Some i) file agrees h = record { differs = rw database h.differs; agrees = rw file (agrees h.agrees) }

-- a log that goes on with no more committed frames has the same size and pages
pub kept-shape : (old new : List ℕ) → take (committed_end old) new ≡ take (committed_end old) old → committed_count new ≡ committed_count old → 0 < committed_count old →
    (page_size_in new ≡ page_size_in old) × (last_size new ≡ last_size old)
kept-shape old new same count more =
    let many : 0 < committed_count new = omega (arith, more, count) in
    let frames : HasSameFrames old new = keeps_frames old new same in
    let own : (contents : List ℕ) → 0 < committed_count contents → last_size contents ≡ size_in contents (committed_count contents - 1) =
    λ contents there. let test : (committed_count contents == 0) ≡ false = grind (arith, nat_tests) in cond-false _ _ _ test in (
      keeps_size old new same more,
      own new many ∙ ap (λ (k : ℕ). size_in new (k - 1)) count ∙ (frames (committed_count old - 1) (omega (arith, more))).size ∙ sym (own old more),
    )

-- a cut that leaves frames leaves all of them
cut-shape : (contents : List ℕ) (len : ℕ) → IsSoundCut contents len → 0 < committed_count (resized len contents) →
    (0 < committed_count contents) × (page_size_in (resized len contents) ≡ page_size_in contents) × (last_size (resized len contents) ≡ last_size contents)
cut-shape contents len sound left =
    let fewer : committed_count (resized len contents) ≤ committed_count contents = elim (cases_lt (committed_count contents) (committed_count (resized len contents))) [
      | inl more ↦ absurd (sound.part (inr more))
      | inr less ↦ less
    ] in
    let some : 0 < committed_count contents = omega (arith, left, fewer) in
    let longer : len ≢ 0 = λ zero. (omega (arith, left, nothing-left contents len empty_none zero)) in
    let behind : committed_end contents ≤ len = elim (cases_lt len (committed_end contents)) [
      | inl under ↦ absurd (sound.part (inl (longer, under)))
      | inr over ↦ over
    ] in
    let place : committed_end contents ≡ frame_place contents (committed_count contents) = end_is contents some in
    let there : committed_end contents ≤ length contents = omega (arith, place, (has_committed contents (committed_count contents) refl some).room) in
    let same : take (committed_end contents) (resized len contents) ≡ take (committed_end contents) contents = take-resized contents (committed_end contents) len behind there in
    let count : committed_count (resized len contents) ≡ committed_count contents = omega (arith, fewer, keeps_count contents (resized len contents) same) in
    let shape = kept-shape contents (resized len contents) same count some in
    (some, shape.0, shape.1)

pub cut-stands : (told : Option DatabaseImage) (page_size commit : ℕ) (old : Served) (scene : Scene) (len : ℕ) (new : Served) →
    first_refusal (log_cut_rows old scene len) ≡ None → new ≡ log_cut old len → StandsOver told page_size commit old → StandsOver told page_size commit new
cut-stands told page_size commit old scene len new none is stands =
    let contents : log_contents new ≡ resized len (log_contents old) = ap (λ (s : Served). log_contents s) is in
    let cuts = cut-sound old scene len empty_none none in
    let follows = stands.shape.follows in
    let dirty : (has_committed_frames old && (len == 0) && not (is_clean old.database)) ≡ false = (none-holds (log_cut_rows old scene len) none).1.1.1.1.1.0 in
    let tidy : len ≡ 0 → 0 < committed_count (log_contents old) → is_clean (without_uncommitted old) ≡ true =
    λ zero some. let test : (len == 0) ≡ true = grind (arith, nat_tests, zero) in clean-when old (drops (has_committed_frames old) (len == 0) (not (is_clean old.database)) test dirty) some in
    stands-logged told page_size commit old new (ap (λ (s : Served). s.database) is) (ap (λ (s : Served). s.writer) is)
    (λ left. let facts = cut-shape (log_contents old) len cuts (rw contents at left) in rw contents (facts.1 ∙ follows.page_size_is facts.0))
    (λ left. let facts = cut-shape (log_contents old) len cuts (rw contents at left) in rw contents (facts.2 ∙ follows.commit_is facts.0))
    (agrees told contents cuts tidy) stands where
      drops : (a b c : Bool) → b ≡ true → (a && b && c) ≡ false → (a && c) ≡ false
      drops a b c holds row = rw holds at (reordered a b c row) where
        reordered : (a b c : Bool) → (a && b && c) ≡ false → (b && (a && c)) ≡ false
        reordered true true c e = e
        reordered true false c e = refl
        reordered false true c e = refl
        reordered false false c e = refl

      agrees : (told : Option DatabaseImage) → log_contents new ≡ resized len (log_contents old) → IsSoundCut (log_contents old) len →
          (len ≡ 0 → 0 < committed_count (log_contents old) → is_clean (without_uncommitted old) ≡ true) →
          IfSome told (λ i. Agrees (without_uncommitted old) i (log_contents old) → Agrees (without_uncommitted old) i (log_contents new))
      agrees None contents cuts tidy = tt
      agrees (Some i) contents cuts tidy = λ h. rw contents (cut-keeps (log_contents old) len (without_uncommitted old) i cuts tidy h)

-- the removal is a cut to nothing
nothing-sound : (contents : List ℕ) → IsSoundCut contents 0
nothing-sound contents = record {
  short = omega arith;
  part = λ (cuts : CutsCommitted contents 0). elim cuts [
    | inl under ↦ under.0 refl
    | inr more ↦ omega (arith, more, nothing-left contents 0 empty_none refl)
  ];
}

resized-nothing : (contents : List ℕ) → resized 0 contents ≡ []
resized-nothing contents = let z : 0 - length contents ≡ 0 = omega arith in rw z refl

pub removed-stands : (told : Option DatabaseImage) (page_size commit : ℕ) (old : Served) (scene : Scene) (new : Served) →
    first_refusal (log_unlink_rows old scene) ≡ None → new ≡ log_removed old → StandsOver told page_size commit old → StandsOver told page_size commit new
removed-stands told page_size commit old scene new none is stands =
    let contents : log_contents new ≡ [] = ap (λ (s : Served). log_contents s) is in
    let dirty : (has_committed_frames old && not (is_clean old.database)) ≡ false = (none-holds (log_unlink_rows old scene) none).1.1.0 in
    let gone : committed_count (log_contents new) ≡ 0 = rw contents empty_none in
    stands-logged told page_size commit old new (ap (λ (s : Served). s.database) is) (ap (λ (s : Served). s.writer) is)
    (λ left. absurd (omega (arith, left, gone))) (λ left. absurd (omega (arith, left, gone)))
    (agrees told contents (clean-when old dirty)) stands where
      agrees : (told : Option DatabaseImage) → log_contents new ≡ [] → (0 < committed_count (log_contents old) → is_clean (without_uncommitted old) ≡ true) →
          IfSome told (λ i. Agrees (without_uncommitted old) i (log_contents old) → Agrees (without_uncommitted old) i (log_contents new))
      agrees None contents tidy = tt
      agrees (Some i) contents tidy =
          λ h. rw (contents, ← resized-nothing (log_contents old)) (cut-keeps (log_contents old) 0 (without_uncommitted old) i (nothing-sound (log_contents old)) (λ zero. tidy) h)
