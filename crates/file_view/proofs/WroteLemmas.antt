-- The served files after a write to the log.
use Rattle.std.proofs.Common.{◌≡◌, ℕ, ◌<◌, ◌≤◌, true, false, ◌||◌, length, List, take, inl, inr, Option, Some, None, refl, sym, ap, ◌∙◌, subst, arith}
use Rattle.std.specs.Prelude.{is_some, IsSome, nat_lt}
use Rattle.std.specs.FinMap as pages
use Rattle.std.specs.FinMap.{len-empty}
use Rattle.std.specs.Ordering.{nat_cmp}
use Rattle.std.specs.Str.{bytes_eq}
use Rattle.std.proofs.lemmas.Slice.Eq.{bytes_eq-Decides}
use Rattle.std.proofs.lemmas.Bool.{cases_Bool}
use Rattle.std.proofs.lemmas.Bool.Decides.{nat_tests}
use Rattle.database_file.specs.DatabaseFile.{DatabaseFile, clean, is_clean}
use Rattle.database_under_log.specs.Fault.{wanted_size}
use Rattle.database_under_log.specs.Over.{FollowsLog}
use Rattle.database_under_log.specs.Waiting.{MayChangeHeader}
use Rattle.lf_base.specs.FileBytes.{written}
use Rattle.lf_sqlite_pages.specs.Blocks.{IsWithin}
use Rattle.lf_sqlite_pages.specs.Change.{PageChange}
use Rattle.lf_sqlite_pages.specs.Image.{DatabaseImage}
use Rattle.wal_watch.specs.File.{Wal, contents_of}
use Rattle.wal_watch.specs.Frames.{committed_count, committed_end}
use Rattle.wal_watch.specs.News.{first_new}
use Rattle.wal_watch.specs.Refusals.{IsSoundWrite}
use Rattle.wal_watch.proofs.LawLemmas.{keeps_count}
use Rattle.file_view.specs.declared.journal.JournalCall.{JournalCall}
use Rattle.file_view.specs.declared.view.Scene.{Scene}
use Rattle.file_view.specs.declared.view.View.TheInside.{Inside}
use Rattle.file_view.specs.DatabaseState.{DatabaseState, HeldWrite}
use Rattle.file_view.specs.HeldParts.{LogWrote}
use Rattle.file_view.specs.LogRules.{FollowsImage, LogCommits, LogKeeps, LogDone, commits_frames, log_after}
use Rattle.file_view.specs.Served.{Served, log_contents, waits}
use Rattle.file_view.specs.ServedParts.{served_of, IsKept}
use Rattle.file_view.specs.Sound.{IsSound}
use Rattle.database_file.proofs.CleanLemmas.{clean-is}

-- a file that keeps nothing is clean
len_none : (file : DatabaseFile) → pages.len (clean file).kept ≡ 0
len_none file = len-empty nat_cmp (List ℕ)

is-clean : (file : DatabaseFile) → file ≡ clean file → is_clean file ≡ true
is-clean file is = ap is_clean is ∙ rw (len_none file) refl

-- what the log has to follow
pub follows-log : (s : Served) (page_size commit : ℕ) → IsSound s → s.writer ≡ None → FollowsImage (log_contents s) page_size commit → FollowsLog s.database page_size commit (log_contents s)
follows-log s page_size commit sound alone follows = record {
  page_size_is = follows.page_size_is;
  commit_is = follows.commit_is;
  clean = λ none. let off : nat_lt 0 (committed_count (log_contents s)) ≡ false = grind (arith, nat_tests, none) in is-clean s.database (sound.settled alone off);
}

-- what a write does to the served files
pub wrote-done : (told : Option DatabaseImage) (page_size commit : ℕ) (scene : Scene) (v : Inside) (d : DatabaseState) (log : Wal) (at : ℕ) (bytes : List ℕ) (change : Option PageChange) →
    scene.page_size ≡ page_size → scene.commit ≡ commit → LogWrote told page_size commit v.database v.log at bytes change d log →
    LogDone told (served_of v) scene at bytes change (served_of (record v { database = d; log = log }))
wrote-done told page_size commit scene v d log at bytes None size count wrote = (
  subst (λ (n : ℕ). LogCommits told v.database.file (contents_of v.log) (written at bytes (contents_of v.log)) n None) (sym count) wrote.1.commits,
  (
    subst (λ (n : ℕ). LogKeeps told v.database.file (contents_of v.log) (written at bytes (contents_of v.log)) n scene.commit) (sym size)
        (subst (λ (n : ℕ). LogKeeps told v.database.file (contents_of v.log) (written at bytes (contents_of v.log)) page_size n) (sym count) wrote.1.keeps),
    ap (λ (x : DatabaseState). record (served_of v) { database = x.file; held_write = x.held; log = log.contents }) wrote.0
        ∙ ap (λ (t : Option (List ℕ)). record (served_of v) { log = t }) wrote.1.contents,
  ),
)
wrote-done told page_size commit scene v d log at bytes (Some change) size count wrote = (
  subst (λ (n : ℕ). LogCommits told v.database.file (contents_of v.log) (written at bytes (contents_of v.log)) n (Some change)) (sym count) wrote.0,
  record {
    write = wrote.1.1.0;
    state = ap (λ (x : DatabaseState). record (served_of v) { database = x.file; held_write = x.held; log = log.contents }) wrote.1.1.1.1
        ∙ ap (λ (t : Option (List ℕ)). record (served_of v) { held_write = Some wrote.1.1.0; log = t }) wrote.1.0.contents;
    is = wrote.1.1.1.0;
  },
)

-- nothing waits
nothing-waits : (s : Served) → waits s ≡ false → (s.held_write ≡ None) × (s.journal.waiting ≡ None)
nothing-waits s free = absent s.held_write s.journal.waiting free where
  absent : (held : Option HeldWrite) (call : Option JournalCall) → (is_some held || is_some call) ≡ false → (held ≡ None) × (call ≡ None)
  absent None None b = (refl, refl)
  absent None (Some call) b = absurd cc
  absent (Some w) call b = absurd cc

-- a write that leaves no frames leaves them only where there were none, or over a file that is the image
stays-settled : (s : Served) (scene : Scene) (at : ℕ) (bytes : List ℕ) → IsSound s → IsSoundWrite (log_contents s) (wanted_size scene.page_size scene.commit) at bytes →
    MayChangeHeader s.database (log_contents s) (log_after s at bytes) → s.writer ≡ None → nat_lt 0 (committed_count (log_after s at bytes)) ≡ false → s.database ≡ clean s.database
stays-settled s scene at bytes sound write header alone none =
    let old : List ℕ = log_contents s in
    let new : List ℕ = log_after s at bytes in
    elim (cases_Bool (bytes_eq (take 32 (log_after s at bytes)) (take 32 (log_contents s)))) [
      | inl equal ↦
          let head : take 32 (log_after s at bytes) ≡ take 32 (log_contents s) = (bytes_eq-Decides (take 32 (log_after s at bytes)) (take 32 (log_contents s))).0 equal in
          elim (cases_Bool (bytes_eq (take (committed_end (log_contents s)) (log_after s at bytes)) (take (committed_end (log_contents s)) (log_contents s)))) [
            | inl same ↦
                let kept = (bytes_eq-Decides (take (committed_end (log_contents s)) (log_after s at bytes)) (take (committed_end (log_contents s)) (log_contents s))).0 same in
                let more : committed_count (log_contents s) ≤ committed_count (log_after s at bytes) = keeps_count (log_contents s) (log_after s at bytes) kept in
                sound.settled alone (grind (arith, nat_tests, none, more))
            | inr differ ↦ absurd (write.part (head, λ is. let on = (bytes_eq-Decides (take (committed_end (log_contents s)) (log_after s at bytes)) (take (committed_end (log_contents s)) (log_contents s))).1 is in cc (on, differ)))
          ]
      | inr other ↦ clean-is s.database (header (λ is. let on = (bytes_eq-Decides (take 32 (log_after s at bytes)) (take 32 (log_contents s))).1 is in cc (on, other)))
    ]

-- the files stay sound: a write that is done
stored-sound : (s : Served) (scene : Scene) (at : ℕ) (bytes : List ℕ) → IsSound s → IsSoundWrite (log_contents s) (wanted_size scene.page_size scene.commit) at bytes →
    MayChangeHeader s.database (log_contents s) (log_after s at bytes) → s.writer ≡ None → waits s ≡ false → IsSound (record s { log = Some (log_after s at bytes) })
stored-sound s scene at bytes sound write header alone free = record {
  exclusive = sound.exclusive;
  torn = sound.torn;
  apart = sound.apart;
  journaled = sound.journaled;
  settled = λ none frames. stays-settled s scene at bytes sound write header alone frames;
  alone = sound.alone;
  unwritten = sound.unwritten;
  logged = λ w is. refl;
  left = λ w is. absurd (let held = (nothing-waits s free).0 in cc (held, is));
}

-- one that waits
some-frames : (old new : List ℕ) (change : PageChange) → (commits_frames old new ≡ false → Some change ≡ None) → nat_lt 0 (committed_count new) ≡ false → ⊥
some-frames old new change nothing none = elim (cases_Bool (commits_frames old new)) [
  | inl on ↦
      let more : first_new old new < committed_count new = grind (arith, nat_tests, on) in
      let off : committed_count new ≤ 0 = grind (arith, nat_tests, none) in
      omega (arith, more, off)
  | inr off ↦ let e = nothing off in absurd cc
]

held-sound : (s : Served) (w : HeldWrite) (change : PageChange) → IsSound s → s.writer ≡ None → waits s ≡ false → IsSome s.log →
    (commits_frames (log_contents s) (written w.at w.bytes (log_contents s)) ≡ false → Some change ≡ None) → IsSound (record s { held_write = Some w })
held-sound s w change sound alone free there commits = record {
  exclusive = sound.exclusive;
  torn = sound.torn;
  apart = sound.apart;
  journaled = sound.journaled;
  settled = sound.settled;
  alone = λ call is. absurd (let none = (nothing-waits s free).1 in cc (none, is));
  unwritten = λ owner is. absurd cc;
  logged = λ x is. there;
  left = λ x is none. absurd (let same : w ≡ x = cc in
      some-frames (log_contents s) (written w.at w.bytes (log_contents s)) change commits (subst (λ (y : HeldWrite). nat_lt 0 (committed_count (written y.at y.bytes (log_contents s))) ≡ false) (sym same) none));
}

-- the write goes where it was to go
as-held : (w : HeldWrite) (at : ℕ) (bytes contents : List ℕ) → w.at ≡ at → w.bytes ≡ bytes → written w.at w.bytes contents ≡ written at bytes contents
as-held w at bytes contents place is = ap (λ (n : ℕ). written n w.bytes contents) place ∙ ap (λ (b : List ℕ). written at b contents) is

pub wrote-kept : (told : Option DatabaseImage) (page_size commit : ℕ) (scene : Scene) (v : Inside) (d : DatabaseState) (log : Wal) (at : ℕ) (bytes : List ℕ) (change : Option PageChange) →
    IsSoundWrite (log_contents (served_of v)) (wanted_size scene.page_size scene.commit) at bytes → MayChangeHeader v.database.file (log_contents (served_of v)) (log_after (served_of v) at bytes) →
    v.writer ≡ None → waits (served_of v) ≡ false → IsSome v.log.contents → LogWrote told page_size commit v.database v.log at bytes change d log → IsKept v →
    IsKept (record v { database = d; log = log })
wrote-kept told page_size commit scene v d log at bytes None write header alone free there wrote kept = record {
  sound = subst (λ (x : DatabaseState). IsSound (record (served_of v) { database = x.file; held_write = x.held; log = log.contents })) (sym wrote.0)
      (subst (λ (t : Option (List ℕ)). IsSound (record (served_of v) { log = t })) (sym wrote.1.contents) (stored-sound (served_of v) scene at bytes kept.sound write header alone free));
  room = λ x is. absurd (let held = (nothing-waits (served_of v) free).0 in let same = ap (λ (y : DatabaseState). y.held) wrote.0 in cc (held, same, is));
}
wrote-kept told page_size commit scene v d log at bytes (Some change) write header alone free there wrote kept =
    let w : HeldWrite = wrote.1.1.0 in
    let same_write : written w.at w.bytes (contents_of v.log) ≡ written at bytes (contents_of v.log) = as-held w at bytes (contents_of v.log) wrote.1.1.1.0.at_is wrote.1.1.1.0.bytes_are in
    record {
      sound = subst (λ (x : DatabaseState). IsSound (record (served_of v) { database = x.file; held_write = x.held; log = log.contents })) (sym wrote.1.1.1.1)
          (subst (λ (t : Option (List ℕ)). IsSound (record (served_of v) { held_write = Some wrote.1.1.0; log = t })) (sym wrote.1.0.contents)
          (held-sound (served_of v) wrote.1.1.0 change kept.sound alone free there
          (subst (λ (t : List ℕ). commits_frames (contents_of v.log) t ≡ false → Some change ≡ None) (sym same_write) wrote.0.nothing)));
      room = λ x is.
          let held = ap (λ (y : DatabaseState). y.held) wrote.1.1.1.1 in
          let same : wrote.1.1.0 ≡ x = cc (held, is) in
          subst (λ (y : HeldWrite). IsWithin log.room y.at (length y.bytes)) same
          (subst (λ (b : List ℕ). IsWithin log.room wrote.1.1.0.at (length b)) (sym wrote.1.1.1.0.bytes_are)
          (subst (λ (n : ℕ). IsWithin log.room n (length bytes)) (sym wrote.1.1.1.0.at_is) wrote.1.0.room));
    }
