-- A write to the log that was prepared.
use Rattle.std.proofs.Common.{◌≡◌, ◌≢◌, ℕ, ◌-◌, ◌<◌, ◌≤◌, List, Bool, true, false, inl, inr, ◌⊎◌, Option, Some, None, take, refl, sym, ap, ◌∙◌, subst, arith}
use Rattle.std.specs.Prelude.{◌==◌, nat_lt, IfSome, [], unwrap_or}
use Rattle.std.specs.Option.{option_map}
use Rattle.std.specs.Str.{bytes_eq}
use Rattle.std.proofs.lemmas.Slice.Eq.{bytes_eq-Decides}
use Rattle.std.proofs.lemmas.Bool.{cases_eq, cases_lt, cases_Bool, cond-true, cond-false, ne_eqb}
use Rattle.std.proofs.lemmas.Bool.Decides.{nat_tests}
use Rattle.lf_base.specs.FileBytes.{written}
use Rattle.lf_sqlite_pages.specs.Apply.{apply}
use Rattle.lf_sqlite_pages.specs.Change.{PageChange}
use Rattle.lf_sqlite_pages.specs.Image.{DatabaseImage, SameImage}
use Rattle.lf_sqlite_pages.specs.PageSize.{IsPageSize}
use Rattle.lf_sqlite_pages.proofs.LockPages.{page_size-positive}
use Rattle.wal_watch.specs.File.{Wal, contents_of, after_write}
use Rattle.wal_watch.specs.Frames.{page_size_in, size_in, is_header, committed_count}
use Rattle.wal_watch.specs.News.{first_new, last_size, change_of, change_between, HasSameFrames}
use Rattle.wal_watch.specs.Refusals.{IsSoundWrite, KeepsCommitted}
use Rattle.wal_watch.proofs.CheckLemmas.{first_same, first_other}
use Rattle.wal_watch.proofs.CommitLemmas.{has_committed, valid_header}
use Rattle.wal_watch.proofs.LawLemmas.{keeps_count, keeps_frames, keeps_size, last_some}
use Rattle.database_file.specs.DatabaseFile.{DatabaseFile, KeepsDifferences}
use Rattle.database_under_log.specs.Fault.{wanted_size}
use Rattle.database_under_log.specs.Over.{Agrees, FollowsLog}
use Rattle.database_under_log.specs.Staying.{forgotten}
use Rattle.database_under_log.specs.Waiting.{IsReady, IsStored, HasRoomFor, LeadsUnderLog, MayChangeHeader, WaitsOver}
use Rattle.database_under_log.specs.declared.waiting.LogCommit.{LogCommit}
use Rattle.file_view.specs.DatabaseState.{DatabaseState, HeldWrite}
use Rattle.file_view.specs.HeldParts.{before, held_of, IsSettled, IsLogStored, IsLogHeld, LogWrites, LogWrote, held_for}
use Rattle.file_view.specs.declared.database.holding.Held.{Held}
use Rattle.file_view.specs.LogRules.{FollowsImage, IsMade, commits_frames}
use Rattle.file_view.proofs.HeldLemmas.{free-file}

-- where a write leaves committed frames, the log has the image's page size
pub step-sized : (contents bytes : List ℕ) (page_size commit at : ℕ) → IsSoundWrite contents (wanted_size page_size commit) at bytes → (0 < commit → IsPageSize page_size) →
    0 < committed_count (written at bytes contents) → 0 < commit → page_size_in (written at bytes contents) ≡ page_size
step-sized contents bytes page_size commit at sound valid some many =
    let new : List ℕ = written at bytes contents in
    let test : (commit == 0) ≡ false = ne_eqb commit 0 (λ none. omega (arith, none, many)) in
    let wanted : wanted_size page_size commit ≡ page_size = cond-false (commit == 0) 0 page_size test in
    let header : is_header (written at bytes contents) ≡ true =
    valid_header (written at bytes contents) (committed_count (written at bytes contents)) (has_committed (written at bytes contents) (committed_count (written at bytes contents)) refl some).valid in
    let positive : 0 < page_size = page_size-positive page_size (valid many) in
    elim (cases_eq (page_size_in (written at bytes contents)) page_size) [
      | inl same ↦ same
      | inr apart ↦ absurd (sound.header (inr (λ zero_size. omega (arith, zero_size, wanted, positive), header, λ is. apart (is ∙ wanted))))
    ]

-- a header is the same or isn't
same_head : (xs ys : List ℕ) → (xs ≡ ys) ⊎ (xs ≢ ys)
same_head xs ys = elim (cases_Bool (bytes_eq xs ys)) [
  | inl equal ↦ inl ((bytes_eq-Decides xs ys).0 equal)
  | inr differ ↦ inr (λ equal. let on = (bytes_eq-Decides xs ys).1 equal in cc (on, differ))
]

-- a step that commits nothing
none-commits : (old new : List ℕ) → change_between old new ≡ None → committed_count new ≤ first_new old new
none-commits old new none = elim (cases_lt (first_new old new) (committed_count new)) [
  | inl more ↦ absurd (let test : nat_lt (first_new old new) (committed_count new) ≡ true = grind (arith, nat_tests) in
      let some = cond-true (nat_lt (first_new old new) (committed_count new)) (Some (change_of new (first_new old new) (committed_count new))) None test in cc (some, none))
  | inr fewer ↦ fewer
]

own-last : (contents : List ℕ) → 0 < committed_count contents → last_size contents ≡ size_in contents (committed_count contents - 1)
own-last contents there = let test : (committed_count contents == 0) ≡ false = grind (arith, nat_tests) in cond-false _ _ _ test

pub stored-follows : (old new : List ℕ) (page_size commit : ℕ) → KeepsCommitted old new → change_between old new ≡ None → FollowsImage old page_size commit →
    FollowsImage new page_size commit
stored-follows old new page_size commit kept none follows = elim (same_head (take 32 new) (take 32 old)) [
  | inl head ↦
      let same = kept head in
      let fewer = none-commits old new none in
      let count : committed_count new ≡ committed_count old = omega (arith, keeps_count old new same, fewer, first_same old new head) in
      record {
        page_size_is = λ some. let more : 0 < committed_count old = omega (arith, some, count) in keeps_size old new same more ∙ follows.page_size_is more;
        commit_is = λ some.
            let more : 0 < committed_count old = omega (arith, some, count) in
            let frames : HasSameFrames old new = keeps_frames old new same in
            own-last new some ∙ ap (λ (k : ℕ). size_in new (k - 1)) count ∙ (frames (committed_count old - 1) (omega (arith, more))).size ∙ sym (own-last old more)
            ∙ follows.commit_is more;
      }
  | inr other ↦
      let fewer = none-commits old new none in
      let no_frames : committed_count new ≡ 0 = omega (arith, fewer, first_other old new (inl other)) in
      record {
        page_size_is = λ some. absurd (omega (arith, no_frames, some));
        commit_is = λ some. absurd (omega (arith, no_frames, some));
      }
]

-- a write that is done
stored-agrees : (told : Option DatabaseImage) (file : DatabaseFile) (old new : List ℕ) → MayChangeHeader file old new →
    IfSome told (λ i. MayChangeHeader file old new → KeepsDifferences file i → Agrees file i old → Agrees file i new) →
    IfSome told (λ i. KeepsDifferences file i → Agrees file i old → Agrees file i new)
stored-agrees None file old new may agrees = tt
stored-agrees (Some i) file old new may agrees = agrees may

not-made : (told : Option DatabaseImage) (old new : List ℕ) (change : PageChange) → change_between old new ≡ None → commits_frames old new ≡ true →
    IfSome told (λ i. IsMade i change None)
not-made told old new change none commits = absurd (let fewer = none-commits old new none in let off : nat_lt (first_new old new) (committed_count new) ≡ false = grind (arith, nat_tests, fewer) in cc (commits, off))

pub stored : (told : Option DatabaseImage) (page_size commit at : ℕ) (bytes : List ℕ) (old new : DatabaseFile) (log later : Wal) → IsStored old new log later at bytes →
    MayChangeHeader old (contents_of log) (written at bytes (contents_of log)) → FollowsLog old page_size commit (contents_of log) →
    IfSome told (λ i. MayChangeHeader old (contents_of log) (written at bytes (contents_of log)) → KeepsDifferences old i → Agrees old i (contents_of log) → Agrees old i (written at bytes (contents_of log))) →
    IsLogStored told page_size commit old log at bytes new later
stored told page_size commit at bytes old new log later is may follows agrees =
    let contents : contents_of later ≡ written at bytes (contents_of log) = ap contents_of is.log_is in
    let none : change_between (contents_of log) (written at bytes (contents_of log)) ≡ None = subst (λ (t : List ℕ). change_between (contents_of log) t ≡ None) contents is.none in
    let kept : KeepsCommitted (contents_of log) (written at bytes (contents_of log)) = subst (λ (t : List ℕ). KeepsCommitted (contents_of log) t) contents is.kept in
    record {
      commits = record {
        nothing = λ off. refl;
        made = not-made told (contents_of log) (written at bytes (contents_of log)) _ none;
        is = tt;
      };
      keeps = record {
        follows = stored-follows (contents_of log) (written at bytes (contents_of log)) page_size commit kept none (record { page_size_is = follows.page_size_is; commit_is = follows.commit_is });
        agrees = stored-agrees told old (contents_of log) (written at bytes (contents_of log)) may agrees;
      };
      file = is.file;
      contents = ap (λ (w : Wal). w.contents) is.log_is;
    }

-- a commit that leaves the image as it is
same-made : (told : Option DatabaseImage) (change is : PageChange) → change ≡ is → IfSome told (λ i. SameImage (apply i change) i) → IfSome told (λ i. IsMade i is None)
same-made told change is e same = subst (λ (x : PageChange). IfSome told (λ i. IsMade i x None)) e same

same-agrees : (told : Option DatabaseImage) (old mid : DatabaseFile) (log : List ℕ) (contents : List ℕ) (c : LogCommit) → MayChangeHeader old log contents →
    IfSome told (λ i. MayChangeHeader old log contents → KeepsDifferences old i → Agrees old i log → WaitsOver old mid i contents c) → IfSome told (λ i. SameImage (apply i c.change) i) →
    IfSome told (λ i. KeepsDifferences old i → Agrees old i log → Agrees old i contents)
same-agrees None old mid log contents c may commits same = tt
same-agrees (Some i) old mid log contents c may commits same = λ keeps agrees.
    subst (λ (x : DatabaseImage). SameImage x i) (commits may keeps agrees).led.leads same

pub settled-none : (told : Option DatabaseImage) (page_size commit at : ℕ) (bytes : List ℕ) (old mid new : DatabaseFile) (log room later : Wal) (c : LogCommit) →
    IsReady old mid (contents_of log) page_size commit at bytes c → HasRoomFor log room at bytes → MayChangeHeader old (contents_of log) (written at bytes (contents_of log)) →
    IsSoundWrite (contents_of log) (wanted_size page_size commit) at bytes → (0 < commit → IsPageSize page_size) →
    IfSome told (λ i. MayChangeHeader old (contents_of log) (written at bytes (contents_of log)) → KeepsDifferences old i → Agrees old i (contents_of log) → WaitsOver old mid i (written at bytes (contents_of log)) c) →
    IsSettled told commit c mid None new → later ≡ after_write room at bytes → IsLogStored told page_size commit old log at bytes new later
settled-none told page_size commit at bytes old mid new log room later c ready has may sound valid commits is wrote =
    let count : last_size (written at bytes (contents_of log)) ≡ commit = sym (ap (λ (x : PageChange). x.commit) ready.change) ∙ is.1 in
    record {
      commits = record {
        nothing = λ off. refl;
        made = λ on. same-made told c.change _ ready.change is.2;
        is = tt;
      };
      keeps = record {
        follows = record {
          page_size_is = λ some. step-sized (contents_of log) bytes page_size commit at sound valid some (omega (arith, last_some (written at bytes (contents_of log)) some, count));
          commit_is = λ some. count;
        };
        agrees = same-agrees told old mid (contents_of log) (written at bytes (contents_of log)) c may commits is.2;
      };
      file = is.0 ∙ ready.back;
      contents = ap (λ (w : Wal). w.contents) wrote ∙ ap (λ (t : Option (List ℕ)). Some (written at bytes (unwrap_or t []))) has.contents;
    }

-- one that waits
other-made : (told : Option DatabaseImage) (change is : PageChange) → change ≡ is → IfSome told (λ i. SameImage (apply i change) i → ⊥) → IfSome told (λ i. IsMade i is (Some change))
other-made told change is e other = subst (λ (x : PageChange). IfSome told (λ i. IsMade i x (Some change))) e other

leads-on : (told : Option DatabaseImage) (old mid : DatabaseFile) (log : List ℕ) (contents : List ℕ) (c : LogCommit) → MayChangeHeader old log contents →
    IfSome told (λ i. MayChangeHeader old log contents → KeepsDifferences old i → Agrees old i log → WaitsOver old mid i contents c) →
    IfSome told (λ i. KeepsDifferences old i → Agrees old i log → LeadsUnderLog old i contents c.change (held_for mid c.write).file)
leads-on None old mid log contents c may commits = tt
leads-on (Some i) old mid log contents c may commits = λ keeps agrees. (commits may keeps agrees).led

waits-some : (told : Option DatabaseImage) (page_size commit at : ℕ) (bytes : List ℕ) (old mid : DatabaseFile) (log room : Wal) (c : LogCommit) →
    IsReady old mid (contents_of log) page_size commit at bytes c → HasRoomFor log room at bytes → MayChangeHeader old (contents_of log) (written at bytes (contents_of log)) →
    IfSome told (λ i. MayChangeHeader old (contents_of log) (written at bytes (contents_of log)) → KeepsDifferences old i → Agrees old i (contents_of log) → WaitsOver old mid i (written at bytes (contents_of log)) c) →
    IfSome told (λ i. SameImage (apply i c.change) i → ⊥) → IsLogHeld told commit old log at bytes c mid room
waits-some told page_size commit at bytes old mid log room c ready has may commits other = record {
  commits = record {
    nothing = λ off. absurd (let on : nat_lt (first_new (contents_of log) (written at bytes (contents_of log))) (committed_count (written at bytes (contents_of log))) ≡ true =
        grind (arith, nat_tests, ready.more) in cc (on, off));
    made = λ on. other-made told c.change _ ready.change other;
    is = ready.change;
  };
  held = record {
    at_is = ready.at_is;
    bytes_are = ready.bytes_are;
    fits = ready.later;
    leads = leads-on told old mid (contents_of log) (written at bytes (contents_of log)) c may commits;
  };
  back = ready.back;
  room = has;
}

pub settled-some : (told : Option DatabaseImage) (page_size commit at : ℕ) (bytes : List ℕ) (old mid new : DatabaseFile) (log room : Wal) (c d : LogCommit) →
    IsReady old mid (contents_of log) page_size commit at bytes c → HasRoomFor log room at bytes → MayChangeHeader old (contents_of log) (written at bytes (contents_of log)) →
    IfSome told (λ i. MayChangeHeader old (contents_of log) (written at bytes (contents_of log)) → KeepsDifferences old i → Agrees old i (contents_of log) → WaitsOver old mid i (written at bytes (contents_of log)) c) →
    IsSettled told commit c mid (Some d) new → IsLogHeld told commit old log at bytes d new room
settled-some told page_size commit at bytes old mid new log room c d ready has may commits is =
    subst (λ (x : LogCommit). IsLogHeld told commit old log at bytes x new room) (sym is.0)
    (subst (λ (f : DatabaseFile). IsLogHeld told commit old log at bytes c f room) (sym is.1)
    (waits-some told page_size commit at bytes old mid log room c ready has may commits is.2))

-- the file with a write in store: a write that is done
pub stored-state : (told : Option DatabaseImage) (page_size commit at : ℕ) (bytes : List ℕ) (file new : DatabaseFile) (held : Option Held) (s : DatabaseState) (log later : Wal) →
    record { file = before file held; held = option_map (held_of file) held } ≡ s → s.held ≡ None → IsLogStored told page_size commit file log at bytes new later →
    (record { file = before new held; held = option_map (held_of new) held } ≡ s) × IsLogStored told page_size commit s.file log at bytes s.file later
stored-state told page_size commit at bytes file new held s log later is free done =
    let own : s.file ≡ file = free-file file held s is free in
    let all : (record { file = before file held; held = option_map (held_of file) held } ≡ s) × IsLogStored told page_size commit s.file log at bytes s.file later = (
      is,
      subst (λ (f : DatabaseFile). IsLogStored told page_size commit f log at bytes f later) (sym own)
          (subst (λ (f : DatabaseFile). IsLogStored told page_size commit file log at bytes f later) done.file done),
    ) in
    (ap (λ (f : DatabaseFile). record { file = before f held; held = option_map (held_of f) held }) done.file ∙ all.0, all.1)

-- one that waits
pub held-state : (told : Option DatabaseImage) (page_size commit at len count : ℕ) (clean : Bool) (bytes : List ℕ) (file new : DatabaseFile) (held : Option Held) (s : DatabaseState)
    (log later : Wal) (c : LogCommit) → record { file = before file held; held = option_map (held_of file) held } ≡ s → s.held ≡ None →
    IsLogHeld told commit file log at bytes c new later →
    LogWrote told page_size commit s log at bytes (Some c.change)
    (record { file = forgotten new c.write; held = Some (held_of new (record { at = at; len = len; kept = count; clean = clean; write = Some c.write })) }) later
held-state told page_size commit at len count clean bytes file new held s log later c is free done =
    let own : s.file ≡ file = free-file file held s is free in
    let on = subst (λ (f : DatabaseFile). IsLogHeld told commit f log at bytes c new later) (sym own) done in
    let write : HeldWrite = record { at = at; bytes = c.write.bytes; file = (held_for new c.write).file } in (
      on.commits,
      (
        on.room,
        (
          write,
          (
            record { at_is = refl; bytes_are = on.held.bytes_are; fits = on.held.fits; leads = on.held.leads },
            ap (λ (f : DatabaseFile). record { file = f; held = Some write }) on.back,
          ),
        ),
      ),
    )
