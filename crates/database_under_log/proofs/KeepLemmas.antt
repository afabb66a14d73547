-- What keeps the database under the log.
use Rattle.std.proofs.Common.{◌≡◌, ◌≢◌, ℕ, ◌+◌, ◌-◌, ◌/◌, ◌<◌, ◌≤◌, length, List, [], true, false, Option, Some, None, map, max, take, replicate, unwrap_or, refl, sym, ap, ◌∙◌, arith, inl, inr, ◌⊎◌}
use Rattle.std.specs.Prelude.{◌==◌, ◌&&◌, nat_le, nat_lt}
use Rattle.std.specs.List.{range_with_len}
use Rattle.std.specs.Str.{bytes_eq}
use Rattle.std.proofs.lemmas.Slice.Eq.{bytes_eq-Decides}
use Rattle.std.proofs.lemmas.Bool.{cases_eq, cases_lt, cases_Bool, cond-true, cond-false}
use Rattle.std.proofs.lemmas.Bool.Decides.{nat_tests}
use Rattle.lf_base.specs.FileBytes.{resized}
use Rattle.lf_base.proofs.FileLemmas.{length-resized}
use Rattle.lf_sqlite_pages.specs.Image.{DatabaseImage, SameImage}
use Rattle.wal_watch.specs.Frames.{page_size_in, size_in, frame_place, committed_count, committed_end}
use Rattle.wal_watch.specs.News.{latest_frame, last_size, HasSameFrames, first_new, change_of, change_between}
use Rattle.wal_watch.specs.Refusals.{KeepsCommitted, IsSoundCut}
use Rattle.wal_watch.proofs.ChangeLemmas.{latest_none}
use Rattle.wal_watch.proofs.CheckLemmas.{first_same, first_other}
use Rattle.wal_watch.proofs.CommitLemmas.{has_committed}
use Rattle.wal_watch.proofs.FrontLemmas.{short_none}
use Rattle.wal_watch.proofs.IndexLemmas.{latest_absent}
use Rattle.wal_watch.proofs.LawLemmas.{keeps_count, keeps_frames, keeps_size}
use Rattle.wal_watch.proofs.StayLemmas.{take-resized}
use Rattle.database_file.specs.DatabaseFile.{DatabaseFile, as_read, is_clean, new_file}
use Rattle.database_file.specs.Writing.{page_or_zeros, page_written, with_pages, sized}
use Rattle.database_file.proofs.CleanLemmas.{same-of_clean}
use Rattle.database_file.proofs.WriteLemmas.{same-pages}
use Rattle.std.specs.Ordering.{nat_cmp}
use Rattle.std.specs.FinMap.{len-empty}
use Rattle.database_under_log.specs.Over.{page_over, over, Agrees, AreFrames, FollowsLog}
use Rattle.database_under_log.proofs.FrameLemmas.{latest_kept}
use Rattle.database_under_log.proofs.OverLemmas.{over_none, over_some, over-same, made-at, made-past, past-zeros}

-- a file that is the image goes under any log without committed frames
pub clean-agrees : (file : DatabaseFile) (image : DatabaseImage) (contents : List ℕ) → committed_count contents ≡ 0 → is_clean file ≡ true → Agrees file image contents
clean-agrees file image contents none clean = ap (λ (i : DatabaseImage). i.pages) (over_none (as_read file image) contents none) ∙ same-of_clean file image clean

pub agrees-same : (file : DatabaseFile) (image : DatabaseImage) (contents : List ℕ) → committed_count contents ≡ 0 → Agrees file image contents → SameImage (as_read file image) image
agrees-same file image contents none agrees = sym (ap (λ (i : DatabaseImage). i.pages) (over_none (as_read file image) contents none)) ∙ agrees

pub empty_none : committed_count [] ≡ 0
empty_none = short_none [] (omega arith)

-- a log that goes on and commits nothing
pub contents-keeps : (file : DatabaseImage) (old new : List ℕ) → take (committed_end old) new ≡ take (committed_end old) old → committed_count new ≡ committed_count old →
    over file new ≡ over file old
contents-keeps file old new same count = elim (cases_eq (committed_count old) 0) [
  | inl none ↦ over_none file new (count ∙ none) ∙ sym (over_none file old none)
  | inr some ↦
      let more : 0 < committed_count old = omega (arith, some) in
      let many : 0 < committed_count new = omega (arith, more, count) in
      let frames : HasSameFrames old new = keeps_frames old new same in
      let size : page_size_in new ≡ page_size_in old = keeps_size old new same more in
      let own : (contents : List ℕ) → 0 < committed_count contents → last_size contents ≡ size_in contents (committed_count contents - 1) =
      λ contents there. let test : (committed_count contents == 0) ≡ false = grind (arith, nat_tests) in cond-false _ _ _ test in
      let last : last_size new ≡ last_size old =
      own new many ∙ ap (λ (k : ℕ). size_in new (k - 1)) count ∙ (frames (committed_count old - 1) (omega (arith, more))).size ∙ sym (own old more) in
      over_some file new many
      ∙ ap (λ (c : ℕ). record { page_size = page_size_in new; pages = map (page_over file new) (range_with_len 1 c) }) last
      ∙ ap (λ (s : ℕ). record { page_size = s; pages = map (page_over file new) (range_with_len 1 (last_size old)) }) size
      ∙ ap (λ (ps : List (List ℕ)). record { page_size = page_size_in old; pages = ps })
      (same-pages (page_over file new) (page_over file old) (last_size old)
      (λ n low high.
      let none : latest_frame new n (committed_count old) (committed_count new) ≡ None = latest_none new n (committed_count old) (committed_count new) (omega (arith, count)) in
      rw (size, latest_kept old new n (omega (arith, count)) frames none) refl))
      ∙ sym (over_some file old more)
]

-- a write that commits nothing
pub stored-keeps : (old new : List ℕ) (file : DatabaseFile) (image : DatabaseImage) → KeepsCommitted old new → change_between old new ≡ None →
    (take 32 new ≢ take 32 old → is_clean file ≡ true) → Agrees file image old → Agrees file image new
stored-keeps old new file image kept none clean agrees = elim (cases_lt (first_new old new) (committed_count new)) [
  | inl more ↦ absurd (let test : nat_lt (first_new old new) (committed_count new) ≡ true = grind (arith, nat_tests) in
      let some = cond-true (nat_lt (first_new old new) (committed_count new)) (Some (change_of new (first_new old new) (committed_count new))) None test in cc (some, none))
  | inr fewer ↦ anew old new file image kept clean agrees fewer
] where
  anew : (old new : List ℕ) (file : DatabaseFile) (image : DatabaseImage) → KeepsCommitted old new → (take 32 new ≢ take 32 old → is_clean file ≡ true) →
      Agrees file image old → committed_count new ≤ first_new old new → Agrees file image new
  anew old new file image kept clean agrees fewer = elim (same_head (take 32 new) (take 32 old)) [
    | inl head ↦
        let same = kept head in
        let count : committed_count new ≡ committed_count old = omega (arith, keeps_count old new same, fewer, first_same old new head) in
        ap (λ (i : DatabaseImage). i.pages) (contents-keeps (as_read file image) old new same count) ∙ agrees
    | inr other ↦
        let none : committed_count new ≡ 0 = omega (arith, fewer, first_other old new (inl other)) in
        clean-agrees file image new none (clean other)
  ] where
    same_head : (xs ys : List ℕ) → (xs ≡ ys) ⊎ (xs ≢ ys)
    same_head xs ys = elim (cases_Bool (bytes_eq xs ys)) [
      | inl equal ↦ inl ((bytes_eq-Decides xs ys).0 equal)
      | inr differ ↦ inr (λ equal. let on = (bytes_eq-Decides xs ys).1 equal in cc (on, differ))
    ]

-- a cut of the log
pub cut-keeps : (contents : List ℕ) (len : ℕ) (file : DatabaseFile) (image : DatabaseImage) → IsSoundCut contents len → (len ≡ 0 → 0 < committed_count contents → is_clean file ≡ true) →
    Agrees file image contents → Agrees file image (resized len contents)
cut-keeps contents len file image sound clean agrees = elim (cases_eq (committed_count contents) 0) [
  | inl none ↦
      let count : committed_count (resized len contents) ≡ 0 = elim (cases_lt (committed_count contents) (committed_count (resized len contents))) [
        | inl more ↦ absurd (sound.part (inr more))
        | inr fewer ↦ omega (arith, fewer, none)
      ] in
      ap (λ (i : DatabaseImage). i.pages) (over_none (as_read file image) (resized len contents) count) ∙ agrees-same file image contents none agrees
  | inr some ↦ elim (cases_eq len 0) [
    | inl nothing ↦ clean-agrees file image (resized len contents) (nothing_left contents len nothing) (clean nothing (omega (arith, some)))
    | inr rest ↦ elim (cases_lt len (committed_end contents)) [
      | inl short ↦ absurd (sound.part (inl (rest, short)))
      | inr long ↦
          let more : 0 < committed_count contents = omega (arith, some) in
          let place : committed_end contents ≡ frame_place contents (committed_count contents) = let test : (committed_count contents == 0) ≡ false = grind (arith, nat_tests) in cond-false _ _ _ test in
          let there : committed_end contents ≤ length contents = omega (arith, place, (has_committed contents (committed_count contents) refl more).room) in
          let same : take (committed_end contents) (resized len contents) ≡ take (committed_end contents) contents = take-resized contents (committed_end contents) len long there in
          let fewer : committed_count (resized len contents) ≤ committed_count contents = elim (cases_lt (committed_count contents) (committed_count (resized len contents))) [
            | inl up ↦ absurd (sound.part (inr up))
            | inr down ↦ down
          ] in
          ap (λ (i : DatabaseImage). i.pages) (contents-keeps (as_read file image) contents (resized len contents) same (omega (arith, fewer, keeps_count contents (resized len contents) same))) ∙ agrees
    ]
  ]
] where
  nothing_left : (contents : List ℕ) (len : ℕ) → len ≡ 0 → committed_count (resized len contents) ≡ 0
  nothing_left contents len nothing = short_none (resized len contents) (omega (arith, nothing, length-resized len contents))

-- a resize to the last commit's size
pub resize-keeps : (contents : List ℕ) (file : DatabaseImage) → 0 < committed_count contents → over (sized file (page_size_in contents) (last_size contents)) contents ≡ over file contents
resize-keeps contents file some =
    over-same file (sized file (page_size_in contents) (last_size contents)) contents some
    (λ n low high none. ap (λ (o : Option (List ℕ)). unwrap_or o (replicate (page_size_in contents) 0))
    (made-at (page_or_zeros file (page_size_in contents)) (page_size_in contents) (last_size contents) n low high))

off-pages : (file : DatabaseImage) (size first n : ℕ) (bytes : List ℕ) → (first ≤ n → n < first + length bytes / size → ⊥) → page_written file size first bytes n ≡ page_or_zeros file size n
off-pages file size first n bytes off = elim (cases_lt n first) [
  | inl low ↦ let test : (nat_le first n && nat_lt n (first + length bytes / size)) ≡ false = grind (arith, nat_tests) in cond-false _ _ _ test
  | inr from ↦ elim (cases_lt n (first + length bytes / size)) [
    | inl within ↦ absurd (off from within)
    | inr high ↦ let test : (nat_le first n && nat_lt n (first + length bytes / size)) ≡ false = grind (arith, nat_tests) in cond-false _ _ _ test
  ]
]

-- a write of pages that committed frames hold
pub frames-keep : (contents bytes : List ℕ) (first : ℕ) (file : DatabaseImage) → AreFrames contents first bytes → over (with_pages file (page_size_in contents) first bytes) contents ≡ over file contents
frames-keep contents bytes first file are =
    let size : ℕ = page_size_in contents in
    let count : ℕ = max (length file.pages) (first + length bytes / size - 1) in
    let one = are.frames 0 (omega (arith, are.some)) in
    over-same file (with_pages file size first bytes) contents (omega (arith, one.1.among))
    (λ n low high none.
    let off : first ≤ n → n < first + length bytes / size → ⊥ = λ from within.
    let held = are.frames (n - first) (omega (arith, from, within)) in
    let number : first + (n - first) ≡ n = omega (arith, from) in
    latest_absent contents n 0 (committed_count contents) held.0 none (omega arith) held.1.among (held.1.number ∙ number) in
    elim (cases_lt count n) [
      | inl past ↦ ap (λ (o : Option (List ℕ)). unwrap_or o (replicate size 0)) (made-past (page_written file size first bytes) size count n past) ∙ sym (past-zeros file size n (omega (arith, past)))
      | inr within ↦
          ap (λ (o : Option (List ℕ)). unwrap_or o (replicate size 0)) (made-at (page_written file size first bytes) size count n low within) ∙ off-pages file size first n bytes off
    ])

-- a new file follows a log without bytes over every shape
pub new_follows : (page_size commit : ℕ) → FollowsLog new_file page_size commit []
new_follows page_size commit = record {
  page_size_is = λ some. absurd (omega (arith, some, empty_none));
  commit_is = λ some. absurd (omega (arith, some, empty_none));
  clean = λ none. rw (len-empty nat_cmp (List ℕ)) refl;
}
