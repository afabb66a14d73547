-- The log cut or removed: what the rules leave.
use Rattle.std.proofs.Common.{◌≡◌, ◌≢◌, ℕ, ◌-◌, ◌<◌, ◌≤◌, true, false, ◌&&◌, not, length, List, [], inl, inr, Some, None, refl, arith}
use Rattle.std.specs.Prelude.{◌==◌, nat_lt, nat_le}
use Rattle.std.proofs.lemmas.Bool.{cases_Bool, cases_eq, cases_lt, cond-false}
use Rattle.std.proofs.lemmas.Bool.Decides.{nat_tests}
use Rattle.lf_base.specs.FileBytes.{resized}
use Rattle.lf_sqlite_pages.specs.Blocks.{ByteRoom, IsWithin}
use Rattle.wal_watch.specs.Frames.{frame_place, committed_count, committed_end}
use Rattle.wal_watch.specs.Refusals.{IsSoundCut, CutsCommitted}
use Rattle.wal_watch.proofs.CommitLemmas.{has_committed}
use Rattle.wal_watch.proofs.LawLemmas.{keeps_count}
use Rattle.wal_watch.proofs.StayLemmas.{take-resized}
use Rattle.database_file.specs.DatabaseFile.{clean, is_clean}
use Rattle.database_file.proofs.CleanLemmas.{clean-is}
use Rattle.file_view.specs.declared.view.Scene.{Scene}
use Rattle.file_view.specs.DatabaseState.{HeldWrite}
use Rattle.file_view.specs.LogRules.{log_cut_rows, log_unlink_rows}
use Rattle.file_view.specs.Refusal.{first_refusal}
use Rattle.file_view.specs.Served.{Served, log_contents, has_committed_frames}
use Rattle.file_view.specs.Sound.{IsSound}
use Rattle.file_view.proofs.RowLemmas.{none-holds, nothing-held}

-- the end of no frames
no-end : (contents : List ℕ) → committed_count contents ≡ 0 → committed_end contents ≡ 0
no-end contents none = rw none refl

-- no cut below the committed end is left
not-below : (count end len : ℕ) → (count ≡ 0 → end ≡ 0) → (nat_lt 0 count && not (len == 0) && nat_lt len end) ≡ false → len ≢ 0 → len < end → ⊥
not-below count end len none row nonzero below = elim (cases_eq count 0) [
  | inl zero ↦ omega (arith, none zero, below)
  | inr some ↦
      let a : nat_lt 0 count ≡ true = grind (arith, nat_tests, some) in
      let b : (len == 0) ≡ false = grind (arith, nat_tests, nonzero) in
      let c : nat_lt len end ≡ true = grind (arith, nat_tests, below) in
      let d = rw (a, b, c) at row in
      absurd cc
]

-- nor one that leaves more committed frames
not-grown : (count end after len : ℕ) → (count ≡ 0 → end ≡ 0) → (nat_lt 0 count && not (len == 0) && nat_lt len end) ≡ false →
    (nat_le end len && nat_lt count after) ≡ false → (len ≡ 0 → after ≡ 0) → count < after → ⊥
not-grown count end after len none below grown empty more = elim (cases_lt len end) [
  | inl under ↦ elim (cases_eq len 0) [
    | inl zero ↦ omega (arith, empty zero, more)
    | inr some ↦ not-below count end len none below (λ zero. some zero) under
  ]
  | inr behind ↦
      let a : nat_le end len ≡ true = grind (arith, nat_tests, behind) in
      let b : nat_lt count after ≡ true = grind (arith, nat_tests, more) in
      let c = rw (a, b) at grown in
      absurd cc
]

-- a log cut to nothing has no frames
pub nothing-left : (contents : List ℕ) (len : ℕ) → committed_count [] ≡ 0 → len ≡ 0 → committed_count (resized len contents) ≡ 0
nothing-left contents len none zero =
    let e : resized 0 contents ≡ [] = let z : 0 - length contents ≡ 0 = omega arith in rw z refl in
    rw (zero, e) none

-- nothing stands against a cut that no row refuses
pub cut-sound : (s : Served) (scene : Scene) (len : ℕ) → committed_count [] ≡ 0 → first_refusal (log_cut_rows s scene len) ≡ None → IsSoundCut (log_contents s) len
cut-sound s scene len empty none =
    let contents : List ℕ = log_contents s in
    let rows = none-holds (log_cut_rows s scene len) none in
    let long : nat_lt 268435456 len ≡ false = rows.1.0 in
    let grown : (nat_le (committed_end contents) len && nat_lt (committed_count contents) (committed_count (resized len contents))) ≡ false = rows.1.1.0 in
    let below : (nat_lt 0 (committed_count contents) && not (len == 0) && nat_lt len (committed_end contents)) ≡ false = rows.1.1.1.1.0 in
    record {
      short = grind (arith, nat_tests, long);
      part = λ (cuts : CutsCommitted contents len). elim cuts [
        | inl under ↦ not-below (committed_count contents) (committed_end contents) len (no-end contents) below under.0 under.1
        | inr more ↦ not-grown (committed_count contents) (committed_end contents) (committed_count (resized len contents)) len (no-end contents) below grown (nothing-left contents len empty) more
      ];
    }

-- a cut behind the committed frames leaves them
count-stays : (contents : List ℕ) (len : ℕ) → 0 < committed_count contents → committed_end contents ≤ len → committed_count contents ≤ committed_count (resized len contents)
count-stays contents len some long =
    let test : (committed_count contents == 0) ≡ false = grind (arith, nat_tests, some) in
    let place : committed_end contents ≡ frame_place contents (committed_count contents) = cond-false _ _ _ test in
    let there : committed_end contents ≤ length contents = omega (arith, place, (has_committed contents (committed_count contents) refl some).room) in
    keeps_count contents (resized len contents) (take-resized contents (committed_end contents) len long there)

-- where such a cut leaves no frames, the file is the committed image
pub cut-settled : (s : Served) (scene : Scene) (len : ℕ) → first_refusal (log_cut_rows s scene len) ≡ None →
    (has_committed_frames s ≡ false → s.database ≡ clean s.database) → nat_lt 0 (committed_count (resized len (log_contents s))) ≡ false → s.database ≡ clean s.database
cut-settled s scene len none before after =
    let contents : List ℕ = log_contents s in
    let rows = none-holds (log_cut_rows s scene len) none in
    let below : (nat_lt 0 (committed_count contents) && not (len == 0) && nat_lt len (committed_end contents)) ≡ false = rows.1.1.1.1.0 in
    let dirty : (nat_lt 0 (committed_count contents) && (len == 0) && not (is_clean s.database)) ≡ false = rows.1.1.1.1.1.0 in
    elim (cases_lt 0 (committed_count contents)) [
      | inl some ↦
          let a : nat_lt 0 (committed_count contents) ≡ true = grind (arith, nat_tests, some) in
          elim (cases_eq len 0) [
            | inl zero ↦ elim (cases_Bool (is_clean s.database)) [
              | inl tidy ↦ clean-is s.database tidy
              | inr kept ↦ let b : (len == 0) ≡ true = grind (arith, nat_tests, zero) in let c = rw (a, b, kept) at dirty in absurd cc
            ]
            | inr rest ↦ elim (cases_lt len (committed_end contents)) [
              | inl under ↦ absurd (not-below (committed_count contents) (committed_end contents) len (no-end contents) below (λ z. rest z) under)
              | inr long ↦ absurd (let stays = count-stays contents len some long in grind (arith, nat_tests, stays, some, after))
            ]
          ]
      | inr zero ↦ before (grind (arith, nat_tests, zero))
    ]

-- where the log may be removed, the file is the committed image, unless it has a writer
pub removed-settled : (s : Served) (scene : Scene) → first_refusal (log_unlink_rows s scene) ≡ None →
    (has_committed_frames s ≡ false → s.database ≡ clean s.database) → s.database ≡ clean s.database
removed-settled s scene none before =
    let dirty : (has_committed_frames s && not (is_clean s.database)) ≡ false = (none-holds (log_unlink_rows s scene) none).1.1.0 in
    elim (cases_Bool (has_committed_frames s)) [
      | inl frames ↦ elim (cases_Bool (is_clean s.database)) [
        | inl tidy ↦ clean-is s.database tidy
        | inr kept ↦ let c = rw (frames, kept) at dirty in absurd cc
      ]
      | inr none ↦ before none
    ]

-- the files stay sound
pub cut-log-sound : (s : Served) (scene : Scene) (len : ℕ) → first_refusal (log_cut_rows s scene len) ≡ None → IsSound s →
    IsSound (record s { log = Some (resized len (log_contents s)) })
cut-log-sound s scene len none sound = record {
  exclusive = sound.exclusive;
  torn = sound.torn;
  apart = sound.apart;
  journaled = sound.journaled;
  settled = λ alone frames. cut-settled s scene len none (sound.settled alone) frames;
  alone = sound.alone;
  unwritten = sound.unwritten;
  logged = λ w is. refl;
  left = λ w is. absurd (let free = nothing-held s (none-holds (log_cut_rows s scene len) none).1.1.1.1.1.1.1.0 in cc (free, is));
}

pub removed-log-sound : (s : Served) (scene : Scene) → first_refusal (log_unlink_rows s scene) ≡ None → IsSound s → IsSound (record s { log = None })
removed-log-sound s scene none sound = record {
  exclusive = sound.exclusive;
  torn = sound.torn;
  apart = sound.apart;
  journaled = sound.journaled;
  settled = λ alone frames. removed-settled s scene none (sound.settled alone);
  alone = sound.alone;
  unwritten = sound.unwritten;
  logged = λ w is. absurd (let free = nothing-held s (none-holds (log_unlink_rows s scene) none).1.1.1.1.0 in cc (free, is));
  left = λ w is. absurd (let free = nothing-held s (none-holds (log_unlink_rows s scene) none).1.1.1.1.0 in cc (free, is));
}

-- no write waits for room
pub removed-room : (s : Served) (scene : Scene) → first_refusal (log_unlink_rows s scene) ≡ None → (room : ByteRoom) (w : HeldWrite) → s.held_write ≡ Some w →
    IsWithin room w.at (length w.bytes)
removed-room s scene none room w is = absurd (let free = nothing-held s (none-holds (log_unlink_rows s scene) none).1.1.1.1.0 in cc (free, is))
