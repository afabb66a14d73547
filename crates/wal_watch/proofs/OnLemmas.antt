-- A scan that begins behind valid frames finds all that are committed.
use Rattle.std.proofs.Common.{◌≡◌, ℕ, zero, suc, ◌+◌, ◌≤◌, ◌==◌, true, false, List, length, take, refl, sym, ap, ◌∙◌, inl, inr, add-one, arith, if◌then◌else◌}
use Rattle.std.proofs.lemmas.Bool.{cases_Bool, cond-true, cond-false, and_from, and_right}
use Rattle.std.proofs.lemmas.List.{length-take}
use Rattle.wal_watch.specs.Frames.{are_valid, commits_among, committed_count, frame_place, frame_sums, is_frame, page_size_in, size_in, sums_after}
use Rattle.wal_watch.specs.Scanning.{committed_from}
use Rattle.wal_watch.specs.declared.sums.Sums.{Sums}
use Rattle.wal_watch.proofs.Steps.{sums_more, valid_more}
use Rattle.wal_watch.proofs.ScanLemmas.{commits_stay, commits_next, frames_fit, next_place}
use Rattle.wal_watch.proofs.CommitLemmas.{valid_room}
use Rattle.wal_watch.proofs.AgreeLemmas.{same_valid, same_sums_after, same_commits, same_place}

-- a scan over the next n frames
scan-steps : (contents : List ℕ) (n k : ℕ) → are_valid contents k ≡ true
    → committed_from contents (commits_among contents k) k (frame_place contents k) (sums_after contents k) n ≡ commits_among contents (k + n)
unfolding committed_from
scan-steps contents zero k valid = ap (λ (m : ℕ). commits_among contents m) (omega arith)
scan-steps contents (suc n) k valid = elim (cases_Bool (is_frame contents k)) [
  | inl on ↦
      let more : are_valid contents (k + 1) ≡ true = valid_more contents k ∙ and_from _ _ valid on in
      let count : commits_among contents (k + 1) ≡ (if size_in contents k == 0 then commits_among contents k else k + 1) = commits_next contents k (size_in contents k) more refl in
      cond-true _ _ _ on
      ∙ ap (λ (c : ℕ). committed_from contents c (k + 1) (frame_place contents k + (24 + page_size_in contents)) (frame_sums contents (frame_place contents k) (sums_after contents k)) n) (sym count)
      ∙ ap (λ (p : ℕ). committed_from contents (commits_among contents (k + 1)) (k + 1) p (frame_sums contents (frame_place contents k) (sums_after contents k)) n) (sym (next_place contents k))
      ∙ ap (λ (s : Sums). committed_from contents (commits_among contents (k + 1)) (k + 1) (frame_place contents (k + 1)) s n) (sym (sums_more contents k))
      ∙ scan-steps contents n (k + 1) more
      ∙ ap (λ (m : ℕ). commits_among contents m) (omega (arith, add-one n))
  | inr off ↦
      let ends : are_valid contents (k + 1) ≡ false = valid_more contents k ∙ and_right _ _ off in
      cond-false _ _ _ off ∙ sym (commits_stay contents k (k + suc n) ends (omega arith))
]

-- no frame is committed past as many as there are bytes
commits-all : (contents : List ℕ) (n : ℕ) → length contents ≤ n → commits_among contents n ≡ committed_count contents
unfolding committed_count
commits-all contents n le = elim (cases_Bool (are_valid contents (length contents + 1))) [
  | inl on ↦ absurd (let fits = frames_fit contents (length contents + 1) (valid_room contents (length contents + 1) on) in omega (arith, fits))
  | inr off ↦ commits_stay contents (length contents) n off le
]

pub scan-begins : (contents : List ℕ) (k : ℕ) → are_valid contents k ≡ true
    → committed_count contents ≡ committed_from contents (commits_among contents k) k (frame_place contents k) (sums_after contents k) (length contents)
scan-begins contents k valid = sym (scan-steps contents (length contents) k valid ∙ commits-all contents (k + length contents) (omega arith))

-- the same with what was kept of other contents
pub scan-goes-on : (old new : List ℕ) (k : ℕ) → are_valid old k ≡ true → take (frame_place old k) new ≡ take (frame_place old k) old
    → committed_count new ≡ committed_from new (commits_among old k) k (frame_place old k) (sums_after old k) (length new)
scan-goes-on old new k valid same =
    let place = frame_place old k in
    let room : frame_place old k ≤ length old = valid_room old k valid in
    let there : frame_place old k ≤ length new =
    omega (arith, room, ap (λ (t : List ℕ). length t) same, length-take (frame_place old k) new, length-take (frame_place old k) old) in
    let head : 32 ≤ frame_place old k = omega arith in
    let own : are_valid new k ≡ true = sym (same_valid old new (frame_place old k) (sym same) head room there k (omega arith)) ∙ valid in
    scan-begins new k own
    ∙ ap (λ (c : ℕ). committed_from new c k (frame_place new k) (sums_after new k) (length new)) (sym (same_commits old new (frame_place old k) (sym same) head room there k (omega arith)))
    ∙ ap (λ (p : ℕ). committed_from new (commits_among old k) k p (sums_after new k) (length new)) (sym (same_place old new (frame_place old k) (sym same) head k))
    ∙ ap (λ (s : Sums). committed_from new (commits_among old k) k (frame_place old k) s (length new)) (sym (same_sums_after old new (frame_place old k) (sym same) head k (omega arith)))
