-- What follows the committed end changes no committed frame.
use Rattle.std.proofs.Common.{◌≡◌, ℕ, ◌+◌, ◌-◌, ◌≤◌, ◌<◌, true, List, length, take, drop, refl, sym, ap, ◌∙◌, inl, inr, arith}
use Rattle.std.proofs.lemmas.Bool.{cases_eq, cond-false, ne_eqb}
use Rattle.std.proofs.lemmas.List.{length-take}
use Rattle.lf_base.specs.Endian.{be32_at}
use Rattle.wal_watch.specs.Frames.{frame_place, page_size_in, committed_count, committed_end, is_commit}
use Rattle.wal_watch.specs.Frames.{size_in}
use Rattle.wal_watch.specs.News.{IsSameFrame, HasSameFrames, last_size}
use Rattle.wal_watch.proofs.ScanLemmas.{next_place}
use Rattle.wal_watch.proofs.CommitLemmas.{has_committed, commit_committed, place_up}
use Rattle.wal_watch.proofs.AgreeLemmas.{same_four, same_piece, same_size, same_place, same_commit}

-- where there are committed frames, their end is behind the last
pub end_is : (old : List ℕ) → 0 < committed_count old → committed_end old ≡ frame_place old (committed_count old)
end_is old some = cond-false _ _ _ (ne_eqb (committed_count old) 0 (λ none. omega (arith, none, some)))

module _ (old new : List ℕ) (same : take (committed_end old) new ≡ take (committed_end old) old) (some : 0 < committed_count old) where
  room : committed_end old ≤ length old
  room = let here = has_committed old (committed_count old) refl some in omega (arith, here.room, end_is old some)

  room_new : committed_end old ≤ length new
  room_new = omega (arith, room, ap (λ (t : List ℕ). length t) same, length-take (committed_end old) new, length-take (committed_end old) old)

  head : 32 ≤ committed_end old
  head = omega (arith, end_is old some)

  kept_count : committed_count old ≤ committed_count new
  kept_count =
      let here = has_committed old (committed_count old) refl some in
      let back : committed_count old - 1 + 1 ≡ committed_count old = omega arith in
      let fits : frame_place old (committed_count old - 1 + 1) ≤ committed_end old = rw (back, end_is old some) (omega arith) in
      let on : is_commit new (committed_count old - 1) ≡ true =
      sym (same_commit old new (committed_end old) (sym same) head room room_new (committed_count old - 1) fits) ∙ here.commit in
      omega (arith, commit_committed new (committed_count old - 1) on)

  kept_frame : (k : ℕ) → k < committed_count old → IsSameFrame old new k
  kept_frame k less =
      let place = frame_place old k in
      let fits : place + (24 + page_size_in old) ≤ committed_end old = omega (arith, next_place old k, place_up old (k + 1) (committed_count old) (omega arith), end_is old some) in
      let to_new = same_place old new (committed_end old) (sym same) head k in
      record {
        number = ap (λ (p : ℕ). be32_at p new) (sym to_new) ∙ sym (same_four old new (committed_end old) (sym same) place (omega arith));
        size = ap (λ (p : ℕ). be32_at (p + 4) new) (sym to_new) ∙ sym (same_four old new (committed_end old) (sym same) (place + 4) (omega arith));
        page =
            ap (λ (n : ℕ). take n (drop (frame_place new k + 24) new)) (sym (same_size old new (committed_end old) (sym same) head))
            ∙ ap (λ (p : ℕ). take (page_size_in old) (drop (p + 24) new)) (sym to_new)
            ∙ sym (same_piece old new (committed_end old) (sym same) (place + 24) (page_size_in old) (omega arith));
      }

pub keeps_count : (old new : List ℕ) → take (committed_end old) new ≡ take (committed_end old) old → committed_count old ≤ committed_count new
keeps_count old new same = elim (cases_eq (committed_count old) 0) [
  | inl none ↦ omega arith
  | inr some ↦ kept_count old new same (omega arith)
]

pub keeps_frames : (old new : List ℕ) → take (committed_end old) new ≡ take (committed_end old) old → HasSameFrames old new
keeps_frames old new same k less = kept_frame old new same (omega arith) k less

-- and the page size stays
pub keeps_size : (old new : List ℕ) → take (committed_end old) new ≡ take (committed_end old) old → 0 < committed_count old → page_size_in new ≡ page_size_in old
keeps_size old new same some = sym (same_size old new (committed_end old) (sym same) (head old new same some))

-- what a log with committed frames has
pub last_some : (contents : List ℕ) → 0 < committed_count contents → 0 < last_size contents
last_some contents some =
    let own : last_size contents ≡ size_in contents (committed_count contents - 1) = cond-false _ _ _ (ne_eqb (committed_count contents) 0 (λ none. omega (arith, none, some))) in
    omega (arith, own, (has_committed contents (committed_count contents) refl some).size)
