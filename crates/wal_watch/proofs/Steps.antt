-- One more step of each recursion.
use Rattle.std.proofs.Common.{◌≡◌, ℕ, ◌+◌, ◌*◌, Bool, true, ◌&&◌, List, refl, ap, add-one, if◌then◌else◌}
use Rattle.std.proofs.lemmas.Bool.{and_parts, leb-true}
use Rattle.wal_watch.specs.Sums.{word_at}
use Rattle.wal_watch.specs.Sums.{with_pair, with_pairs}
use Rattle.wal_watch.specs.Frames.{is_header, frame_place, frame_sums, header_sums, sums_after, is_frame, are_valid, is_commit, commits_among}
use Rattle.wal_watch.specs.Scanning.{HasHeader}
use Rattle.wal_watch.specs.declared.sums.Sums.{Sums}

pub with_pairs_none : (little : Bool) (s : Sums) (place : ℕ) (contents : List ℕ) → with_pairs little s place contents 0 ≡ s
unfolding with_pairs
with_pairs_none little s place contents = refl

pub with_pairs_more : (little : Bool) (s : Sums) (place : ℕ) (contents : List ℕ) (n : ℕ) → with_pairs little s place contents (n + 1)
    ≡ with_pair (with_pairs little s place contents n) (word_at little (place + 8 * n) contents) (word_at little (place + 8 * n + 4) contents)
unfolding with_pairs
with_pairs_more little s place contents n = rw add-one refl

pub sums_more : (contents : List ℕ) (k : ℕ) → sums_after contents (k + 1) ≡ frame_sums contents (frame_place contents k) (sums_after contents k)
unfolding sums_after
sums_more contents k = rw add-one refl

pub valid_more : (contents : List ℕ) (k : ℕ) → are_valid contents (k + 1) ≡ (are_valid contents k && is_frame contents k)
unfolding are_valid
valid_more contents k = rw add-one refl

pub commits_more : (contents : List ℕ) (k : ℕ) → commits_among contents (k + 1) ≡ (if is_commit contents k then k + 1 else commits_among contents k)
unfolding commits_among
commits_more contents k = ap (λ (m : ℕ). commits_among contents m) (add-one k)

-- what a valid header has
pub header_facts : (contents : List ℕ) → is_header contents ≡ true → HasHeader contents
unfolding is_header
header_facts contents h =
    let a = and_parts _ _ h in
    let b = and_parts _ _ a.1 in
    let c = and_parts _ _ b.1 in
    let d = and_parts _ _ c.1 in
    record { room = leb-true _ _ a.0; page_size = d.0 }

-- before the first frame
pub sums_none : (contents : List ℕ) → sums_after contents 0 ≡ header_sums contents
unfolding sums_after
sums_none contents = refl

pub valid_none : (contents : List ℕ) → are_valid contents 0 ≡ is_header contents
unfolding are_valid
valid_none contents = refl

pub commits_none : (contents : List ℕ) → commits_among contents 0 ≡ 0
unfolding commits_among
commits_none contents = refl
