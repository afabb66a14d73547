-- Texts that begin alike have the same frames there.
use Rattle.std.proofs.Common.{◌≡◌, ℕ, zero, suc, ◌+◌, ◌-◌, ◌*◌, ◌/◌, ◌≤◌, Bool, true, List, length, take, drop, refl, sym, ap, subst, ◌∙◌, inl, inr, add-one, arith}
use Rattle.std.proofs.lemmas.Bool.{cases_eq, le-leb}
use Rattle.std.proofs.lemmas.List.{take-take, drop-take}
use Rattle.lf_base.specs.Endian.{be32_at, le32_at}
use Rattle.wal_watch.specs.Sums.{word_at, with_pairs, stand_at, no_sums}
use Rattle.wal_watch.specs.Frames.{is_header, is_little, header_sums, page_size_in, frame_place, frame_sums, sums_after, is_head, is_frame, is_frame_at, are_valid, is_commit, commits_among, committed_count, size_in}
use Rattle.wal_watch.specs.declared.sums.Sums.{Sums}
use Rattle.wal_watch.proofs.ScanLemmas.{next_place}
use Rattle.wal_watch.proofs.CommitLemmas.{has_committed, commit_committed}

module _ (a b : List ℕ) (p : ℕ) (same : take p a ≡ take p b) where
  -- the same bytes
  pub same_piece : (place n : ℕ) → place + n ≤ p → take n (drop place a) ≡ take n (drop place b)
  same_piece place n le =
      sym (drop-take place n a) ∙ ap (λ (t : List ℕ). drop place t)
      (sym (take-take (place + n) p a le) ∙ ap (λ (t : List ℕ). take (place + n) t) same ∙ take-take (place + n) p b le)
      ∙ drop-take place n b

  pub same_four : (place : ℕ) → place + 4 ≤ p → be32_at place a ≡ be32_at place b
  unfolding be32_at
  same_four place le = rw (same_piece place 4 le) refl

  same_word : (little : Bool) (place : ℕ) → place + 4 ≤ p → word_at little place a ≡ word_at little place b
  unfolding word_at be32_at le32_at
  same_word little place le = rw (same_piece place 4 le) refl

  same_pairs : (little : Bool) (s : Sums) (place n : ℕ) → place + 8 * n ≤ p → with_pairs little s place a n ≡ with_pairs little s place b n
  unfolding with_pairs
  same_pairs little s place zero le = refl
  same_pairs little s place (suc n) le =
      let fits : place + 8 * n + 8 ≤ p = omega (arith, add-one n) in
      rw (same_pairs little s place n (omega arith), same_word little (place + 8 * n) (omega arith), same_word little (place + 8 * n + 4) (omega arith)) refl

  same_stand : (s : Sums) (place : ℕ) → place + 8 ≤ p → stand_at s place a ≡ stand_at s place b
  unfolding stand_at
  same_stand s place le = rw (same_four place (omega arith), same_four (place + 4) (omega arith)) refl

  module _ (head : 32 ≤ p) where
    pub same_little : is_little a ≡ is_little b
    same_little = rw (same_four 0 (omega arith)) refl

    pub same_size : page_size_in a ≡ page_size_in b
    same_size = same_four 8 (omega arith)

    pub same_place : (k : ℕ) → frame_place a k ≡ frame_place b k
    same_place k = rw same_size refl

    pub same_header_sums : header_sums a ≡ header_sums b
    unfolding header_sums
    same_header_sums = rw same_little (same_pairs (is_little b) no_sums 0 3 (omega arith))

    same_frame_sums : (place : ℕ) (s : Sums) → place + (24 + page_size_in a) ≤ p → frame_sums a place s ≡ frame_sums b place s
    unfolding frame_sums
    same_frame_sums place s le =
        let fits : place + 24 + 8 * (page_size_in a / 8) ≤ p = omega arith in
        rw (← same_little, ← same_size, same_pairs (is_little a) s place 1 (omega arith)) (same_pairs (is_little a) (with_pairs (is_little a) s place b 1) (place + 24) (page_size_in a / 8) fits)

    pub same_sums_after : (k : ℕ) → frame_place a k ≤ p → sums_after a k ≡ sums_after b k
    unfolding sums_after
    same_sums_after zero le = same_header_sums
    same_sums_after (suc k) le =
        let fits : frame_place a k + (24 + page_size_in a) ≤ p = omega (arith, next_place a k, add-one k) in
        same_frame_sums (frame_place a k) (sums_after a k) fits
        ∙ ap (λ (s : Sums). frame_sums b (frame_place a k) s) (same_sums_after k (omega arith))
        ∙ ap (λ (place : ℕ). frame_sums b place (sums_after b k)) (same_place k)

    same_head : (place : ℕ) → place + 24 ≤ p → is_head a place ≡ is_head b place
    unfolding is_head
    same_head place le =
        rw (same_four place (omega arith), same_four (place + 8) (omega arith), same_four (place + 12) (omega arith), same_four 16 (omega arith), same_four 20 (omega arith)) refl

    module _ (room_a : p ≤ length a) (room_b : p ≤ length b) where
      -- a header is valid in both or in neither
      pub same_header : is_header a ≡ is_header b
      unfolding is_header
      same_header =
          rw (
            same_four 0 (omega arith),
            same_four 4 (omega arith),
            same_size,
            same_header_sums,
            same_stand (header_sums b) 24 (omega arith),
            le-leb 32 (length a) (omega arith),
            le-leb 32 (length b) (omega arith),
          ) refl

      same_frame_at : (place : ℕ) (s : Sums) → place + (24 + page_size_in a) ≤ p → is_frame_at a place s ≡ is_frame_at b place s
      unfolding is_frame_at
      same_frame_at place s le =
          rw (
            same_head place (omega arith),
            same_frame_sums place s le,
            same_stand (frame_sums b place s) (place + 16) (omega arith),
            le-leb (place + (24 + page_size_in a)) (length a) (omega arith),
            ← same_size,
            le-leb (place + (24 + page_size_in a)) (length b) (omega arith),
          ) refl

      same_frame : (k : ℕ) → frame_place a (k + 1) ≤ p → is_frame a k ≡ is_frame b k
      same_frame k le =
          let fits : frame_place a k + (24 + page_size_in a) ≤ p = omega (arith, next_place a k) in
          same_frame_at (frame_place a k) (sums_after a k) fits
          ∙ ap (λ (s : Sums). is_frame_at b (frame_place a k) s) (same_sums_after k (omega arith))
          ∙ ap (λ (place : ℕ). is_frame_at b place (sums_after b k)) (same_place k)

      -- frames up to there are valid in both or in neither
      pub same_valid : (k : ℕ) → frame_place a k ≤ p → are_valid a k ≡ are_valid b k
      unfolding are_valid
      same_valid zero le = same_header
      same_valid (suc k) le =
          let fits : frame_place a (k + 1) ≤ p = subst (λ (m : ℕ). frame_place a m ≤ p) (sym (add-one k)) le in
          let before : frame_place a k ≤ p = omega (arith, next_place a k) in
          rw (same_valid k before, same_frame k fits) refl

      same_sized : (k : ℕ) → frame_place a (k + 1) ≤ p → size_in a k ≡ size_in b k
      same_sized k le =
          let fits : frame_place a k + (24 + page_size_in a) ≤ p = omega (arith, next_place a k) in
          same_four (frame_place a k + 4) (omega arith) ∙ ap (λ (place : ℕ). be32_at (place + 4) b) (same_place k)

      pub same_commit : (k : ℕ) → frame_place a (k + 1) ≤ p → is_commit a k ≡ is_commit b k
      unfolding is_commit
      same_commit k le = rw (same_valid (k + 1) le, same_sized k le) refl

      pub same_commits : (k : ℕ) → frame_place a k ≤ p → commits_among a k ≡ commits_among b k
      unfolding commits_among
      same_commits zero le = refl
      same_commits (suc k) le =
          let fits : frame_place a (k + 1) ≤ p = subst (λ (m : ℕ). frame_place a m ≤ p) (sym (add-one k)) le in
          rw (same_commit k fits, same_commits k (omega (arith, fits, next_place a k))) refl

-- the contents of a log that another begins with has no more committed frames
pub front_counts : (a b : List ℕ) (p : ℕ) → take p a ≡ take p b → length a ≡ p → p ≤ length b → committed_count a ≤ committed_count b
front_counts a b p same all room = elim (cases_eq (committed_count a) 0) [
  | inl none ↦ omega arith
  | inr some ↦
      let count = committed_count a in
      let here = has_committed a count refl (omega arith) in
      let back : count - 1 + 1 ≡ count = omega (arith, here.some) in
      let fits : frame_place a (count - 1 + 1) ≤ p = rw (back, ← all) here.room in
      let head : 32 ≤ p = omega (arith, here.header.room) in
      let on : is_commit b (count - 1) ≡ true = sym (same_commit a b p same head (omega arith) room (count - 1) fits) ∙ here.commit in
      omega (arith, commit_committed b (count - 1) on)
]
