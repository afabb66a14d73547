-- A scan goes on by one frame, or ends.
use Rattle.std.proofs.Common.{◌≡◌, ℕ, zero, suc, ◌+◌, ◌*◌, ◌≤◌, true, false, List, length, refl, sym, ap, ◌∙◌, inl, inr, add-one, arith, if◌then◌else◌, ◌==◌}
use Rattle.std.proofs.lemmas.Bool.{and_from, cases_eq, cond-true, cond-false, and_left, and_right, not_from_true, not_from_false, ne_eqb, eq-eqb, and_parts, leb-true}
use Rattle.std.proofs.Math.Nat.{mul-le-mul_left}
use Rattle.lf_base.specs.Endian.{be32_at}
use Rattle.wal_watch.specs.Frames.{is_header, page_size_in, frame_place, is_frame, is_frame_at, are_valid, is_commit, commits_among, committed_count, size_in}
use Rattle.wal_watch.specs.Scanning.{IsMark, AreMarks, AreFinal, IsNextFrame}
use Rattle.wal_watch.specs.declared.scan.Mark.{Mark}
use Rattle.wal_watch.specs.declared.scan.Marks.{Marks}
use Rattle.wal_watch.specs.declared.scan.NextFrame.{NextFrame}
use Rattle.wal_watch.specs.declared.sums.Sums.{Sums}
use Rattle.wal_watch.proofs.Steps.{sums_more, valid_more, valid_none, commits_more, commits_none}

-- where frame n isn't valid, no later frame is
pub invalid_from : (contents : List ℕ) (k n : ℕ) → are_valid contents k ≡ false → k ≤ n → are_valid contents n ≡ false
invalid_from contents k zero h le = let e : k ≡ 0 = omega arith in rw (← e) h
invalid_from contents k (suc n) h le = elim (cases_eq k (suc n)) [
  | inl same ↦ rw (← same) h
  | inr other ↦
      let before : are_valid contents n ≡ false = invalid_from contents k n h (omega arith) in
      ap (λ m. are_valid contents m) (sym (add-one n)) ∙ valid_more contents n ∙ and_left _ _ before
]

no_commit : (contents : List ℕ) (n : ℕ) → are_valid contents (n + 1) ≡ false → is_commit contents n ≡ false
unfolding is_commit
no_commit contents n off = and_left _ _ off

-- then no later frame is committed
pub commits_stay : (contents : List ℕ) (k n : ℕ) → are_valid contents (k + 1) ≡ false → k ≤ n → commits_among contents n ≡ commits_among contents k
commits_stay contents k zero h le = let e : k ≡ 0 = omega arith in rw (← e) refl
commits_stay contents k (suc n) h le = elim (cases_eq k (suc n)) [
  | inl same ↦ rw (← same) refl
  | inr other ↦
      let off : are_valid contents (n + 1) ≡ false = invalid_from contents (k + 1) (n + 1) h (omega arith) in
      ap (λ m. commits_among contents m) (sym (add-one n)) ∙ commits_more contents n ∙ cond-false _ _ _ (no_commit contents n off) ∙ commits_stay contents k n h (omega arith)
]

-- where a frame ends, all of it is there
pub next_place : (contents : List ℕ) (k : ℕ) → frame_place contents (k + 1) ≡ frame_place contents k + (24 + page_size_in contents)
next_place contents k = omega arith

-- the commits among one more valid frame
pub commits_next : (contents : List ℕ) (k size : ℕ) → are_valid contents (k + 1) ≡ true → size ≡ size_in contents k
    → commits_among contents (k + 1) ≡ (if size == 0 then commits_among contents k else k + 1)
unfolding is_commit
commits_next contents k size valid size-is = elim (cases_eq size 0) [
  | inl none ↦
      let zero_is : size_in contents k ≡ 0 = sym size-is ∙ none in
      let off : is_commit contents k ≡ false = and_right _ _ (not_from_true _ (eq-eqb _ _ zero_is)) in
      commits_more contents k ∙ cond-false _ _ _ off ∙ sym (cond-true _ _ _ (eq-eqb _ _ none))
  | inr some ↦
      let on : is_commit contents k ≡ true = and_from _ _ valid (not_from_false _ (ne_eqb _ _ (λ z. some (size-is ∙ z)))) in
      commits_more contents k ∙ cond-true _ _ _ on ∙ sym (cond-false _ _ _ (ne_eqb _ _ some))
]

-- a valid frame is there
pub frame_room_at : (contents : List ℕ) (place : ℕ) (sums : Sums) (k : ℕ) → place ≡ frame_place contents k → is_frame_at contents place sums ≡ true → frame_place contents (k + 1) ≤ length contents
unfolding is_frame_at
frame_room_at contents place sums k at h =
    let fits : place + (24 + page_size_in contents) ≤ length contents = leb-true _ _ (and_parts _ _ h).0 in
    omega (arith, fits, at, next_place contents k)

-- the marks behind one more valid frame
pub marks-more : (contents : List ℕ) (marks : Marks) (frame : NextFrame) (last committed : Mark) → AreMarks contents marks → IsNextFrame contents marks frame
    → last ≡ record { frames = marks.last.frames + 1; place = marks.last.place + 24 + marks.header.page_size; sums = frame.sums }
    → committed ≡ (if frame.size == 0 then marks.committed else last)
    → AreMarks contents (record { header = marks.header; committed = committed; last = last })
marks-more contents marks frame last committed h is last-is committed-is =
    let k = marks.last.frames in
    let here : is_frame contents k ≡ true = rw (← h.last.place, ← h.last.sums) is.valid in
    let valid : are_valid contents (k + 1) ≡ true = valid_more contents k ∙ and_from _ _ h.last.valid here in
    let size-is : frame.size ≡ size_in contents k = is.size ∙ ap (λ (p : ℕ). be32_at (p + 4) contents) h.last.place in
    let place-is : last.place ≡ frame_place contents (k + 1) = ap (λ (m : Mark). m.place) last-is ∙ omega (arith, h.last.place, h.header.page_size, next_place contents k) in
    let frames-is : last.frames ≡ k + 1 = ap (λ (m : Mark). m.frames) last-is in
    let mark : IsMark contents last = record {
      valid = rw frames-is valid;
      place = rw frames-is place-is;
      there = rw place-is (frame_room_at contents marks.last.place marks.last.sums k h.last.place is.valid);
      sums = ap (λ (m : Mark). m.sums) last-is ∙ is.sums ∙ rw (h.last.place, h.last.sums, frames-is) (sym (sums_more contents k));
    } in
    let count-is : commits_among contents (k + 1) ≡ (if frame.size == 0 then commits_among contents k else k + 1) = commits_next contents k frame.size valid size-is in
    elim (cases_eq frame.size 0) [
      | inl none ↦
          let same : committed ≡ marks.committed = committed-is ∙ cond-true _ _ _ (eq-eqb _ _ none) in
          record {
            header = h.header;
            last = mark;
            committed = rw same h.committed;
            count = rw (same, frames-is) (h.count ∙ sym (count-is ∙ cond-true _ _ _ (eq-eqb _ _ none)));
          }
      | inr some ↦
          let own : committed ≡ last = committed-is ∙ cond-false _ _ _ (ne_eqb _ _ some) in
          record {
            header = h.header;
            last = mark;
            committed = rw own mark;
            count = rw (own, frames-is) (sym (count-is ∙ cond-false _ _ _ (ne_eqb _ _ some)));
          }
    ]

-- each frame takes room
pub frames_fit : (contents : List ℕ) (k : ℕ) → frame_place contents k ≤ length contents → k ≤ length contents
frames_fit contents k there = let some : k * 1 ≤ k * (24 + page_size_in contents) = mul-le-mul_left k (omega arith) in omega (arith, some)

-- where a scan ends, all commits are behind it
pub final-count : (contents : List ℕ) (marks : Marks) → AreFinal contents marks → marks.committed.frames ≡ committed_count contents
unfolding committed_count
final-count contents marks final =
    let h = final.behind in
    let k = marks.last.frames in
    let here : is_frame contents k ≡ false = rw (← h.last.place, ← h.last.sums) final.ends in
    let invalid : are_valid contents (k + 1) ≡ false = valid_more contents k ∙ and_right _ _ here in
    let there : frame_place contents k ≤ length contents = rw (← h.last.place) h.last.there in
    h.count ∙ sym (commits_stay contents k (length contents) invalid (frames_fit contents k there))

-- the contents of a log without a valid header has no committed frame
pub none_committed : (contents : List ℕ) → is_header contents ≡ false → committed_count contents ≡ 0
unfolding committed_count
none_committed contents off =
    let off_one : are_valid contents (0 + 1) ≡ false = invalid_from contents 0 (0 + 1) (valid_none contents ∙ off) (omega arith) in
    commits_stay contents 0 (length contents) off_one (omega arith) ∙ commits_none contents
