-- What the committed frames of the contents of a log are.
use Rattle.std.proofs.Common.{◌≡◌, ℕ, zero, suc, ◌+◌, ◌-◌, ◌*◌, ◌≤◌, ◌<◌, true, ◌⊎◌, List, length, sym, ap, subst, ◌∙◌, inl, inr, add-one, arith}
use Rattle.std.proofs.lemmas.Bool.{and_parts, leb-true, cases_eq, cond-true, cond-false, cases_Bool, not_from_true, eq-eqb}
use Rattle.std.proofs.Math.Nat.{mul-le-mul_right}
use Rattle.wal_watch.specs.Frames.{is_header, page_size_in, frame_place, is_frame, is_frame_at, are_valid, is_commit, commits_among, committed_count, size_in}
use Rattle.wal_watch.proofs.Steps.{valid_more, valid_none, commits_more, commits_none, header_facts}
use Rattle.wal_watch.specs.Scanning.{HasCommitted}
use Rattle.wal_watch.proofs.ScanLemmas.{next_place, frames_fit}

-- frame k commits, among the first n
pub record IsLast (contents : List ℕ) (n k : ℕ) : Type 0 where
  pub among : k < n
  pub commits : is_commit contents k ≡ true
  pub last : commits_among contents n ≡ k + 1

-- there is no commit among the first n frames, or a last one
pub last_commit : (contents : List ℕ) (n : ℕ) → (commits_among contents n ≡ 0) ⊎ ((k : ℕ) × IsLast contents n k)
last_commit contents zero = inl (commits_none contents)
last_commit contents (suc n) =
    let step : commits_among contents (suc n) ≡ commits_among contents (n + 1) = ap (λ (m : ℕ). commits_among contents m) (sym (add-one n)) in
    elim (cases_Bool (is_commit contents n)) [
      | inl on ↦ inr (n, record { among = omega (arith, add-one n); commits = on; last = step ∙ commits_more contents n ∙ cond-true _ _ _ on })
      | inr off ↦
          let same : commits_among contents (suc n) ≡ commits_among contents n = step ∙ commits_more contents n ∙ cond-false _ _ _ off in
          elim (last_commit contents n) [
            | inl none ↦ inl (same ∙ none)
            | inr some ↦ inr (some.0, record { among = omega (arith, some.1.among, add-one n); commits = some.1.commits; last = same ∙ some.1.last })
          ]
    ]

-- a commit among the first n frames is counted
pub commit_counts : (contents : List ℕ) (k n : ℕ) → is_commit contents k ≡ true → k < n → k + 1 ≤ commits_among contents n
commit_counts contents k zero on less = omega arith
commit_counts contents k (suc n) on less =
    let step : commits_among contents (suc n) ≡ commits_among contents (n + 1) = ap (λ (m : ℕ). commits_among contents m) (sym (add-one n)) in
    elim (cases_Bool (is_commit contents n)) [
      | inl last ↦ omega (arith, step ∙ commits_more contents n ∙ cond-true _ _ _ last, add-one n)
      | inr off ↦ elim (cases_eq k n) [
        | inl same ↦ absurd (let on_too : is_commit contents n ≡ true = rw (← same) on in cc)
        | inr other ↦ omega (arith, commit_counts contents k n on (omega (arith, add-one n)), step ∙ commits_more contents n ∙ cond-false _ _ _ off)
      ]
    ]

-- the header of valid frames is valid
pub valid_header : (contents : List ℕ) (k : ℕ) → are_valid contents k ≡ true → is_header contents ≡ true
valid_header contents zero h = sym (valid_none contents) ∙ h
valid_header contents (suc k) h = valid_header contents k (and_parts _ _ (sym (valid_more contents k) ∙ ap (λ (m : ℕ). are_valid contents m) (add-one k) ∙ h)).0

-- frames before valid frames are valid
pub valid_before : (contents : List ℕ) (k n : ℕ) → are_valid contents n ≡ true → k ≤ n → are_valid contents k ≡ true
valid_before contents k zero h le = let e : k ≡ 0 = omega arith in rw e h
valid_before contents k (suc n) h le = elim (cases_eq k (suc n)) [
  | inl same ↦ rw same h
  | inr other ↦ valid_before contents k n (and_parts _ _ (sym (valid_more contents n) ∙ ap (λ (m : ℕ). are_valid contents m) (add-one n) ∙ h)).0 (omega (arith, add-one n))
]

-- valid frames are there
frame_room : (contents : List ℕ) (k : ℕ) → is_frame contents k ≡ true → frame_place contents (k + 1) ≤ length contents
unfolding is_frame_at
frame_room contents k h =
    let fits : frame_place contents k + (24 + page_size_in contents) ≤ length contents = leb-true _ _ (and_parts _ _ h).0 in
    omega (arith, fits, next_place contents k)

pub valid_room : (contents : List ℕ) (k : ℕ) → are_valid contents k ≡ true → frame_place contents k ≤ length contents
valid_room contents zero h = let head = header_facts contents (valid_header contents zero h) in omega (arith, head.room)
valid_room contents (suc k) h =
    let here : is_frame contents k ≡ true = (and_parts _ _ (sym (valid_more contents k) ∙ ap (λ (m : ℕ). are_valid contents m) (add-one k) ∙ h)).1 in
    subst (λ (m : ℕ). frame_place contents m ≤ length contents) (add-one k) (frame_room contents k here)

-- a frame that ends a transaction
pub record IsCommit (contents : List ℕ) (k : ℕ) : Type 0 where
  pub valid : are_valid contents (k + 1) ≡ true
  pub size : 0 < size_in contents k

pub commit_facts : (contents : List ℕ) (k : ℕ) → is_commit contents k ≡ true → IsCommit contents k
unfolding is_commit
commit_facts contents k h =
    let parts = and_parts _ _ h in
    record {
      valid = parts.0;
      size = elim (cases_eq (size_in contents k) 0) [
        | inl zero_is ↦ absurd (let off = not_from_true _ (eq-eqb _ _ zero_is) in cc (off, parts.1))
        | inr some ↦ omega arith
      ];
    }

-- committed frames end with a commit
pub has_committed : (contents : List ℕ) (count : ℕ) → count ≡ committed_count contents → 0 < count → HasCommitted contents count
unfolding committed_count
has_committed contents count is some = elim (last_commit contents (length contents)) [
  | inl none ↦ absurd (omega (arith, is, none))
  | inr last ↦
      let k = last.0 in
      let count_is : k + 1 ≡ count = sym last.1.last ∙ sym is in
      let before : k ≡ count - 1 = omega arith in
      let facts = commit_facts contents k last.1.commits in
      let valid : are_valid contents count ≡ true = rw (← count_is) facts.valid in
      record {
        some = some;
        valid = valid;
        commit = rw (← before) last.1.commits;
        header = header_facts contents (valid_header contents count valid);
        room = valid_room contents count valid;
        size = rw (← before) facts.size;
      }
]

-- a commit is committed
pub commit_committed : (contents : List ℕ) (k : ℕ) → is_commit contents k ≡ true → k + 1 ≤ committed_count contents
unfolding committed_count
commit_committed contents k on =
    let facts = commit_facts contents k on in
    let room = valid_room contents (k + 1) facts.valid in
    commit_counts contents k (length contents) on (omega (arith, frames_fit contents (k + 1) room))

-- places further on
pub place_up : (contents : List ℕ) (j k : ℕ) → j ≤ k → frame_place contents j ≤ frame_place contents k
place_up contents j k le = let more : j * (24 + page_size_in contents) ≤ k * (24 + page_size_in contents) = mul-le-mul_right (24 + page_size_in contents) le in omega (arith, more)

-- each committed frame is there
pub frame_there : (contents : List ℕ) (count k : ℕ) → count ≡ committed_count contents → k < count → frame_place contents (k + 1) ≤ length contents
frame_there contents count k is less =
    let some = has_committed contents count is (omega arith) in
    omega (arith, place_up contents (k + 1) count (omega arith), some.room)
