-- Numbers and sums in a piece of the contents of a log are those of the contents there.
use Rattle.std.proofs.Common.{◌≡◌, ℕ, zero, suc, ◌+◌, ◌*◌, ◌-◌, ◌≤◌, ◌<◌, ◌==◌, ◌&&◌, not, Bool, List, length, take, drop, refl, sym, ap, ◌∙◌, add-zero, add-suc, add-one, arith}
use Rattle.std.proofs.Common.{true, false}
use Rattle.std.proofs.lemmas.Bool.{and_left, and_right, and_from, lt-leb, le-leb}
use Rattle.std.proofs.lemmas.List.{take-take, drop-take, drop-drop}
use Rattle.lf_base.specs.Endian.{be32_at, le32_at}
use Rattle.wal_watch.specs.Sums.{word_at, with_pair, with_pairs, stand_at}
use Rattle.wal_watch.specs.Frames.{is_head, is_frame_at, frame_sums, page_size_in}
use Rattle.wal_watch.specs.Scanning.{StatesHeader}
use Rattle.wal_watch.specs.declared.header.Header.{Header}
use Rattle.wal_watch.specs.declared.sums.Sums.{Sums}

module _ (contents piece : List ℕ) (place n : ℕ) (is : piece ≡ take n (drop place contents)) where
  pub part-piece : (i k : ℕ) → i + k ≤ n → take k (drop i piece) ≡ take k (drop (place + i) contents)
  part-piece i k le =
      let rest : i + (n - i) ≡ n = omega arith in
      ap (λ (p : List ℕ). take k (drop i p)) is
      ∙ ap (λ (m : ℕ). take k (drop i (take m (drop place contents)))) (sym rest)
      ∙ ap (λ (l : List ℕ). take k l) (drop-take i (n - i) (drop place contents))
      ∙ take-take k (n - i) (drop i (drop place contents)) (omega arith)
      ∙ ap (λ (l : List ℕ). take k l) (drop-drop i place contents)

  pub part-be32 : (i : ℕ) → i + 4 ≤ n → be32_at i piece ≡ be32_at (place + i) contents
  unfolding be32_at
  part-be32 i le = rw (part-piece i 4 le) refl

  pub part-word : (little : Bool) (i : ℕ) → i + 4 ≤ n → word_at little i piece ≡ word_at little (place + i) contents
  unfolding word_at be32_at le32_at
  part-word little i le = rw (part-piece i 4 le) refl

  pub part-pairs : (little : Bool) (s : Sums) (m : ℕ) → 8 * m ≤ n → with_pairs little s 0 piece m ≡ with_pairs little s place contents m
  unfolding with_pairs
  part-pairs little s zero le = refl
  part-pairs little s (suc m) le =
      let first : word_at little (0 + 8 * m) piece ≡ word_at little (place + 8 * m) contents =
      part-word little (0 + 8 * m) (omega (arith, le, add-one m)) ∙ ap (λ (p : ℕ). word_at little p contents) (omega arith) in
      let second : word_at little (0 + 8 * m + 4) piece ≡ word_at little (place + 8 * m + 4) contents =
      part-word little (0 + 8 * m + 4) (omega (arith, le, add-one m)) ∙ ap (λ (p : ℕ). word_at little p contents) (omega arith) in
      rw (part-pairs little s m (omega (arith, le, add-one m)), first, second) refl

  pub part-stand : (s : Sums) (i : ℕ) → i + 8 ≤ n → stand_at s i piece ≡ stand_at s (place + i) contents
  unfolding stand_at
  part-stand s i le =
      let second : be32_at (i + 4) piece ≡ be32_at (place + i + 4) contents = part-be32 (i + 4) (omega (arith, le)) ∙ ap (λ (p : ℕ). be32_at p contents) (omega arith) in
      rw (part-be32 i (omega (arith, le)), second) refl

-- pairs behind pairs
pub pairs-add : (little : Bool) (s : Sums) (place : ℕ) (contents : List ℕ) (a b : ℕ) → with_pairs little (with_pairs little s place contents a) (place + 8 * a) contents b
    ≡ with_pairs little s place contents (a + b)
unfolding with_pairs
pairs-add little s place contents a zero = ap (λ (n : ℕ). with_pairs little s place contents n) (sym (add-zero a))
pairs-add little s place contents a (suc b) =
    let at : place + 8 * a + 8 * b ≡ place + 8 * (a + b) = omega arith in
    ap (λ (sums : Sums). with_pair sums (word_at little (place + 8 * a + 8 * b) contents) (word_at little (place + 8 * a + 8 * b + 4) contents)) (pairs-add little s place contents a b)
    ∙ ap (λ (p : ℕ). with_pair (with_pairs little s place contents (a + b)) (word_at little p contents) (word_at little (p + 4) contents)) at
    ∙ ap (λ (n : ℕ). with_pairs little s place contents n) (sym (add-suc a b))

-- the sums by way of a buffer
pub sums-more : (little : Bool) (s sums next : Sums) (place done pairs : ℕ) (contents part : List ℕ) → sums ≡ with_pairs little s place contents done
    → part ≡ take (8 * pairs) (drop (place + 8 * done) contents) → next ≡ with_pairs little sums 0 part pairs → next ≡ with_pairs little s place contents (done + pairs)
sums-more little s sums next place done pairs contents part before is next-is =
    next-is ∙ part-pairs contents part (place + 8 * done) (8 * pairs) is little sums pairs (omega arith)
    ∙ ap (λ (t : Sums). with_pairs little t (place + 8 * done) contents pairs) before ∙ pairs-add little s place contents done pairs

-- what a head says, by the header that was read
pub head-is : (contents head : List ℕ) (place : ℕ) (header : Header) → StatesHeader contents header → head ≡ take 24 (drop place contents)
    → is_head contents place ≡ (not (be32_at 0 head == 0) && ((be32_at 8 head == header.first_salt) && (be32_at 12 head == header.second_salt)))
unfolding is_head
head-is contents head place header states is =
    let number : be32_at 0 head ≡ be32_at place contents = part-be32 contents head place 24 is 0 (omega arith) ∙ ap (λ (p : ℕ). be32_at p contents) (add-zero place) in
    rw (← states.first_salt, ← states.second_salt, number, part-be32 contents head place 24 is 8 (omega arith), part-be32 contents head place 24 is 12 (omega arith)) refl

-- why no valid frame stands at a place, and when one does
pub frame-short : (contents : List ℕ) (place : ℕ) (s : Sums) → length contents < place + (24 + page_size_in contents) → is_frame_at contents place s ≡ false
unfolding is_frame_at
frame-short contents place s short = and_left _ _ (lt-leb (place + (24 + page_size_in contents)) (length contents) short)

pub frame-headless : (contents : List ℕ) (place : ℕ) (s : Sums) → is_head contents place ≡ false → is_frame_at contents place s ≡ false
unfolding is_frame_at
frame-headless contents place s off = and_right _ _ (and_left _ _ off)

pub frame-unsummed : (contents : List ℕ) (place : ℕ) (s : Sums) → stand_at (frame_sums contents place s) (place + 16) contents ≡ false → is_frame_at contents place s ≡ false
unfolding is_frame_at
frame-unsummed contents place s off = and_right _ _ (and_right _ _ off)

pub frame-valid : (contents : List ℕ) (place : ℕ) (s : Sums) → place + (24 + page_size_in contents) ≤ length contents → is_head contents place ≡ true
    → stand_at (frame_sums contents place s) (place + 16) contents ≡ true → is_frame_at contents place s ≡ true
unfolding is_frame_at
frame-valid contents place s fits head stands = and_from _ _ (le-leb _ _ fits) (and_from _ _ head stands)
