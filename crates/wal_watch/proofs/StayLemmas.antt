-- The marks of the contents of a log are those of another that begins alike, and a scan goes on from them.
use Rattle.std.proofs.Common.{◌≡◌, ℕ, zero, suc, ◌+◌, ◌-◌, ◌≤◌, false, Option, Some, None, List, length, take, replicate, subst, refl, sym, ap, ◌∙◌, inl, inr, add-one, arith}
use Rattle.std.proofs.lemmas.Bool.{cases_Bool, cond-true, cond-false}
use Rattle.std.proofs.lemmas.List.{take-take, take-append-le, length-take}
use Rattle.lf_base.specs.FileBytes.{resized, written}
use Rattle.lf_base.proofs.FileLemmas.{length-resized}
use Rattle.wal_watch.specs.Frames.{is_header, is_commit, commits_among, committed_count, frame_place}
use Rattle.wal_watch.specs.Scanning.{StatesHeader, IsMark, AreMarks, AreFinal, IsMarked}
use Rattle.wal_watch.specs.declared.header.Header.{Header}
use Rattle.wal_watch.specs.declared.scan.Mark.{Mark}
use Rattle.wal_watch.specs.declared.scan.Marks.{Marks}
use Rattle.wal_watch.proofs.CommitLemmas.{place_up}
use Rattle.wal_watch.proofs.WriteLemmas.{written-longer, resized-whole}
use Rattle.wal_watch.proofs.AgreeLemmas.{same_four, same_little, same_header, same_size, same_place, same_valid, same_sums_after, same_commits}

-- the commits among the first commits are all of these
pub commits_again : (contents : List ℕ) (n : ℕ) → commits_among contents (commits_among contents n) ≡ commits_among contents n
unfolding commits_among
commits_again contents zero = refl
commits_again contents (suc k) = elim (cases_Bool (is_commit contents k)) [
  | inl on ↦
      let own : commits_among contents (suc k) ≡ k + 1 = cond-true _ _ _ on in
      ap (λ (n : ℕ). commits_among contents n) (own ∙ add-one k)
  | inr off ↦
      let own : commits_among contents (suc k) ≡ commits_among contents k = cond-false _ _ _ off in
      ap (λ (n : ℕ). commits_among contents n) own ∙ commits_again contents k ∙ sym own
]

commits_le : (contents : List ℕ) (n : ℕ) → commits_among contents n ≤ n
unfolding commits_among
commits_le contents zero = omega arith
commits_le contents (suc k) = elim (cases_Bool (is_commit contents k)) [
  | inl on ↦ let own : commits_among contents (suc k) ≡ k + 1 = cond-true _ _ _ on in omega (arith, own, add-one k)
  | inr off ↦ let own : commits_among contents (suc k) ≡ commits_among contents k = cond-false _ _ _ off in omega (arith, own, commits_le contents k)
]

-- the marks as if the scan had ended behind the committed frames
pub marks-back : (contents : List ℕ) (marks : Marks) → AreMarks contents marks → AreMarks contents (record { header = marks.header; committed = marks.committed; last = marks.committed })
marks-back contents marks h = record {
  header = h.header;
  last = h.committed;
  committed = h.committed;
  count = h.count ∙ sym (commits_again contents marks.last.frames) ∙ ap (λ (n : ℕ). commits_among contents n) (sym h.count);
}

-- the committed frames end before the last
pub marks-order : (contents : List ℕ) (marks : Marks) → AreMarks contents marks → marks.committed.place ≤ marks.last.place
marks-order contents marks h =
    omega (arith, h.committed.place, h.last.place, place_up contents marks.committed.frames marks.last.frames (omega (arith, h.count, commits_le contents marks.last.frames)))

-- no more frames are committed than there are bytes
pub count-fits : (contents : List ℕ) → committed_count contents ≤ length contents
unfolding committed_count
count-fits contents = commits_le contents (length contents)

module _ (old new : List ℕ) (p : ℕ) (same : take p new ≡ take p old) (room_old : p ≤ length old) (room_new : p ≤ length new) where
  pub mark-stays : (mark : Mark) → IsMark old mark → mark.place ≤ p → IsMark new mark
  mark-stays mark h le =
      let head : 32 ≤ p = omega (arith, h.place, le) in
      let fits : frame_place old mark.frames ≤ p = omega (arith, h.place, le) in
      record {
        valid = sym (same_valid old new p (sym same) head room_old room_new mark.frames fits) ∙ h.valid;
        place = h.place ∙ same_place old new p (sym same) head mark.frames;
        there = omega (arith, le, room_new);
        sums = h.sums ∙ same_sums_after old new p (sym same) head mark.frames fits;
      }

  pub header-stays : (header : Header) → StatesHeader old header → 32 ≤ p → StatesHeader new header
  header-stays header h head = record {
    valid = sym (same_header old new p (sym same) head room_old room_new) ∙ h.valid;
    little = h.little ∙ same_little old new p (sym same) head;
    page_size = h.page_size ∙ same_size old new p (sym same) head;
    first_salt = h.first_salt ∙ same_four old new p (sym same) 16 (omega (arith, head));
    second_salt = h.second_salt ∙ same_four old new p (sym same) 20 (omega (arith, head));
  }

  pub marks-stay : (marks : Marks) → AreMarks old marks → marks.last.place ≤ p → AreMarks new marks
  marks-stay marks h le =
      let head : 32 ≤ p = omega (arith, h.last.place, le) in
      let before : marks.committed.place ≤ marks.last.place = marks-order old marks h in
      record {
        header = header-stays marks.header h.header head;
        last = mark-stays marks.last h.last le;
        committed = mark-stays marks.committed h.committed (omega (arith, before, le));
        count = h.count ∙ same_commits old new p (sym same) head room_old room_new marks.last.frames (omega (arith, h.last.place, le));
      }

-- what marks say of their contents
pub marked-none : (contents : List ℕ) (marks : Option Marks) → marks ≡ None → IsMarked contents marks → is_header contents ≡ false
marked-none contents marks is h = let P : Option Marks → Type 0 = λ o. IsMarked contents o in subst P is h

pub marked-some : (contents : List ℕ) (marks : Option Marks) (m : Marks) → marks ≡ Some m → IsMarked contents marks → AreFinal contents m
marked-some contents marks m is h = let P : Option Marks → Type 0 = λ o. IsMarked contents o in subst P is h

-- marks of all bytes
pub marked-whole : (contents : List ℕ) (len : ℕ) (marks : Option Marks) → len ≡ length contents → IsMarked (resized len contents) marks → IsMarked contents marks
marked-whole contents len marks is h = let P : List ℕ → Type 0 = λ t. IsMarked t marks in subst P (ap (λ (n : ℕ). resized n contents) is ∙ resized-whole contents) h

-- the first bytes of the contents of a log that was cut behind them, or filled up
pub take-resized : (contents : List ℕ) (place len : ℕ) → place ≤ len → place ≤ length contents → take place (resized len contents) ≡ take place contents
take-resized contents place len below within =
    take-append-le place (take len contents) (replicate (len - length contents) 0) (omega (arith, below, within, length-take len contents)) ∙ take-take place len contents below

-- the marks that a write leaves, and those that a cut leaves
pub marks-written : (contents : List ℕ) (at : ℕ) (piece : List ℕ) (marks : Marks) → AreMarks contents marks → take marks.last.place (written at piece contents) ≡ take marks.last.place contents
    → AreMarks (written at piece contents) marks
marks-written contents at piece marks h same =
    marks-stay contents (written at piece contents) marks.last.place same h.last.there (omega (arith, h.last.there, written-longer at piece contents)) marks h (omega arith)

pub marks-cut : (contents : List ℕ) (len : ℕ) (marks : Marks) → AreMarks contents marks → marks.last.place ≤ len → AreMarks (resized len contents) marks
marks-cut contents len marks h le =
    marks-stay contents (resized len contents) marks.last.place (take-resized contents marks.last.place len le h.last.there) h.last.there (omega (arith, length-resized len contents, le)) marks h (omega arith)
