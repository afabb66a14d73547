-- The first 32 bytes of the contents of a log have its header.
use Rattle.std.proofs.Common.{◌≡◌, ℕ, ◌≤◌, ◌<◌, false, List, length, take, sym, ap, ◌∙◌, arith}
use Rattle.std.proofs.lemmas.Bool.{false_from_ne_true}
use Rattle.std.proofs.lemmas.List.{length-take, take-take}
use Rattle.wal_watch.specs.Frames.{is_header, header_sums, page_size_in, committed_count}
use Rattle.wal_watch.specs.Scanning.{StatesHeader, IsMark, AreMarks}
use Rattle.wal_watch.specs.declared.header.Header.{Header}
use Rattle.wal_watch.specs.declared.scan.Mark.{Mark}
use Rattle.wal_watch.proofs.Steps.{header_facts, valid_none, sums_none, commits_none}
use Rattle.wal_watch.proofs.ScanLemmas.{none_committed}
use Rattle.wal_watch.proofs.AgreeLemmas.{same_four, same_little, same_header, same_header_sums, same_size}

module _ (header contents : List ℕ) (is : header ≡ take 32 contents) where
  front : take 32 header ≡ take 32 contents
  front = ap (λ (t : List ℕ). take 32 t) is ∙ take-take 32 32 contents (omega arith)

  pub front_header : 32 ≤ length contents → is_header header ≡ is_header contents
  front_header there = same_header header contents 32 front (omega arith) (omega (arith, ap (λ (t : List ℕ). length t) is, length-take 32 contents)) there

  pub front_size : page_size_in header ≡ page_size_in contents
  front_size = same_size header contents 32 front (omega arith)

  pub front_sums : header_sums header ≡ header_sums contents
  front_sums = same_header_sums header contents 32 front (omega arith)

  pub front_states : (h : Header) → 32 ≤ length contents → StatesHeader header h → StatesHeader contents h
  front_states h there states = record {
    valid = sym (front_header there) ∙ states.valid;
    little = states.little ∙ same_little header contents 32 front (omega arith);
    page_size = states.page_size ∙ front_size;
    first_salt = states.first_salt ∙ same_four header contents 32 front 16 (omega arith);
    second_salt = states.second_salt ∙ same_four header contents 32 front 20 (omega arith);
  }

-- the contents of a log that is shorter than a header has none
pub short_header : (contents : List ℕ) → length contents < 32 → is_header contents ≡ false
short_header contents short = false_from_ne_true _ (λ equal. let h = header_facts contents equal in omega (arith, h.room))

pub short_none : (contents : List ℕ) → length contents < 32 → committed_count contents ≡ 0
short_none contents short = none_committed contents (short_header contents short)

-- the marks before the first frame
pub marks-none : (contents : List ℕ) (header : Header) (mark : Mark) → StatesHeader contents header → 32 ≤ length contents → mark.frames ≡ 0 → mark.place ≡ 32 → mark.sums ≡ header_sums contents
    → AreMarks contents (record { header = header; committed = mark; last = mark })
marks-none contents header mark states there frames place sums =
    let first : IsMark contents mark = record {
      valid = rw frames (valid_none contents ∙ states.valid);
      place = rw frames (omega (arith, place));
      there = omega (arith, place, there);
      sums = sums ∙ rw frames (sym (sums_none contents));
    } in
    record {
      header = states;
      last = first;
      committed = first;
      count = frames ∙ rw frames (sym (commits_none contents));
    }
