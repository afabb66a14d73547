-- How far the contents of a log was scanned.
use Rattle.std.specs.Prelude.{◌≡◌, ℕ, suc, zero, ◌+◌, ◌-◌, ◌<◌, ◌≤◌, ◌==◌, true, false, Option, Some, None, List, length, if◌then◌else◌}
use Rattle.lf_base.specs.Endian.{be32_at}
use Rattle.lf_sqlite_pages.specs.PageSize.{IsPageSize}
use Rattle.wal_watch.specs.Frames.{is_header, is_little, frame_place, are_valid, sums_after, commits_among, is_commit, is_frame_at, frame_sums, size_in, page_size_in}
use Rattle.wal_watch.specs.declared.header.Header.{Header}
use Rattle.wal_watch.specs.declared.scan.Mark.{Mark}
use Rattle.wal_watch.specs.declared.scan.Marks.{Marks}
use Rattle.wal_watch.specs.declared.scan.NextFrame.{NextFrame}
use Rattle.wal_watch.specs.declared.sums.Sums.{Sums}

-- the header of the contents of a log is a valid one, and this is what it states
pub record StatesHeader (contents : List ℕ) (header : Header) : Type 0 where
  pub valid : is_header contents ≡ true
  pub little : header.little ≡ is_little contents
  pub page_size : header.page_size ≡ page_size_in contents
  pub first_salt : header.first_salt ≡ be32_at 16 contents
  pub second_salt : header.second_salt ≡ be32_at 20 contents

-- a mark stands behind valid frames alone, with the sums there
pub record IsMark (contents : List ℕ) (mark : Mark) : Type 0 where
  pub valid : are_valid contents mark.frames ≡ true
  pub place : mark.place ≡ frame_place contents mark.frames
  pub there : mark.place ≤ length contents
  pub sums : mark.sums ≡ sums_after contents mark.frames

-- one mark stands behind some valid frames, another behind those of them that are committed
pub record AreMarks (contents : List ℕ) (marks : Marks) : Type 0 where
  pub header : StatesHeader contents marks.header
  pub last : IsMark contents marks.last
  pub committed : IsMark contents marks.committed
  pub count : marks.committed.frames ≡ commits_among contents marks.last.frames

-- how many frames are committed, where k valid frames end at a place with these sums and c of them are committed: the frames
-- are walked from there on, at most n of them
unfoldable pub committed_from : List ℕ → ℕ → ℕ → ℕ → Sums → ℕ → ℕ
committed_from contents c k place s zero = c
committed_from contents c k place s (suc n) =
    if is_frame_at contents place s
    then committed_from contents (if be32_at (place + 4) contents == 0 then c else k + 1) (k + 1) (place + (24 + page_size_in contents)) (frame_sums contents place s) n
    else c

-- a valid frame comes next
pub record IsNextFrame (contents : List ℕ) (marks : Marks) (frame : NextFrame) : Type 0 where
  pub valid : is_frame_at contents marks.last.place marks.last.sums ≡ true
  pub sums : frame.sums ≡ frame_sums contents marks.last.place marks.last.sums
  pub size : frame.size ≡ be32_at (marks.last.place + 4) contents

-- and behind the first no valid frame follows; without a valid header there are no marks
pub record AreFinal (contents : List ℕ) (marks : Marks) : Type 0 where
  pub behind : AreMarks contents marks
  pub ends : is_frame_at contents marks.last.place marks.last.sums ≡ false

abbrev pub IsMarked : List ℕ → Option Marks → Type 0
IsMarked contents None = is_header contents ≡ false
IsMarked contents (Some marks) = AreFinal contents marks

-- a valid header is there, and states a page size
pub record HasHeader (contents : List ℕ) : Type 0 where
  pub room : 32 ≤ length contents
  pub page_size : IsPageSize (page_size_in contents)

-- the first frames are valid, there, and end with a commit
pub record HasCommitted (contents : List ℕ) (count : ℕ) : Type 0 where
  pub some : 0 < count
  pub valid : are_valid contents count ≡ true
  pub commit : is_commit contents (count - 1) ≡ true
  pub header : HasHeader contents
  pub room : frame_place contents count ≤ length contents
  pub size : 0 < size_in contents (count - 1)
