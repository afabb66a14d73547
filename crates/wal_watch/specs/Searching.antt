-- How the pages of a change are collected and taken, one after another. No public clause cites these.
use Rattle.std.specs.Prelude.{◌≡◌, ℕ, ◌≤◌, ◌<◌, nat_le, Option, Some, None, List, if◌then◌else◌}
use Rattle.std.specs.BTreeMap.{BTreeMap, get}
use Rattle.std.specs.Ordering.{nat_cmp}
use Rattle.lf_sqlite_pages.specs.Change.{PageChange, last_number}
use Rattle.lf_sqlite_pages.specs.LockPage.{IsDataPage}
use Rattle.wal_watch.specs.Frames.{page_size_in}
use Rattle.wal_watch.specs.News.{latest_frame, change_frame, latest_pages}

-- the frame that a change takes a page from, of the pages up to a count
unfoldable pub frame_within : List ℕ → ℕ → ℕ → ℕ → ℕ → Option ℕ
frame_within contents commit first n page = if nat_le page commit then change_frame contents page first n else None

-- the map has each page that the frames from first on, among the first n, hold, with the latest frame of it
pub record HoldsPages (contents : List ℕ) (commit first n : ℕ) (pages : BTreeMap ℕ ℕ) : Type 0 where
  pub at : (page : ℕ) → get nat_cmp pages page ≡ frame_within contents commit first n page

-- a frame stands before another, where there is one
abbrev pub IsBefore : ℕ → Option ℕ → Type 0
IsBefore k None = ⊥
IsBefore k (Some l) = k < l

-- the map has each page that the frames from first on, among the first n, hold, with the latest frame of it, but no page of
-- which the indexed frames have one that is still to come
pub record HoldsSoFar (contents : List ℕ) (commit first n indexed : ℕ) (pages : BTreeMap ℕ ℕ) : Type 0 where
  pub coming : (page l : ℕ) → latest_frame contents page 0 indexed ≡ Some l → n ≤ l → get nat_cmp pages page ≡ None
  pub at : (page : ℕ) → ((l : ℕ) → latest_frame contents page 0 indexed ≡ Some l → l < n) → get nat_cmp pages page ≡ frame_within contents commit first n page

-- the frames from first on, among the first n, hold no page between two numbers
pub record HoldsNone (contents : List ℕ) (first n above below : ℕ) : Type 0 where
  pub none : (page : ℕ) → above < page → page < below → change_frame contents page first n ≡ None

-- the least page above a number, and the latest frame of it
pub record IsLeast (contents : List ℕ) (first n above commit page frame : ℕ) : Type 0 where
  pub over : above < page
  pub within : page ≤ commit
  pub among : frame < n
  pub holds_data : IsDataPage (page_size_in contents) page
  pub latest : change_frame contents page first n ≡ Some frame
  pub between : HoldsNone contents first n above page

-- the change has the pages up to its last one, and the map has the others
pub record AreTaken (contents : List ℕ) (commit first n : ℕ) (pages : BTreeMap ℕ ℕ) (change : PageChange) : Type 0 where
  pub taken : change.pages ≡ latest_pages contents first n (last_number change.pages)
  pub page_size : change.page_size ≡ page_size_in contents
  pub of_size : change.commit ≡ commit
  pub within : last_number change.pages ≤ commit
  pub gone : (page : ℕ) → page ≤ last_number change.pages → get nat_cmp pages page ≡ None
  pub left : (page : ℕ) → last_number change.pages < page → get nat_cmp pages page ≡ frame_within contents commit first n page
