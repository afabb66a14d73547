-- Where the frames of each page stand.
use Rattle.std.specs.Prelude.{◌≡◌, ℕ, ◌<◌, ◌≤◌, Option, List, nat_eq, slice_index_or, vec_len}
use Rattle.std.specs.HashMap.{get}
use Rattle.wal_watch.specs.Frames.{number_in, committed_count}
use Rattle.wal_watch.specs.News.{latest_frame, HoldsAt}
use Rattle.wal_watch.specs.declared.index.FrameIndex.{FrameIndex}

-- how many frames an index has
abbrev pub indexed : FrameIndex → ℕ
indexed index = vec_len index.earlier

-- of the first frames of the contents of a log an index has for each page the latest, and for each frame the one before it of the same page
pub record IsIndex (contents : List ℕ) (index : FrameIndex) : Type 0 where
  pub of_page : (page : ℕ) → get nat_eq index.latest page ≡ latest_frame contents page 0 (indexed index)
  pub of_frame : (k : ℕ) (d : Option ℕ) → k < indexed index → slice_index_or index.earlier.items k d ≡ latest_frame contents (number_in contents k) 0 k

-- the first frames of the contents of a log are committed, and they are of the same pages in another, where they are committed too
pub record AreShared (old new : List ℕ) (n : ℕ) : Type 0 where
  pub among : n ≤ committed_count old
  pub there : n ≤ committed_count new
  pub same : (k : ℕ) → k < n → number_in new k ≡ number_in old k

-- of the first frames those that hold a page with these bytes are below some frame, and next is the latest there that holds the page
pub record AreLeft (contents : List ℕ) (count number : ℕ) (page : List ℕ) (next : Option ℕ) : Type 0 where
  pub below : ℕ
  pub among : below ≤ count
  pub next_is : next ≡ latest_frame contents number 0 below
  pub rest : (k : ℕ) → HoldsAt contents count number page k → k < below
