-- What a write commits: the frames that only the later contents commits.
use Rattle.std.specs.Prelude.{◌≡◌, ◌<◌, ℕ, suc, zero, ◌+◌, ◌-◌, ◌&&◌, ◌==◌, nat_le, nat_lt, Option, Some, None, List, [], ◌++◌, take, if◌then◌else◌, option_to_list}
use Rattle.std.specs.Option.{option_map}
use Rattle.std.specs.Str.{bytes_eq}
use Rattle.lf_sqlite_pages.specs.Change.{PageChange}
use Rattle.lf_sqlite_pages.specs.LockPage.{lock_page_of}
use Rattle.lf_sqlite_pages.specs.declared.page_write.PageWrite.{PageWrite}
use Rattle.wal_watch.specs.declared.news.WalNews.{WalNews}
use Rattle.wal_watch.specs.declared.news.WalNews.TheVariants.{Stored, Committed}
use Rattle.wal_watch.specs.Frames.{number_in, size_in, page_in, page_size_in, committed_count}

-- the latest of the frames from first on, among the first n, that holds this page
unfoldable pub latest_frame : List ℕ → ℕ → ℕ → ℕ → Option ℕ
latest_frame contents page first zero = None
latest_frame contents page first (suc k) =
    if nat_le first k && (number_in contents k == page) then Some k else latest_frame contents page first k

-- a page as frame k writes it
abbrev pub write_in : List ℕ → ℕ → ℕ → PageWrite
write_in contents page k = record { number = page; bytes = page_in contents k }

-- the frame that a change takes a page from: the latest that holds it; a change doesn't hold the lock page
abbrev pub change_frame : List ℕ → ℕ → ℕ → ℕ → Option ℕ
change_frame contents page first n = if page == lock_page_of (page_size_in contents) then None else latest_frame contents page first n

-- of each data page from 1 to a count the latest frame, in order, of the frames from first on among the first n
unfoldable pub latest_pages : List ℕ → ℕ → ℕ → ℕ → List PageWrite
latest_pages contents first n zero = []
latest_pages contents first n (suc page) =
    latest_pages contents first n page ++ option_to_list (option_map (write_in contents (page + 1)) (change_frame contents (page + 1) first n))

-- what a change writes at a page: what the frame holds that it takes the page from
abbrev pub changed_page : List ℕ → ℕ → ℕ → ℕ → Option (List ℕ)
changed_page contents first n page = option_map (page_in contents) (change_frame contents page first n)

-- the change that the frames from first to n make: within the size of the last commit, the latest of each data page
abbrev pub change_of : List ℕ → ℕ → ℕ → PageChange
change_of contents first n =
    record { page_size = page_size_in contents; commit = size_in contents (n - 1); pages = latest_pages contents first n (size_in contents (n - 1)) }

-- the first frame that only the later contents commits: all of its frames where the headers differ
unfoldable pub first_new : List ℕ → List ℕ → ℕ
first_new old new = if bytes_eq (take 32 new) (take 32 old) then committed_count old else 0

-- the change from one contents to another, if the committed frames grew
abbrev pub change_from : ℕ → List ℕ → Option PageChange
change_from first new = if nat_lt first (committed_count new) then Some (change_of new first (committed_count new)) else None

abbrev pub change_between : List ℕ → List ℕ → Option PageChange
change_between old new = change_from (first_new old new) new

-- what a write tells of the change
abbrev pub news_change : WalNews → Option PageChange
news_change Stored = None
news_change (Committed change) = Some change

-- frame k, one of the first ones, holds this page with these bytes
pub record HoldsAt (contents : List ℕ) (count page : ℕ) (bytes : List ℕ) (k : ℕ) : Type 0 where
  pub among : k < count
  pub number : number_in contents k ≡ page
  pub same : page_in contents k ≡ bytes

-- a committed frame holds this page with these bytes
abbrev pub HoldsFrame : List ℕ → ℕ → List ℕ → Type 0
HoldsFrame contents page bytes = (k : ℕ) × HoldsAt contents (committed_count contents) page bytes k

-- a committed frame states this database size
abbrev pub HasSize : List ℕ → ℕ → Type 0
HasSize contents pages = (k : ℕ) × (k < committed_count contents) × (size_in contents k ≡ pages)

-- the database size in pages after the last commit, 0 where there is none
abbrev pub last_size : List ℕ → ℕ
last_size contents = if committed_count contents == 0 then 0 else size_in contents (committed_count contents - 1)

-- the bytes of the latest committed frame of a page
abbrev pub latest_page : List ℕ → ℕ → Option (List ℕ)
latest_page contents page = option_map (page_in contents) (latest_frame contents page 0 (committed_count contents))

-- each committed frame of the contents of a log is that frame of another too
pub record IsSameFrame (old new : List ℕ) (k : ℕ) : Type 0 where
  pub number : number_in new k ≡ number_in old k
  pub size : size_in new k ≡ size_in old k
  pub page : page_in new k ≡ page_in old k

abbrev pub HasSameFrames : List ℕ → List ℕ → Type 0
HasSameFrames old new = (k : ℕ) → k < committed_count old → IsSameFrame old new k
