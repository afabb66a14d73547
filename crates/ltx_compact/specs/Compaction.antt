-- What one file holds that stands for a list of LTX files.
use Rattle.std.specs.Prelude.{◌≡◌, ℕ, ◌-◌, ◌≤◌, ◌==◌, Option, Some, None, List, length, replicate, fold, nat_lt, if◌then◌else◌, slice_get}
use Rattle.std.specs.Option.{option_or}
use Rattle.lf_sqlite_pages.specs.LockPage.{lock_page_of, IsDataPage}
use Rattle.lf_sqlite_pages.specs.Writes.{writes_of}
use Rattle.lf_sqlite_pages.specs.Change.{PageChange, written}
use Rattle.lf_sqlite_pages.specs.declared.page_write.PageWrite.{PageWrite}
use Rattle.ltx_codec.specs.Sums.{sum_of_writes}
use Rattle.ltx_codec.specs.Format.{IsHeader, IsBlock, IsPostSum}
use Rattle.ltx_codec.specs.declared.header.Header.{Header}
use Rattle.ltx_codec.specs.declared.file.Ltx.{Ltx}

-- What becomes of page n by a file: it is cut off where the database ends before it, and would come back as zeros;
-- else it is what the file writes there, or as before.
abbrev pub page_past : ℕ → Option (List ℕ) → Ltx → Option (List ℕ)
page_past n before file =
    if nat_lt file.change.commit n then Some (replicate file.change.page_size 0) else option_or (written file.change.pages n) before

-- page n by a list of files, nothing where none of them writes it or cuts it off
unfoldable pub page_of : List Ltx → ℕ → Option (List ℕ)
page_of files n = fold (page_past n) None files

-- the same of data pages alone, for files of a page size
abbrev pub data_page_of : ℕ → List Ltx → ℕ → Option (List ℕ)
data_page_of size files n = if n == lock_page_of size then None else page_of files n

-- the data pages up to a number that the files leave, in order
abbrev pub pages_of : ℕ → List Ltx → ℕ → List PageWrite
pages_of size files count = writes_of (data_page_of size files) count

-- the header: the first file's beginning, the last file's end, and no place in a WAL
abbrev pub header_of : Ltx → Ltx → Header
header_of first last = record {
  page_size = last.header.page_size;
  commit = last.header.commit;
  min = first.header.min;
  max = last.header.max;
  stamp = last.header.stamp;
  pre = first.header.pre;
  wal_offset = 0;
  wal_size = 0;
  wal_salt1 = 0;
  wal_salt2 = 0;
  node = last.header.node;
}

-- the change: to the last file's number of pages, with what all files leave of the data pages
abbrev pub change_of : List Ltx → Ltx → PageChange
change_of files last = record {
  page_size = last.header.page_size;
  commit = last.header.commit;
  pages = pages_of last.header.page_size files last.header.commit;
}

-- the file that a list of files becomes
pub record Compacts (files : List Ltx) (file : Ltx) : Type 0 where
  pub first : Ltx
  pub last : Ltx
  pub is_first : slice_get files 0 ≡ Some first
  pub is_last : slice_get files (length files - 1) ≡ Some last
  pub header : file.header ≡ header_of first last
  pub change : file.change ≡ change_of files last
  pub post : file.post ≡ last.post

-- each data page up to the change's number of pages is what the files leave there
abbrev pub HoldsWhatIsLeft : List Ltx → PageChange → Type 0
HoldsWhatIsLeft files change =
    (n : ℕ) → 1 ≤ n → n ≤ change.commit → IsDataPage change.page_size n → written change.pages n ≡ page_of files n

-- in a snapshot the sum is that of its pages
abbrev pub HasSnapshotSum : Ltx → Type 0
HasSnapshotSum file = file.header.min ≡ 1 → file.post ≡ sum_of_writes file.change.pages

-- A file, but that a snapshot may say another sum than that of its pages: of what encoding asks, the rules of the
-- header and of the page block are met, and those of the sum where a snapshot says the sum of its pages.
pub record IsFileButSum (file : Ltx) : Type 0 where
  pub header : IsHeader file.header
  pub block : IsBlock file.header file.change
  pub post : HasSnapshotSum file → IsPostSum file.header file.change file.post
