-- What a write of pages and a change of size make of the database as the file reads.
use Rattle.std.specs.Prelude.{◌≡◌, ℕ, ◌+◌, ◌-◌, ◌*◌, ◌/◌, ◌<◌, ◌≤◌, ◌^◌, ◌&&◌, max, nat_le, nat_lt, List, length, map, replicate, take, drop, unwrap_or, if◌then◌else◌}
use Rattle.std.specs.List.{range_with_len}
use Rattle.lf_sqlite_pages.specs.PageSize.{IsPageSize}
use Rattle.lf_sqlite_pages.specs.LockPage.{IsDataPage}
use Rattle.lf_sqlite_pages.specs.Image.{DatabaseImage, page_at}
use Rattle.database_file.specs.DatabaseFile.{DatabaseFile, size_over, count_over}

-- page n of an image, or zeros of a size where it has none
abbrev pub page_or_zeros : DatabaseImage → ℕ → ℕ → List ℕ
page_or_zeros image size n = unwrap_or (page_at image n) (replicate size 0)

-- an image of a page size, cut to a number of pages or grown to it with zeros
abbrev pub sized : DatabaseImage → ℕ → ℕ → DatabaseImage
sized image size count = record { page_size = size; pages = map (page_or_zeros image size) (range_with_len 1 count) }

-- page k of some bytes that are whole pages, counted from 0
abbrev pub page_in : List ℕ → ℕ → ℕ → List ℕ
page_in bytes size k = take size (drop (k * size) bytes)

-- page n once whole pages were written from a page on: the written one, else the old one, else zeros
abbrev pub page_written : DatabaseImage → ℕ → ℕ → List ℕ → ℕ → List ℕ
page_written image size first bytes n =
    if nat_le first n && nat_lt n (first + length bytes / size) then page_in bytes size (n - first) else page_or_zeros image size n

-- the image after that; it reaches the last page written, and a gap holds zeros
abbrev pub with_pages : DatabaseImage → ℕ → ℕ → List ℕ → DatabaseImage
with_pages image size first bytes = record {
  page_size = size;
  pages = map (page_written image size first bytes) (range_with_len 1 (max (length image.pages) (first + length bytes / size - 1)));
}

-- bytes that are whole data pages from a page on
pub record AreDataPages (size from : ℕ) (bytes : List ℕ) : Type 0 where
  pub some : 1 ≤ length bytes / size
  pub whole : length bytes ≡ length bytes / size * size
  pub first : 1 ≤ from
  pub numbered : from + length bytes / size < 2 ^ 32
  pub data_pages : (n : ℕ) → from ≤ n → n < from + length bytes / size → IsDataPage size n

-- the file takes pages of this size: a page size, and that of the image and of the file where they have pages
pub record TakesPages (file : DatabaseFile) (page_size commit size : ℕ) : Type 0 where
  pub sqlite : IsPageSize size
  pub of_the_image : 0 < commit → size ≡ page_size
  pub of_the_file : 0 < count_over file commit → size ≡ size_over file page_size commit
