-- The database file: pages kept over those of a committed image.
use Rattle.std.specs.Prelude.{◌≡◌, ◌≢◌, ℕ, ◌==◌, ◌<◌, ◌≤◌, ◌&&◌, Bool, Option, Some, None, is_none, List, length, map, fold, replicate, take, drop, unwrap_or, if◌then◌else◌, refl}
use Rattle.std.specs.List.{range_with_len}
use Rattle.std.specs.Ordering.{nat_cmp}
use Rattle.std.specs.FinMap as pages
use Rattle.std.specs.Coded.{Coded, code_by, coded×, coded_ℕ, coded_list, coded_option}
use Rattle.lf_sqlite_pages.specs.PageSize.{IsPageSize}
use Rattle.lf_sqlite_pages.specs.LockPage.{IsDataPage}
use Rattle.lf_sqlite_pages.specs.Image.{DatabaseImage, page_at}

-- the pages that differ from the committed image, their size, and the number of pages where that isn't the image's
pub record DatabaseFile : Type 0 where
  pub kept : pages.FinMap nat_cmp (List ℕ)
  pub page_size : ℕ
  pub count : Option ℕ

-- it is stored as its three parts
abbrev pub database_code : Coded DatabaseFile
database_code =
    code_by (pages.FinMap nat_cmp (List ℕ) × (ℕ × Option ℕ)) (coded× (pages.code coded_ℕ (coded_list coded_ℕ)) (coded× coded_ℕ (coded_option coded_ℕ)))
    (λ d. (d.kept, (d.page_size, d.count))) (λ p. record { kept = p.0; page_size = p.1.0; count = p.1.1 }) (λ _. refl)

-- a file that keeps nothing
abbrev pub new_file : DatabaseFile
new_file = record { kept = pages.empty; page_size = 0; count = None }

-- the file without what it keeps: it is the committed image, whatever that is
abbrev pub clean : DatabaseFile → DatabaseFile
clean file = record { kept = pages.empty; page_size = file.page_size; count = None }

-- the file without what it keeps of some pages
abbrev pub without_pages : DatabaseFile → List ℕ → DatabaseFile
without_pages file numbers = record file { kept = fold (λ m n. pages.remove m n) file.kept numbers }

-- whether it keeps nothing
abbrev pub is_clean : DatabaseFile → Bool
is_clean file = (pages.len file.kept == 0) && is_none file.count

-- the size of its pages over an image of a page size and a number of pages: the image's, where that has pages
abbrev pub size_over : DatabaseFile → ℕ → ℕ → ℕ
size_over file page_size commit = if commit == 0 then file.page_size else page_size

-- its number of pages over an image of a number of pages
abbrev pub count_over : DatabaseFile → ℕ → ℕ
count_over file commit = unwrap_or file.count commit

-- what the file reads as over an image: the size of its pages, page n, and all of it
abbrev pub size_of : DatabaseFile → DatabaseImage → ℕ
size_of file image = size_over file image.page_size (length image.pages)

abbrev pub count_of : DatabaseFile → DatabaseImage → ℕ
count_of file image = count_over file (length image.pages)

abbrev pub page_of : DatabaseFile → DatabaseImage → ℕ → List ℕ
page_of file image n = unwrap_or (pages.get file.kept n) (unwrap_or (page_at image n) (replicate (size_of file image) 0))

abbrev pub as_read : DatabaseFile → DatabaseImage → DatabaseImage
as_read file image = record { page_size = size_of file image; pages = map (page_of file image) (range_with_len 1 (count_of file image)) }

-- what is kept fits an image of a page size and a number of pages: whole data pages within the file, and another count
pub record FitsShape (file : DatabaseFile) (page_size commit : ℕ) : Type 0 where
  pub sized : 0 < count_over file commit → IsPageSize (size_over file page_size commit)
  pub whole : (n : ℕ) (page : List ℕ) → pages.get file.kept n ≡ Some page → length page ≡ size_over file page_size commit
  pub within : (n : ℕ) (page : List ℕ) → pages.get file.kept n ≡ Some page → (1 ≤ n) × (n ≤ count_over file commit)
  pub data_pages : (n : ℕ) (page : List ℕ) → pages.get file.kept n ≡ Some page → IsDataPage (size_over file page_size commit) n
  pub count : file.count ≢ Some commit

-- each page that is kept is another than the image's
pub record KeepsDifferences (file : DatabaseFile) (image : DatabaseImage) : Type 0 where
  pub pages : (n : ℕ) (page : List ℕ) → pages.get file.kept n ≡ Some page → page_at image n ≢ Some page

-- the file keeps nothing, so it fits each shape of an image and keeps no page that an image has
pub record KeepsNothing (file : DatabaseFile) : Type 0 where
  pub fits : (page_size commit : ℕ) → (0 < commit → IsPageSize page_size) → FitsShape file page_size commit
  pub differs : (image : DatabaseImage) → KeepsDifferences file image

-- as many bytes from a place on as there are, at most so many
abbrev pub bytes_from : List ℕ → ℕ → ℕ → List ℕ
bytes_from bytes at size = take size (drop at bytes)
