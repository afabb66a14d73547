-- A database image: whole pages of one size.
use Rattle.std.specs.Prelude.{◌≡◌, ℕ, ◌-◌, ◌<◌, ◌≤◌, ◌^◌, ◌==◌, Option, Some, None, List, [], length, All, replicate, slice_get, if◌then◌else◌}
use Rattle.std.specs.List.{concat}
use Rattle.lf_sqlite_pages.specs.PageSize.{IsPageSize}
use Rattle.lf_sqlite_pages.specs.LockPage.{lock_page_of}

-- a page size, and the pages in order from page 1
pub record DatabaseImage : Type 0 where
  pub page_size : ℕ
  pub pages : List (List ℕ)

-- page n of an image, counted from 1
abbrev pub page_at : DatabaseImage → ℕ → Option (List ℕ)
page_at image n = if n == 0 then None else slice_get image.pages (n - 1)

-- each page has the page size, which is one of SQLite's, or 0 where there are no pages; the lock page within an image is zeros
pub record IsImage (image : DatabaseImage) : Type 0 where
  pub sized : 0 < image.page_size → IsPageSize image.page_size
  pub of_a_page_size : 0 < length image.pages → IsPageSize image.page_size
  pub whole : All (λ page. length page ≡ image.page_size) image.pages
  pub blank : lock_page_of image.page_size ≤ length image.pages →
      page_at image (lock_page_of image.page_size) ≡ Some (replicate image.page_size 0)
  pub numbered : length image.pages < 2 ^ 32

-- the image of a database that was never written
abbrev pub empty_image : DatabaseImage
empty_image = record { page_size = 0; pages = [] }

-- the bytes of the database: its pages, one after another
abbrev pub image_bytes : DatabaseImage → List ℕ
image_bytes image = concat image.pages

-- two images are the same where their pages are; without pages the page size is of no account
abbrev pub SameImage : DatabaseImage → DatabaseImage → Type 0
SameImage one other = one.pages ≡ other.pages
