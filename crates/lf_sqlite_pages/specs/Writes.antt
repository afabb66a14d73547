-- Pages to write, told by what is written at each number.
use Rattle.std.specs.Prelude.{ℕ, ◌==◌, Option, None, List, length, filter_map, if◌then◌else◌}
use Rattle.std.specs.Option.{option_map}
use Rattle.std.specs.List.{range_with_len}
use Rattle.lf_sqlite_pages.specs.LockPage.{lock_page_of}
use Rattle.lf_sqlite_pages.specs.Image.{DatabaseImage, page_at}
use Rattle.lf_sqlite_pages.specs.declared.page_write.PageWrite.{PageWrite}

-- the write of a page, if there are bytes to write there
abbrev pub write_at : (ℕ → Option (List ℕ)) → ℕ → Option PageWrite
write_at page n = option_map (λ bytes. record { number = n; bytes = bytes }) (page n)

-- what is written at the numbers from 1 to a count, in ascending order
unfoldable pub writes_of : (ℕ → Option (List ℕ)) → ℕ → List PageWrite
writes_of page count = filter_map (write_at page) (range_with_len 1 count)

-- page n of an image, where it is a data page
abbrev pub data_page_at : DatabaseImage → ℕ → Option (List ℕ)
data_page_at image n = if n == lock_page_of image.page_size then None else page_at image n

-- all pages of an image with their numbers, and its data pages with theirs
abbrev pub all_writes : DatabaseImage → List PageWrite
all_writes image = writes_of (page_at image) (length image.pages)

abbrev pub data_writes : DatabaseImage → List PageWrite
data_writes image = writes_of (data_page_at image) (length image.pages)
