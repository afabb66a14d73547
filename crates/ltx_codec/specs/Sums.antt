-- The sums of databases: of the pages of a change, and of an image.
use Rattle.std.specs.Prelude.{ℕ, max, List, length, map, unwrap_or, bit_xor}
use Rattle.std.specs.List.{range_with_len}
use Rattle.std.specs.Option.{option_map}
use Rattle.page_checksum.specs.Sums.{flagged, joined, page_sum_of}
use Rattle.lf_sqlite_pages.specs.Image.{DatabaseImage}
use Rattle.lf_sqlite_pages.specs.Writes.{data_page_at, data_writes}
use Rattle.lf_sqlite_pages.specs.declared.page_write.PageWrite.{PageWrite}

-- the sums of pages, each with its number, taken together by XOR
abbrev pub joined_sums : List PageWrite → ℕ
joined_sums writes = joined (map (λ w. page_sum_of w.number w.bytes) writes)

-- the sum of a database of these pages, each with its number
abbrev pub sum_of_writes : List PageWrite → ℕ
sum_of_writes writes = flagged (joined_sums writes)

-- the sum of an image: that of its data pages
abbrev pub image_sum : DatabaseImage → ℕ
image_sum image = sum_of_writes (data_writes image)

-- the sum of page n of an image: 0 for the lock page, and where there is no page
abbrev pub page_sum_at : DatabaseImage → ℕ → ℕ
page_sum_at image n = unwrap_or (option_map (page_sum_of n) (data_page_at image n)) 0

-- the sums of the pages of an image, in order
abbrev pub sum_table : DatabaseImage → List ℕ
sum_table image = map (page_sum_at image) (range_with_len 1 (length image.pages))

-- what lies between the sums of two images: at each number the sum of the old page and that of the new
abbrev pub sum_between : DatabaseImage → DatabaseImage → ℕ
sum_between old new =
    joined (map (λ n. bit_xor (page_sum_at old n) (page_sum_at new n)) (range_with_len 1 (max (length old.pages) (length new.pages))))
