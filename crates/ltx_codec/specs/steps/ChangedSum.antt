-- The steps in which the code finds the sum of an image after a change. No public clause cites them.
use Rattle.std.specs.Prelude.{ℕ, ◌==◌, List, map, replicate, unwrap_or, bit_xor, if◌then◌else◌}
use Rattle.std.specs.List.{range_with_len}
use Rattle.page_checksum.specs.Sums.{page_sum_of, joined}
use Rattle.lf_sqlite_pages.specs.LockPage.{lock_page_of}
use Rattle.lf_sqlite_pages.specs.Image.{DatabaseImage, page_at}
use Rattle.lf_sqlite_pages.specs.declared.page_write.PageWrite.{PageWrite}

-- the sums of some numbers from one on, taken together
abbrev pub joined_over : (ℕ → ℕ) → ℕ → ℕ → ℕ
joined_over sum first count = joined (map sum (range_with_len first count))

-- the sum of page n of an image, or of a page of zeros where there is none; 0 for the lock page of this page size
abbrev pub standing_sum : DatabaseImage → ℕ → ℕ → ℕ
standing_sum image size n = if n == lock_page_of size then 0 else page_sum_of n (unwrap_or (page_at image n) (replicate size 0))

-- the sums of the pages that are written over and of those written, taken together
abbrev pub rewriting_sum : DatabaseImage → ℕ → List PageWrite → ℕ
rewriting_sum image size writes = joined (map (λ w. bit_xor (standing_sum image size w.number) (page_sum_of w.number w.bytes)) writes)
