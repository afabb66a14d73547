-- What a change makes of an image.
use Rattle.std.specs.Prelude.{◌≡◌, ℕ, ◌==◌, List, [], ◌⊎◌, map, replicate, unwrap_or, if◌then◌else◌}
use Rattle.std.specs.List.{range_with_len}
use Rattle.lf_sqlite_pages.specs.LockPage.{lock_page_of}
use Rattle.lf_sqlite_pages.specs.Change.{PageChange, HoldsEveryPage, written}
use Rattle.lf_sqlite_pages.specs.Image.{DatabaseImage, page_at}

-- page n afterwards: zeros for the lock page; else the change's, else the old one where there was one, else zeros
abbrev pub page_after : DatabaseImage → PageChange → ℕ → List ℕ
page_after image change n =
    if n == lock_page_of change.page_size then replicate change.page_size 0
    else unwrap_or (written change.pages n) (unwrap_or (page_at image n) (replicate change.page_size 0))

-- the image after a change: its pages from 1 to commit
abbrev pub apply : DatabaseImage → PageChange → DatabaseImage
apply image change =
    record { page_size = change.page_size; pages = map (page_after image change) (range_with_len 1 change.commit) }

-- a change fits an image of its page size, an image without pages, and any image of which it writes every data page
abbrev pub Fits : DatabaseImage → PageChange → Type 0
Fits image change = (image.page_size ≡ change.page_size) ⊎ (image.pages ≡ []) ⊎ HoldsEveryPage change
