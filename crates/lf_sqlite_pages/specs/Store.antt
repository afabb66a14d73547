-- What a read of a page store tells, where the store tells its image.
use Rattle.std.specs.Prelude.{◌≡◌, ℕ, Option, Some, IfSome, List}
use Rattle.lf_sqlite_pages.specs.Image.{DatabaseImage, page_at}

-- the bytes are those of page n, where the image is told
abbrev pub TellsPage : Option DatabaseImage → ℕ → List ℕ → Type 0
TellsPage image n bytes = IfSome image (λ i. page_at i n ≡ Some bytes)
