-- The pages of a database file.
use Rattle.std.specs.Prelude.{◌≡◌, ℕ, ◌*◌, ◌++◌, List, length, Option, Some, Result, Ok, Err}
use Rattle.std.specs.Io.KnownBytes.{Appends}
use Rattle.page_checksum.specs.Crc.{after_bytes}
use Rattle.lf_disk.specs.declared.name.FileName.TheVariants.{Database}
use Rattle.lf_disk.specs.Folder.{Folder, bytes_of}
use Rattle.lf_sqlite_pages.specs.Image.{DatabaseImage, page_at}
use Rattle.ltx_codec.specs.Format.{page_encoding}
use Rattle.snapshot.specs.Output.{AppendsPrefix}

-- the database file of a folder is so many pages of a size
abbrev pub HasPages : ℕ → ℕ → Folder → Type 0
HasPages size commit f = length (bytes_of (f Database)) ≡ commit * size

-- page n of an image was written behind its number, or after a fault a prefix of that; and the checksum's register after it
abbrev pub WritesPage : {E : Type 0} → DatabaseImage → ℕ → ℕ → Option (List ℕ) → Option (List ℕ) → Result ℕ E → Type 0
WritesPage image n register taken taken_now (Ok after) =
    (page : List ℕ) × (page_at image n ≡ Some page) × Appends taken taken_now (page_encoding n page) × (after ≡ after_bytes register (page_encoding n page))
WritesPage image n register taken taken_now (Err fault) = (page : List ℕ) × (page_at image n ≡ Some page) × AppendsPrefix taken taken_now (page_encoding n page)
