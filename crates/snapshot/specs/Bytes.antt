-- The bytes of a database, as a file that SQLite wrote.
use Rattle.std.specs.Prelude.{◌≡◌, ◌⊎◌, ℕ, ◌/◌, ◌%◌, ◌≤◌, Bool, true, false, IsSome, List, length, map, unwrap_or, Result, Ok, Err}
use Rattle.std.specs.List.{range_with_len}
use Rattle.lf_base.specs.Faults.{Rose}
use Rattle.lf_sqlite_pages.specs.Header.{page_size_of}
use Rattle.lf_sqlite_pages.specs.Image.{DatabaseImage}
use Rattle.lf_sqlite_pages.specs.LockPage.{IsWithinLimit}
use Rattle.txn_log.specs.Pages.{page_in}
use Rattle.snapshot.specs.declared.fault.ImportFault.{ImportFault}
use Rattle.snapshot.specs.declared.fault.ImportFault.TheVariants as import

-- the size of pages that the first page states, and how many there are
abbrev pub size_in : List ℕ → ℕ
size_in bytes = unwrap_or (page_size_of bytes) 0

abbrev pub count_in : List ℕ → ℕ
count_in bytes = length bytes / size_in bytes

-- the bytes of a database: at least one page, and a whole number of pages of the size that their own first page states
pub record AreDatabase (bytes : List ℕ) : Type 0 where
  pub sized : IsSome (page_size_of bytes)
  pub some : size_in bytes ≤ length bytes
  pub whole : length bytes % size_in bytes ≡ 0

-- the image of bytes: their pages of a size, with zeros for the lock page
abbrev pub image_of_pages : ℕ → ℕ → List ℕ → DatabaseImage
image_of_pages size count bytes = record { page_size = size; pages = map (page_in size bytes) (range_with_len 1 count) }

abbrev pub image_of_bytes : List ℕ → DatabaseImage
image_of_bytes bytes = image_of_pages (size_in bytes) (count_in bytes) bytes

-- a database of these pages is within the limit
abbrev pub BytesFit : List ℕ → Type 0
BytesFit bytes = IsWithinLimit (size_in bytes) (count_in bytes)

-- why an import is refused, in this order
abbrev pub ImportsWith : {T : Type 0} → List ℕ → Bool → ℕ → ℕ → Result T ImportFault → Type 0
ImportsWith bytes broken before now (Ok told) = AreDatabase bytes × BytesFit bytes × (broken ≡ false) × (now ≡ before)
ImportsWith bytes broken before now (Err import.NotDatabase) = (AreDatabase bytes → ⊥) × (now ≡ before)
ImportsWith bytes broken before now (Err import.Limit) = AreDatabase bytes × (BytesFit bytes → ⊥) × (now ≡ before)
ImportsWith bytes broken before now (Err (import.Store failed)) = AreDatabase bytes × BytesFit bytes
    × (((broken ≡ true) × (now ≡ before)) ⊎ ((broken ≡ false) × Rose before now))
ImportsWith bytes broken before now (Err import.NoMemory) = AreDatabase bytes × BytesFit bytes × (broken ≡ false) × (now ≡ before)

-- the same once the bytes were judged
abbrev pub ComparesWith : {T : Type 0} → ℕ → ℕ → Result T ImportFault → Type 0
ComparesWith before now (Ok told) = now ≡ before
ComparesWith before now (Err (import.Store failed)) = Rose before now
ComparesWith before now (Err import.NoMemory) = now ≡ before
ComparesWith before now (Err why) = ⊥
