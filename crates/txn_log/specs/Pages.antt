-- A database image in the bytes of a file.
use Rattle.std.specs.Prelude.{◌≡◌, ℕ, ◌-◌, ◌*◌, ◌≤◌, ◌==◌, List, length, take, drop, replicate, fold, None, if◌then◌else◌}
use Rattle.lf_base.specs.FileBytes.{overwritten}
use Rattle.lf_disk.specs.Folder.{bytes_of}
use Rattle.lf_disk.specs.Change.{Edit, Stands}
use Rattle.lf_sqlite_pages.specs.LockPage.{lock_page_of}
use Rattle.lf_sqlite_pages.specs.Change.{PageChange, written}
use Rattle.lf_sqlite_pages.specs.declared.page_write.PageWrite.{PageWrite}

-- the bytes at the place of page n
abbrev pub in_place : ℕ → ℕ → List ℕ → List ℕ
in_place size n bytes = take size (drop ((n - 1) * size) bytes)

-- page n of a database whose pages lie one after another in these bytes: zeros for the lock page, whatever lies there
abbrev pub page_in : ℕ → List ℕ → ℕ → List ℕ
page_in size bytes n = if n == lock_page_of size then replicate size 0 else in_place size n bytes

-- the page is whole in the bytes, and is the same in others
pub record SamePage (size n : ℕ) (old new : List ℕ) : Type 0 where
  pub long : n * size ≤ length new
  pub same : in_place size n new ≡ in_place size n old

-- pages of these numbers that are whole stay
abbrev pub KeepsPages : ℕ → (ℕ → Type 0) → List ℕ → List ℕ → Type 0
KeepsPages size kept old new = (n : ℕ) → 1 ≤ n → kept n → n * size ≤ length old → SamePage size n old new

-- the pages that a change leaves as they are
abbrev pub IsLeft : PageChange → ℕ → Type 0
IsLeft change n = (n ≤ change.commit) × (written change.pages n ≡ None)

-- the bytes with these pages written over them
abbrev pub patched : ℕ → List ℕ → List PageWrite → List ℕ
patched size bytes pages = fold (λ b w. overwritten ((w.number - 1) * size) w.bytes b) bytes pages

-- a file with these pages written over it
abbrev pub Patches : ℕ → List PageWrite → Edit
Patches size pages old new = bytes_of new ≡ patched size (bytes_of old) pages

-- a file of which the pages that the change writes may be anything, and all others stay
abbrev pub Wears : PageChange → Edit
Wears change = Stands (KeepsPages change.page_size (IsLeft change))
