-- Pages that stand side by side, on their way into the database file.
use Rattle.std.specs.Prelude.{◌≡◌, ◌⊎◌, ℕ, ◌+◌, ◌-◌, ◌*◌, ◌≤◌, List}
use Rattle.lf_base.specs.FileBytes.{written}
use Rattle.lf_disk.specs.Folder.{bytes_of}
use Rattle.lf_disk.specs.Change.{Edit}
use Rattle.lf_sqlite_pages.specs.Change.{PageChange}
use Rattle.txn_log.specs.Pages.{IsLeft}

-- the pages that a change leaves as they are lie outside these n bytes
abbrev pub LeavesOut : PageChange → ℕ → ℕ → Type 0
LeavesOut change at n = (m : ℕ) → 1 ≤ m → IsLeft change m → (m * change.page_size ≤ at) ⊎ (at + n ≤ (m - 1) * change.page_size)

-- a file with these bytes written over it, if there are any
abbrev pub Gets : ℕ → List ℕ → Edit
Gets at bytes old new = bytes_of new ≡ written at bytes (bytes_of old)
