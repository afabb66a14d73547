-- Slots for pages: the first is that of page 1, and so on.
use Rattle.std.specs.Prelude.{◌≡◌, ℕ, ◌-◌, ◌≤◌, ◌==◌, Option, Some, None, List, length, slice_index_or, nat_lt, if◌then◌else◌}
use Rattle.std.specs.Option.{option_or, option_map}
use Rattle.lf_sqlite_pages.specs.LockPage.{lock_page_of}
use Rattle.lf_sqlite_pages.specs.Writes.{writes_of}
use Rattle.lf_sqlite_pages.specs.declared.page_write.PageWrite.{PageWrite}
use Rattle.ltx_codec.specs.declared.file.Ltx.{Ltx}
use Rattle.ltx_compact.specs.Compaction.{page_of}

-- a list of slots, some of them empty
abbrev pub Slots : Type 0
Slots = List (Option (List ℕ))

-- the page in the slot of page n
abbrev pub page_in : Slots → ℕ → Option (List ℕ)
page_in slots n = slice_index_or slots (n - 1) None

-- the empty slots are filled with the pages that there are, and the others stay
pub record AreFilled (before : Slots) (page : ℕ → Option (List ℕ)) (slots : Slots) : Type 0 where
  pub count : length slots ≡ length before
  pub pages : (n : ℕ) → 1 ≤ n → n ≤ length before → page_in slots n ≡ option_or (page_in before n) (page n)

-- zeros at the pages past commit, up to low
abbrev pub cut_page : ℕ → ℕ → List ℕ → ℕ → Option (List ℕ)
cut_page commit low zeros n = if nat_lt commit n then (if nat_lt low n then None else Some zeros) else None

-- the slots hold what files leave at each page up to commit
pub record HoldPages (files : List Ltx) (commit : ℕ) (slots : Slots) : Type 0 where
  pub count : length slots ≡ commit
  pub pages : (n : ℕ) → 1 ≤ n → n ≤ commit → page_in slots n ≡ page_of files n

-- page n as a page to write, where there is one
abbrev pub page_to_write : ℕ → Option (List ℕ) → Option PageWrite
page_to_write n page = option_map (λ bytes. record { number = n; bytes = bytes }) page

-- the page in the slot of page n, where it is a data page of this page size
abbrev pub data_page_in : ℕ → Slots → ℕ → Option (List ℕ)
data_page_in size slots n = if n == lock_page_of size then None else page_in slots n

-- the data pages up to a number that slots hold, in order
abbrev pub pages_in : ℕ → Slots → ℕ → List PageWrite
pages_in size slots count = writes_of (data_page_in size slots) count
