-- The lock page: the page that contains byte 0x40000000. SQLite takes its locks there and stores nothing in it
-- (SQLite file format, section 1.2, The Lock-Byte Page). Every other page is a data page.
use Rattle.std.specs.Prelude.{◌≢◌, ℕ, ◌+◌, ◌-◌, ◌*◌, ◌/◌, ◌≤◌, ◌==◌, Bool, nat_lt, if◌then◌else◌}

-- the number of the lock page
unfoldable pub lock_page_of : ℕ → ℕ
lock_page_of page_size = 1073741824 / page_size + 1

-- a page of this number holds data
abbrev pub IsDataPage : ℕ → ℕ → Type 0
IsDataPage page_size n = n ≢ lock_page_of page_size

-- the first data page after a page number
abbrev pub data_page_after : ℕ → ℕ → ℕ
data_page_after page_size n = if n + 1 == lock_page_of page_size then n + 2 else n + 1

-- how many of the pages from 1 to a number are data pages
abbrev pub data_pages_to : ℕ → ℕ → ℕ
data_pages_to page_size n = if nat_lt n (lock_page_of page_size) then n else n - 1

-- the limit of a database: an LTX file of all its pages has at most 2^31 bytes
abbrev pub IsWithinLimit : ℕ → ℕ → Type 0
IsWithinLimit page_size commit = commit * (page_size + 4) + 120 ≤ 2147483648

-- whether a database is past the limit
abbrev pub is_past_limit : ℕ → ℕ → Bool
is_past_limit page_size commit = nat_lt 2147483648 (commit * (page_size + 4) + 120)
