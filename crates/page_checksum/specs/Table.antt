-- A table of page sums, with room for more.
use Rattle.std.specs.Prelude.{ℕ, ◌≡◌, ◌+◌, ◌-◌, ◌≤◌, List, [], ◌++◌, length, take, replicate, max, slice_set, slice_index}
use Rattle.page_checksum.specs.Sums.{joined as joined_sums}

-- the sum of each page, from page 1 on, and how many more have room
pub record PageSums : Type 0 where
  pub sums : List ℕ
  pub spare : ℕ

-- no sums, and no room
abbrev pub no_sums : PageSums
no_sums = record { sums = []; spare = 0 }

-- room for at least a count more
abbrev pub with_room : PageSums → ℕ → PageSums
with_room table count = record { sums = table.sums; spare = max table.spare count }

-- the sums of so many pages: what is new is 0, and the room is used or given back
abbrev pub with_pages : PageSums → ℕ → PageSums
with_pages table count = record {
  sums = take count table.sums ++ replicate (count - length table.sums) 0;
  spare = length table.sums + table.spare - count;
}

-- the sum of page n is this
abbrev pub with_sum : PageSums → ℕ → ℕ → PageSums
with_sum table n sum = record { sums = slice_set table.sums (n - 1) sum; spare = table.spare }

-- the sum of page n, 0 past the last page
abbrev pub sum_at : PageSums → ℕ → ℕ
sum_at table n = slice_index table.sums (n - 1)

-- the vector has room for the sums that are told
pub record HasRoom (count room capacity : ℕ) : Type 0 where
  pub holds : count ≤ room
  pub there : room ≤ capacity

-- there is room for the sums that are told, and all of them taken together are kept beside them
pub record IsTable (sums : List ℕ) (room capacity joined : ℕ) : Type 0 where
  pub fits : HasRoom (length sums) room capacity
  pub kept : joined ≡ joined_sums sums
