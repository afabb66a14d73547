-- Where bytes break a rule of the LTX file. A rule of a field is broken at the field's last byte, counted from 1,
-- and bytes that end too soon are short after their last byte. Of one field's rules at most one is broken.
use Rattle.std.specs.Prelude.{◌≡◌, ◌≢◌, ℕ, zero, suc, ◌+◌, ◌*◌, ◌%◌, ◌^◌, ◌<◌, ◌≤◌, ◌⊎◌, List, take, drop, length, map}
use Rattle.std.specs.List.{range_with_len}
use Rattle.lf_sqlite_pages.specs.PageSize.{IsPageSize}
use Rattle.lf_sqlite_pages.specs.LockPage.{IsWithinLimit}
use Rattle.lf_sqlite_pages.specs.declared.page_write.PageWrite.{PageWrite}
use Rattle.ltx_codec.specs.Fields.{stated_flags, stated_page_size, stated_commit, stated_min, stated_max, stated_pre, header_in}
use Rattle.ltx_codec.specs.Format.{magic, file_sum}
use Rattle.ltx_codec.specs.Sums.{sum_of_writes}
use Rattle.ltx_codec.specs.Numbering.{BreaksNumbering}
use Rattle.ltx_codec.specs.declared.header.Header.{Header}
use Rattle.ltx_codec.specs.declared.fault.LtxFault.{LtxFault}
use Rattle.ltx_codec.specs.declared.fault.LtxFault.TheVariants as fault
use Rattle.lf_base.specs.Endian.{be32_at, be64_at}

-- where the k-th page number of the block stands, counted from 0
abbrev pub number_place : List ℕ → ℕ → ℕ
number_place bytes k = 100 + k * (4 + stated_page_size bytes)

-- the k-th page number of the block
abbrev pub number_at : List ℕ → ℕ → ℕ
number_at bytes k = be32_at (number_place bytes k) bytes

-- the page number before the k-th, 0 before the first
abbrev pub number_before : List ℕ → ℕ → ℕ
number_before bytes zero = 0
number_before bytes (suc k) = number_at bytes k

-- the page after the k-th number
abbrev pub page_in : List ℕ → ℕ → List ℕ
page_in bytes k = take (stated_page_size bytes) (drop (number_place bytes k + 4) bytes)

-- the block has at least k pages: none of the first k numbers is 0
abbrev pub HasPages : List ℕ → ℕ → Type 0
HasPages bytes k = (j : ℕ) → j < k → number_at bytes j ≢ 0

-- the block has k pages and ends
pub record HasBlock (bytes : List ℕ) (k : ℕ) : Type 0 where
  pub pages : HasPages bytes k
  pub ends : number_at bytes k ≡ 0
  pub there : number_place bytes k + 4 ≤ length bytes

-- the k-th page of the block, with its number, and the first k of them
abbrev pub write_in : List ℕ → ℕ → PageWrite
write_in bytes k = record { number = number_at bytes k; bytes = page_in bytes k }

abbrev pub writes_in : List ℕ → ℕ → List PageWrite
writes_in bytes k = map (write_in bytes) (range_with_len 0 k)

-- the k-th page number breaks this rule of page numbers
abbrev pub BreaksAt : List ℕ → ℕ → LtxFault → Type 0
BreaksAt bytes k broken = BreaksNumbering (header_in bytes) (number_before bytes k) (number_at bytes k) broken

-- the sum after the transactions is not flagged, not that of no pages, or in a snapshot not that of its pages
abbrev pub IsWrongPost : Header → (pages_sum post : ℕ) → Type 0
IsWrongPost header pages_sum post = (post < 2 ^ 63)
    ⊎ (header.commit ≡ 0) × (post ≢ 2 ^ 63)
    ⊎ (header.min ≡ 1) × (post ≢ pages_sum)

-- a sum behind the first k pages is wrong
abbrev pub IsWrongSum : List ℕ → ℕ → ℕ → Type 0
IsWrongSum bytes k sum = IsWrongPost (header_in bytes) (sum_of_writes (writes_in bytes k)) sum

-- the bytes break this rule at this place
abbrev pub Breaks : List ℕ → LtxFault → ℕ → Type 0
Breaks bytes fault.Magic place = (place ≡ 4) × (take 4 bytes ≢ magic)
Breaks bytes fault.Compressed place = (place ≡ 8) × (stated_flags bytes % 2 ≡ 1)
Breaks bytes fault.UnknownFlags place = (place ≡ 8) × (stated_flags bytes % 2 ≡ 0) × (stated_flags bytes ≢ 0)
Breaks bytes fault.PageSize place = (place ≡ 12) × (IsPageSize (stated_page_size bytes) → ⊥)
Breaks bytes fault.Commit place = (place ≡ 16) × (IsWithinLimit (stated_page_size bytes) (stated_commit bytes) → ⊥)
Breaks bytes fault.Txid place = (place ≡ 24) × (stated_min bytes ≡ 0) ⊎ (place ≡ 32) × (stated_max bytes < stated_min bytes)
Breaks bytes fault.PreSum place = (place ≡ 48)
    × ((stated_min bytes ≡ 1) × (stated_pre bytes ≢ 0) ⊎ (stated_min bytes ≢ 1) × (stated_pre bytes < 2 ^ 63))
Breaks bytes fault.PageOrder place = (k : ℕ) × HasPages bytes k × (place ≡ number_place bytes k + 4) × BreaksAt bytes k fault.PageOrder
Breaks bytes fault.PageRange place = (k : ℕ) × HasPages bytes k × (place ≡ number_place bytes k + 4) × BreaksAt bytes k fault.PageRange
Breaks bytes fault.NotWhole place = (k : ℕ) × HasPages bytes k × (place ≡ number_place bytes k + 4) × BreaksAt bytes k fault.NotWhole
Breaks bytes fault.PostSum place = (k : ℕ) × HasBlock bytes k × (place ≡ number_place bytes k + 12) × IsWrongSum bytes k (be64_at (number_place bytes k + 4) bytes)
Breaks bytes (fault.FileSum want got) place = (k : ℕ) × HasBlock bytes k × (place ≡ number_place bytes k + 20)
    × (want ≡ file_sum (take (number_place bytes k + 12) bytes)) × (got ≡ be64_at (number_place bytes k + 12) bytes) × (want ≢ got)
Breaks bytes fault.Tail place = (k : ℕ) × HasBlock bytes k × (place ≡ number_place bytes k + 21)
Breaks bytes fault.Short place = (place ≡ length bytes + 1) × ((k : ℕ) → HasBlock bytes k → length bytes < number_place bytes k + 20)
Breaks bytes fault.NoMemory place = ⊥

-- the last place where a rule may be broken: the last byte that is there, and after it for what is missing
abbrev pub last_place : List ℕ → LtxFault → ℕ
last_place bytes fault.Short = length bytes + 1
last_place bytes _ = length bytes

-- the bytes break a rule at a place that is there
pub record IsBroken (bytes : List ℕ) (fault : LtxFault) (place : ℕ) : Type 0 where
  pub breaks : Breaks bytes fault place
  pub there : place ≤ last_place bytes fault

-- no rule is broken before a place
abbrev pub IsSoundBefore : List ℕ → ℕ → Type 0
IsSoundBefore bytes place = (fault : LtxFault) (other : ℕ) → IsBroken bytes fault other → place ≤ other

-- the fault that stands earliest in the bytes
pub record IsEarliest (bytes : List ℕ) (fault : LtxFault) : Type 0 where
  pub place : ℕ
  pub broken : IsBroken bytes fault place
  pub earliest : IsSoundBefore bytes place

-- why bytes were refused: memory ran out, or the fault stands earliest
abbrev pub IsRefused : List ℕ → LtxFault → Type 0
IsRefused bytes f = (f ≡ fault.NoMemory) ⊎ IsEarliest bytes f

-- the fault stands inside the file, and not behind it
abbrev pub StandsInside : LtxFault → Type 0
StandsInside fault.Tail = ⊥
StandsInside _ = Unit {0}

-- a rule of the format is broken by bytes that are there, inside the file
abbrev pub IsFound : LtxFault → Type 0
IsFound fault.Short = ⊥
IsFound fault.Tail = ⊥
IsFound fault.NoMemory = ⊥
IsFound _ = Unit {0}
