-- Bytes in blocks of 4,096, one block after another. A block that isn't kept has no bytes here, and reads as zeros.
use Rattle.std.specs.Prelude.{◌≡◌, ◌≢◌, ℕ, ◌+◌, ◌-◌, ◌*◌, ◌/◌, ◌%◌, ◌<◌, ◌≤◌, ◌==◌, ◌⊎◌, Bool, not, List, [], ◌++◌, length, take, drop, replicate, map, slice_index, slice_index_or, count_by}
use Rattle.std.specs.List.{range_with_len}

-- how many bytes a block has
abbrev pub block_size : ℕ
block_size = 4096

-- a block is kept whole or not at all
abbrev pub IsBlock : List ℕ → Type 0
IsBlock block = (block ≡ []) ⊎ (length block ≡ block_size)

-- a block of zeros
pub record IsBlank (block : List ℕ) : Type 0 where
  pub whole : length block ≡ block_size
  pub zeros : (k : ℕ) → slice_index block k ≡ 0

-- bytes with a piece in place of those that lie at a place
abbrev pub replaced : ℕ → List ℕ → List ℕ → List ℕ
replaced within piece block = take within block ++ piece ++ drop (within + length piece) block

-- bytes with zeros in place of those from a place on
abbrev pub cleared_from : ℕ → List ℕ → List ℕ
cleared_from within block = take within block ++ replicate (length block - within) 0

-- block n, or no bytes
abbrev pub block_at : List (List ℕ) → ℕ → List ℕ
block_at blocks n = slice_index_or blocks n []

-- byte i
abbrev pub byte_in : List (List ℕ) → ℕ → ℕ
byte_in blocks i = slice_index (block_at blocks (i / 4096)) (i % 4096)

-- the first bytes, so many
unfoldable pub bytes_in : ℕ → List (List ℕ) → List ℕ
bytes_in len blocks = map (byte_in blocks) (range_with_len 0 len)

-- how many blocks the first bytes touch, so many
abbrev pub blocks_in : ℕ → ℕ
blocks_in len = (len + 4095) / 4096

-- a block is kept where it has bytes
abbrev pub is_kept : List ℕ → Bool
is_kept block = not (length block == 0)

-- how many blocks are kept
unfoldable pub kept_in : List (List ℕ) → ℕ
kept_in blocks = count_by is_kept blocks

-- block n is kept
abbrev pub IsWhole : List (List ℕ) → ℕ → Type 0
IsWhole blocks n = length (block_at blocks n) ≡ block_size

-- each block that the bytes of a range touch is kept
abbrev pub AreKept : List (List ℕ) → ℕ → ℕ → Type 0
AreKept blocks from to = from < to → (n : ℕ) → from / 4096 ≤ n → n * 4096 < to → IsWhole blocks n

-- the bytes of a range are others, and no block is kept or lost
pub record IsPut (old : List (List ℕ)) (from to : ℕ) (bytes : List ℕ) (new : List (List ℕ)) : Type 0 where
  pub before : (i : ℕ) → i < from → byte_in new i ≡ byte_in old i
  pub within : (i : ℕ) → from ≤ i → i < to → byte_in new i ≡ slice_index bytes (i - from)
  pub behind : (i : ℕ) → to ≤ i → byte_in new i ≡ byte_in old i
  pub sizes : (n : ℕ) → length (block_at new n) ≡ length (block_at old n)

-- a buffer with the first bytes from a place on, so many
pub record IsRead (blocks : List (List ℕ)) (at count : ℕ) (old new : List ℕ) : Type 0 where
  pub read : (k : ℕ) → k < count → slice_index new k ≡ byte_in blocks (at + k)
  pub rest : (k : ℕ) → count ≤ k → slice_index new k ≡ slice_index old k

-- each byte of a piece is the one that a function tells
abbrev pub HoldsAll : List ℕ → (ℕ → ℕ) → Type 0
HoldsAll piece byte = (k : ℕ) → k < length piece → byte k ≡ slice_index piece k

-- block n is kept, or a blank one lies ready for it
abbrev pub IsReady : List (List ℕ) → ℕ → List (List ℕ) → ℕ → Type 0
IsReady blocks first ready n = IsWhole blocks n ⊎ IsBlank (block_at ready (n - first))

-- a ready block lies for each number that the bytes of a range touch, unless that block is kept
abbrev pub AreReady : List (List ℕ) → ℕ → List (List ℕ) → ℕ → ℕ → Type 0
AreReady blocks first ready from to = from < to → (n : ℕ) → from / 4096 ≤ n → n * 4096 < to → IsReady blocks first ready n

-- blocks were taken from the ready ones; no byte is another
pub record IsFilled (old : List (List ℕ)) (first : ℕ) (ready : List (List ℕ)) (from to : ℕ) (new : List (List ℕ)) (left : List (List ℕ)) : Type 0 where
  pub bytes : (i : ℕ) → byte_in new i ≡ byte_in old i
  pub kept : (n : ℕ) → from ≤ n → n < to → IsWhole new n
  pub still_ready : (n : ℕ) → first ≤ n → IsReady old first ready n → IsReady new first left n
  pub count : kept_in new ≤ kept_in old + (to - from)

-- a block was given back for a number
pub record IsGivenBack (old : List (List ℕ)) (place : ℕ) (block : List ℕ) (new : List (List ℕ)) : Type 0 where
  pub blank : IsBlank (block_at old place) → IsBlank (block_at new place)
  pub whole : place < length old → length block ≡ block_size → IsBlank (block_at new place)
  pub others : (k : ℕ) → k ≢ place → block_at new k ≡ block_at old k

-- the bytes from a place on, so many, were saved
pub record IsSaved (blocks : List (List ℕ)) (at count : ℕ) (saved : List ℕ) : Type 0 where
  pub size : length saved ≡ count
  pub each : (k : ℕ) → k < count → slice_index saved k ≡ byte_in blocks (at + k)

-- the blocks from a number on were given up, those that have a place among the ready ones back to it
pub record IsReleased (old : List (List ℕ)) (first : ℕ) (ready : List (List ℕ)) (count : ℕ) (new : List (List ℕ)) (left : List (List ℕ)) : Type 0 where
  pub blocks : new ≡ take count old
  pub still_ready : (n : ℕ) → first ≤ n → n - first < length ready → IsReady old first ready n → IsReady new first left n

-- no block lies behind the first bytes, so many, and what lies behind them in the last is zeros
pub record IsTable (blocks : List (List ℕ)) (len : ℕ) : Type 0 where
  pub within : length blocks ≤ blocks_in len
  pub zeros : (i : ℕ) → len ≤ i → byte_in blocks i ≡ 0

-- the bytes were cut to a length; those of the room keep their blocks
pub record IsCut (old : List (List ℕ)) (first : ℕ) (ready : List (List ℕ)) (len : ℕ) (new : List (List ℕ)) (left : List (List ℕ)) : Type 0 where
  pub table : IsTable new len
  pub bytes : (i : ℕ) → i < len → byte_in new i ≡ byte_in old i
  pub still_ready : (n : ℕ) → first ≤ n → n - first < length ready → IsReady old first ready n → IsReady new first left n
  pub count : kept_in new ≤ kept_in old
