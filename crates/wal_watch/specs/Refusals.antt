-- Why a write or a cut is refused.
use Rattle.std.specs.Prelude.{◌≡◌, ◌≢◌, ℕ, ◌+◌, ◌<◌, ◌≤◌, ◌⊎◌, true, false, List, length, take}
use Rattle.wal_watch.specs.Frames.{is_header, page_size_in, committed_count, committed_end}
use Rattle.lf_base.specs.FileBytes.{written, resized}
use Rattle.wal_watch.specs.declared.fault.WalFault.{WalFault}
use Rattle.wal_watch.specs.declared.fault.WalFault.TheVariants.{TooLong, Header, Part, NoMemory}

-- the greatest length of the file in bytes
abbrev pub wal_limit : ℕ
wal_limit = 268435456

-- the write touches the first 32 bytes
abbrev pub TouchesHeader : ℕ → List ℕ → Type 0
TouchesHeader at bytes = (at < 32) × (0 < length bytes)

-- a write touches the header and leaves no valid one, or it leaves one of another page size; size 0 stands for any
abbrev pub BreaksHeader : ℕ → ℕ → List ℕ → List ℕ → Type 0
BreaksHeader page_size at bytes new =
    TouchesHeader at bytes × (is_header new ≡ false)
    ⊎ (page_size ≢ 0) × (is_header new ≡ true) × (page_size_in new ≢ page_size)

-- under the same header a byte of a committed frame is another
abbrev pub ChangesCommitted : List ℕ → List ℕ → Type 0
ChangesCommitted old new =
    (take 32 new ≡ take 32 old) × (take (committed_end old) new ≢ take (committed_end old) old)

-- under the same header the bytes of the committed frames stay
abbrev pub KeepsCommitted : List ℕ → List ℕ → Type 0
KeepsCommitted old new = take 32 new ≡ take 32 old → take (committed_end old) new ≡ take (committed_end old) old

-- nothing stands against a write
pub record IsSoundWrite (old : List ℕ) (page_size at : ℕ) (bytes : List ℕ) : Type 0 where
  pub short : at + length bytes ≤ wal_limit
  pub header : BreaksHeader page_size at bytes (written at bytes old) → ⊥
  pub part : ChangesCommitted old (written at bytes old) → ⊥

-- why a write is refused: the first of these that holds
abbrev pub IsWriteFault : List ℕ → ℕ → ℕ → List ℕ → WalFault → Type 0
IsWriteFault old page_size at bytes TooLong = wal_limit < at + length bytes
IsWriteFault old page_size at bytes Header = (at + length bytes ≤ wal_limit) × BreaksHeader page_size at bytes (written at bytes old)
IsWriteFault old page_size at bytes Part = (at + length bytes ≤ wal_limit) × (BreaksHeader page_size at bytes (written at bytes old) → ⊥)
    × ChangesCommitted old (written at bytes old)
IsWriteFault old page_size at bytes NoMemory = IsSoundWrite old page_size at bytes

-- a cut goes below the committed end, other than to 0, or leaves more committed frames
abbrev pub CutsCommitted : List ℕ → ℕ → Type 0
CutsCommitted old len = (len ≢ 0) × (len < committed_end old) ⊎ (committed_count old < committed_count (resized len old))

-- nothing stands against a cut
pub record IsSoundCut (old : List ℕ) (len : ℕ) : Type 0 where
  pub short : len ≤ wal_limit
  pub part : CutsCommitted old len → ⊥

-- why a cut is refused: the first of these that holds. It takes no memory
abbrev pub IsCutFault : List ℕ → ℕ → WalFault → Type 0
IsCutFault old len TooLong = wal_limit < len
IsCutFault old len Header = ⊥
IsCutFault old len Part = (len ≤ wal_limit) × CutsCommitted old len
IsCutFault old len NoMemory = ⊥
