-- A run: files of a log that stand one behind another, given to a follower as one.
use Rattle.std.specs.Prelude.{◌≡◌, ◌≢◌, ◌⊎◌, ℕ, ◌+◌, ◌-◌, ◌≤◌, Bool, IsTrue, List, length, take, drop, get_or}
use Rattle.lf_base.specs.declared.pos.Pos.{Pos}
use Rattle.ltx_codec.specs.Format.{IsFile, file_encoding, no_meaning}
use Rattle.ltx_codec.specs.declared.file.Ltx.{Ltx}
use Rattle.ltx_compact.specs.Compaction.{Compacts}
use Rattle.ltx_compact.specs.Joining.{AllJoin}
use Rattle.txn_log.specs.declared.entry.Entry.{Entry}
use Rattle.txn_log.specs.Giving.{IsEncodingAt}

-- so many files of a log from a place on
abbrev pub files_at : List Ltx → ℕ → ℕ → List Ltx
files_at log first count = take count (drop first log)

-- the bytes are the encoding of the one file that files become which join one another
pub record IsEncodingOfAll (files : List Ltx) (ltx : List ℕ) : Type 0 where
  pub file : Ltx
  pub join : AllJoin files
  pub compacts : Compacts files file
  pub valid : IsFile file
  pub encoding : ltx ≡ file_encoding file no_meaning

-- A RUN from a place of a log on: as one, two files or more, of which the first is no snapshot, and behind which the log's last 64
-- stand; and the position to which the last of them leads
pub record IsRun (entries : List Entry) (first : ℕ) (honest : Bool) (log : List Ltx) (ltx : List ℕ) (to : Pos) : Type 0 where
  pub count : ℕ
  pub several : 2 ≤ count
  pub at_most : count ≤ 256
  pub before_last : first + count + 64 ≤ length entries
  pub later : (d : Entry) → (get_or entries first d).min ≢ 1
  pub leads : (d : Entry) → to ≡ (get_or entries (first + count - 1) d).post
  pub encoding : IsTrue honest → IsEncodingOfAll (files_at log first count) ltx

-- the one file at a place of a log, and the position to which it leads
pub record IsOne (entries : List Entry) (first : ℕ) (honest : Bool) (log : List Ltx) (ltx : List ℕ) (to : Pos) : Type 0 where
  pub leads : (d : Entry) → to ≡ (get_or entries first d).post
  pub encoding : IsTrue honest → IsEncodingAt log first ltx

-- what comes next at a place of a log: the one file there, or a run from it on
abbrev pub IsNext : List Entry → ℕ → Bool → List Ltx → List ℕ → Pos → Type 0
IsNext entries first honest log ltx to = IsOne entries first honest log ltx to ⊎ IsRun entries first honest log ltx to
