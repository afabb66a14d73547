-- Where the log of a folder is damaged: of these reasons the first, in the first file that has one.
use Rattle.std.specs.Prelude.{◌≡◌, ◌≢◌, ◌⊎◌, ℕ, ◌+◌, ◌<◌, min, List, length, take, fold, get_or, Option, None, Some}
use Rattle.std.specs.Option.{option_map}
use Rattle.lf_base.specs.declared.pos.Pos.{Pos}
use Rattle.lf_disk.specs.declared.name.FileName.{FileName}
use Rattle.lf_disk.specs.declared.name.FileName.TheVariants.{Ltx as LtxName}
use Rattle.lf_disk.specs.Folder.{Folder, bytes_of}
use Rattle.ltx_codec.specs.Faults.{number_of}
use Rattle.ltx_codec.specs.Fields.{AreBytes}
use Rattle.ltx_codec.specs.Places.{IsEarliest}
use Rattle.ltx_codec.specs.Positions.{before, after}
use Rattle.ltx_codec.specs.declared.fault.LtxFault.{LtxFault}
use Rattle.ltx_codec.specs.declared.header.Header.{Header}
use Rattle.ltx_codec.specs.declared.file.Ltx.{Ltx}
use Rattle.txn_log.specs.declared.entry.Entry.{Entry}
use Rattle.txn_log.specs.Kept.{LogFile, file_of}
use Rattle.txn_log.specs.Durable.{IsEncoding, IsLog}
use Rattle.txn_log.specs.Store.{files_in}
use Rattle.node_recovery.specs.declared.outline.Outline.{Outline}
use Rattle.node_recovery.specs.Outline.{outline_of, position_before}

-- The encoding, of bytes, is that of no file: 0, and the number of the fault that stands earliest in it.
pub record IsUnread (encoding : List ℕ) (want got : ℕ) : Type 0 where
  pub octets : AreBytes encoding
  pub fault : LtxFault
  pub earliest : IsEarliest encoding fault
  pub want_is : want ≡ 0
  pub got_is : got ≡ number_of fault

-- The header has other numbers than the name: the two minimums, or the two maximums where the minimums agree.
abbrev pub IsMisnamed : Entry → Header → ℕ → ℕ → Type 0
IsMisnamed name header want got =
    (want ≡ name.min) × (got ≡ header.min) × (want ≢ got)
    ⊎ (name.min ≡ header.min) × (want ≡ name.max) × (got ≡ header.max) × (want ≢ got)

-- the number after a transaction, which the last number of a u64 has not
abbrev pub number_after : ℕ → ℕ
number_after txid = min (txid + 1) 18446744073709551615

-- The file does not follow a position: the number after it and the file's minimum, or the two sums where the numbers follow.
abbrev pub IsApart : Pos → Outline → ℕ → ℕ → Type 0
IsApart position file want got =
    ((position_before file).txid ≢ position.txid) × (want ≡ number_after position.txid) × (got ≡ file.header.min)
    ⊎ ((position_before file).txid ≡ position.txid) × (want ≡ position.sum) × (got ≡ file.header.pre) × (want ≢ got)

-- the file has the numbers of its name, and follows the position before it, where there is one
pub record IsNext (name : Entry) (position : Option Pos) (file : Ltx) : Type 0 where
  pub min : file.header.min ≡ name.min
  pub max : file.header.max ≡ name.max
  pub follows : (p : Pos) → position ≡ Some p → before file ≡ p

-- the last of some files, and the position behind it
abbrev pub last_file : List LogFile → Option Ltx
last_file files = fold (λ _ file. Some (file_of file.encoding)) None files

abbrev pub position_behind : List LogFile → Option Pos
position_behind files = option_map after (last_file files)

-- why the file under a name is refused behind a position
abbrev pub IsRefusedBehind : Entry → Option Pos → List ℕ → ℕ → ℕ → Type 0
IsRefusedBehind name position encoding want got =
    IsUnread encoding want got
    ⊎ IsEncoding encoding × (IsMisnamed name (file_of encoding).header want got
    ⊎ (name.min ≡ (file_of encoding).header.min) × (name.max ≡ (file_of encoding).header.max) × (p : Pos) × (position ≡ Some p) × IsApart p (outline_of (file_of encoding)) want got)

-- the first file that is refused: those before it are a log
pub record IsFirstRefused (names : List Entry) (f : Folder) (file : FileName) (want got : ℕ) : Type 0 where
  pub index : ℕ
  pub within : index < length names
  pub before : IsLog (take index (files_in names f))
  pub name : (d : Entry) → file ≡ LtxName (get_or names index d).min (get_or names index d).max
  pub why : (d : Entry) →
      IsRefusedBehind (get_or names index d) (position_behind (take index (files_in names f))) (bytes_of (f (LtxName (get_or names index d).min (get_or names index d).max))) want got
