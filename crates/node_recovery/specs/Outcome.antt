-- What the parts of a recovery answer.
use Rattle.std.specs.Prelude.{◌≡◌, ℕ, Bool, true, Option, None, Some, List, [], Result, Ok, Err}
use Rattle.lf_base.specs.Faults.{Rose}
use Rattle.lf_base.specs.declared.pos.Pos.{Pos}
use Rattle.lf_disk.specs.declared.name.FileName.{FileName}
use Rattle.lf_disk.specs.declared.name.FileName.TheVariants.{Ltx as LtxName}
use Rattle.lf_disk.specs.Folder.{Folder}
use Rattle.ltx_codec.specs.declared.header.Header.{Header}
use Rattle.txn_log.specs.declared.entry.Entry.{Entry}
use Rattle.txn_log.specs.Kept.{file_of, encoded_change}
use Rattle.txn_log.specs.Store.{files_in, AreEntries}
use Rattle.node_recovery.specs.declared.judged.Log.{Log}
use Rattle.node_recovery.specs.declared.fault.RecoverFault.{RecoverFault}
use Rattle.node_recovery.specs.declared.fault.RecoverFault.TheVariants as fault
use Rattle.node_recovery.specs.declared.file_summary.FileSummary.{FileSummary}
use Rattle.node_recovery.specs.declared.outline.Outline.{Outline}
use Rattle.node_recovery.specs.Damage.{IsUnread, IsMisnamed, IsApart, IsNext, IsRefusedBehind, last_file, IsFirstRefused}
use Rattle.node_recovery.specs.Outline.{position_before, encoding_under, IsOutlineIn}
use Rattle.node_recovery.specs.Summing.{IsTallied}

-- only a disk that failed raises its count
abbrev pub HasCause : {T : Type 0} → ℕ → ℕ → Result T RecoverFault → Type 0
HasCause before now (Ok _) = now ≡ before
HasCause before now (Err fault.Disk) = Rose before now
HasCause before now (Err _) = now ≡ before

-- what a refusal says of a file: where it is damaged it is named, and this is why
abbrev pub Blames : FileName → (ℕ → ℕ → Type 0) → RecoverFault → Type 0
Blames name why (fault.Damaged file want got) = (file ≡ name) × why want got
Blames name why _ = Unit {0}

-- no file is damaged
abbrev pub IsBlameless : RecoverFault → Type 0
IsBlameless (fault.Damaged file want got) = ⊥
IsBlameless fault.Disk = Unit {0}
IsBlameless fault.NoMemory = Unit {0}

-- what reading a file gives: the outline of the file that its encoding is, with its pages' sums where they were asked for, or that it is none
abbrev pub ReadsFile : FileName → List ℕ → Bool → Result FileSummary RecoverFault → Type 0
ReadsFile name encoding pages (Ok read) = IsOutlineIn encoding read.outline × (pages ≡ true → IsTallied (encoded_change encoding) read.tally)
ReadsFile name encoding pages (Err why) = Blames name (IsUnread encoding) why

-- whether the header has other numbers than the name, and which
abbrev pub TellsMisnamed : Entry → Header → Option (ℕ × ℕ) → Type 0
TellsMisnamed name header None = (name.min ≡ header.min) × (name.max ≡ header.max)
TellsMisnamed name header (Some differ) = IsMisnamed name header differ.0 differ.1

-- whether the file does not follow a position, and where they differ
abbrev pub TellsApart : Pos → Outline → Option (ℕ × ℕ) → Type 0
TellsApart position file None = position_before file ≡ position
TellsApart position file (Some differ) = IsApart position file differ.0 differ.1

-- what judging the file under a name behind a position gives
abbrev pub Judges : Entry → Option Pos → List ℕ → Bool → Result FileSummary RecoverFault → Type 0
Judges name position encoding pages (Ok read) = ReadsFile (LtxName name.min name.max) encoding pages (Ok read) × IsNext name position (file_of encoding)
Judges name position encoding pages (Err why) = Blames (LtxName name.min name.max) (IsRefusedBehind name position encoding) why

-- the last of the files is the one under the numbers of this outline, and the sums are those of its pages
pub record IsLastRead (names : List Entry) (f : Folder) (last : FileSummary) : Type 0 where
  pub read : IsOutlineIn (encoding_under last.outline f) last.outline
  pub last_is : Some (file_of (encoding_under last.outline f)) ≡ last_file (files_in names f)
  pub tallied : IsTallied (encoded_change (encoding_under last.outline f)) last.tally

-- which file is the last of those under these names
abbrev pub TellsLast : List Entry → Folder → Option FileSummary → Type 0
TellsLast names f None = names ≡ []
TellsLast names f (Some read) = IsLastRead names f read

-- what judging the files under these names gives: their entries and the last of them, or the first that is refused
abbrev pub JudgesLog : List Entry → Folder → Result Log RecoverFault → Type 0
JudgesLog names f (Ok log) = AreEntries log.entries.items (files_in names f) × TellsLast names f log.last
JudgesLog names f (Err (fault.Damaged file want got)) = IsFirstRefused names f file want got
JudgesLog names f (Err why) = Unit {0}
