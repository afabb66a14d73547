-- LTX files gathered as their bytes come.
use Rattle.std.specs.Prelude.{◌≡◌, ℕ, List, [], ◌++◌, All}
use Rattle.ltx_codec.specs.Format.{IsFile, IsLtx}
use Rattle.ltx_codec.specs.Reading.{HasBegun}
use Rattle.ltx_codec.specs.declared.file.Ltx.{Ltx}
use Rattle.litefs_tool.specs.Compaction.{AreEncodings, BreaksOff}
use Rattle.litefs_tool.specs.declared.gathering.Gathered.{Gathered}
use Rattle.litefs_tool.specs.declared.gathering.Gathering.{Gathering}
use Rattle.litefs_tool.specs.declared.gathering.Gathering.TheVariants.{Sound, Broken}

-- the bytes are the encodings of these files, and then of a file that is begun
pub record HaveEncodings (files : List Ltx) (unfinished bytes : List ℕ) : Type 0 where
  pub prefix : List ℕ
  pub split : bytes ≡ prefix ++ unfinished
  pub encodings : AreEncodings prefix files
  pub valid : All IsFile files

-- the files whole in these bytes were gathered, and the file that is begun was read
pub record HasGathered (gathered : Gathered) (bytes : List ℕ) : Type 0 where
  pub unfinished : List ℕ
  pub begun : HasBegun gathered.reader unfinished
  pub have : HaveEncodings gathered.files.items unfinished bytes

-- behind these bytes a part ends the file that was begun
pub record EndsOneMore (gathered : Gathered) (bytes part : List ℕ) (file : Ltx) : Type 0 where
  pub unfinished : List ℕ
  pub begun : HasBegun gathered.reader []
  pub have : HaveEncodings gathered.files.items unfinished bytes
  pub whole : IsLtx (unfinished ++ part) file

-- these bytes were consumed; a fault stands whatever follows them
abbrev pub IsGathering : Gathering → List ℕ → Type 0
IsGathering (Sound gathered) bytes = HasGathered gathered bytes
IsGathering (Broken fault) bytes = (tail : List ℕ) → BreaksOff (bytes ++ tail) fault
