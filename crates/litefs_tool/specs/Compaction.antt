-- What compacting the LTX files in some bytes comes to.
use Rattle.std.specs.Prelude.{◌≡◌, ◌≢◌, ℕ, ◌<◌, ◌⊎◌, List, [], ◌∷◌, ◌++◌, length, Result, Ok, Err}
use Rattle.ltx_codec.specs.Format.{IsLtx, file_encoding, no_meaning}
use Rattle.ltx_codec.specs.Sums.{sum_of_writes}
use Rattle.ltx_codec.specs.Places.{IsEarliest, StandsInside}
use Rattle.ltx_codec.specs.declared.fault.LtxFault.{LtxFault}
use Rattle.ltx_codec.specs.declared.file.Ltx.{Ltx}
use Rattle.ltx_compact.specs.Compaction.{Compacts}
use Rattle.ltx_compact.specs.Joining.{AllJoin, IsWhy}
use Rattle.ltx_compact.specs.Application.{DoesAsFiles}
use Rattle.ltx_compact.specs.declared.fault.CompactFault.TheVariants as list
use Rattle.litefs_tool.specs.declared.compact_refusal.CompactRefusal.{CompactRefusal}
use Rattle.litefs_tool.specs.declared.compact_refusal.CompactRefusal.TheVariants as refusal

-- the bytes are the encodings of files, one after another
abbrev pub AreEncodings : List ℕ → List Ltx → Type 0
AreEncodings bytes [] = bytes ≡ []
AreEncodings bytes (file ∷ files) = (encoding : List ℕ) × (rest : List ℕ) × (bytes ≡ encoding ++ rest) × IsLtx encoding file × AreEncodings rest files

-- behind the encodings of files the bytes go on, and no file stands there
pub record BreaksOff (bytes : List ℕ) (fault : LtxFault) : Type 0 where
  pub prefix : List ℕ
  pub rest : List ℕ
  pub files : List Ltx
  pub split : bytes ≡ prefix ++ rest
  pub encodings : AreEncodings prefix files
  pub more : 0 < length rest
  pub broken : IsEarliest rest fault
  pub inside : StandsInside fault

-- the files in the bytes join, and become this one
pub record Become (bytes : List ℕ) (file : Ltx) : Type 0 where
  pub files : List Ltx
  pub encodings : AreEncodings bytes files
  pub joined : AllJoin files
  pub one : Compacts files file
  pub does : DoesAsFiles files file.change

-- the file is a snapshot that says another sum than that of its pages
pub record SaysOtherSum (file : Ltx) (want got : ℕ) : Type 0 where
  pub snapshot : file.header.min ≡ 1
  pub want_is : want ≡ file.post
  pub got_is : got ≡ sum_of_writes file.change.pages
  pub differ : want ≢ got

-- why the files in the bytes do not become one
abbrev pub RefusesToCompact : List ℕ → CompactRefusal → Type 0
RefusesToCompact bytes (refusal.Ltx fault) = BreaksOff bytes fault
RefusesToCompact bytes (refusal.List list.NoMemory) = ⊥
RefusesToCompact bytes (refusal.List why) = (files : List Ltx) × AreEncodings bytes files × IsWhy files why
RefusesToCompact bytes (refusal.SumDiffers want got) = (file : Ltx) × Become bytes file × SaysOtherSum file want got
RefusesToCompact bytes refusal.NoMemory = ⊥

-- the same, or want of memory in its place
abbrev pub MayRefuse : List ℕ → CompactRefusal → Type 0
MayRefuse bytes why = (why ≡ refusal.NoMemory) ⊎ RefusesToCompact bytes why

-- the bytes written are the one encoding of the file that the files in the bytes read become
pub record BecomesEncoding (bytes out : List ℕ) : Type 0 where
  pub file : Ltx
  pub become : Become bytes file
  pub encoding : out ≡ file_encoding file no_meaning
  pub is_file : IsLtx out file

-- what compacting the files in the bytes comes to, where memory lasts
abbrev pub CompactsTo : List ℕ → Result (List ℕ) CompactRefusal → Type 0
CompactsTo bytes (Ok out) = BecomesEncoding bytes out
CompactsTo bytes (Err why) = RefusesToCompact bytes why
