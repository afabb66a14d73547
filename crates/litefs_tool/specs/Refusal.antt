-- The names of the faults of an input, for standard error.
use Rattle.std.specs.Prelude.{ℕ, List, codes}
use Rattle.ltx_codec.specs.Faults.{name_of}
use Rattle.ltx_codec.specs.declared.fault.LtxFault.{LtxFault}
use Rattle.ltx_codec.specs.declared.fault.LtxFault.TheVariants as fault
use Rattle.litefs_tool.specs.declared.refusal.Refusal.{Refusal}
use Rattle.litefs_tool.specs.declared.refusal.Refusal.TheVariants as refusal

-- the refusal of bytes that are no LTX file
abbrev pub refusal_of : LtxFault → Refusal
refusal_of fault.NoMemory = refusal.NoMemory
refusal_of broken = refusal.Ltx broken

-- the name of a refusal, without what was found
abbrev pub refusal_name : Refusal → List ℕ
refusal_name (refusal.Ltx broken) = name_of broken
refusal_name (refusal.NotNext have want) = codes "NotNext"
refusal_name refusal.PageSize = codes "PageSize"
refusal_name (refusal.SumDiffers want got) = codes "SumDiffers"
refusal_name refusal.NoMemory = codes "NoMemory"
