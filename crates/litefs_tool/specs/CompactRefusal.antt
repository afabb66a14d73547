-- The names of the faults of an input of `compact`, for standard error.
use Rattle.std.specs.Prelude.{ℕ, List, codes}
use Rattle.ltx_codec.specs.declared.fault.LtxFault.{LtxFault}
use Rattle.ltx_codec.specs.declared.fault.LtxFault.TheVariants as ltx
use Rattle.ltx_compact.specs.declared.fault.CompactFault.{CompactFault}
use Rattle.ltx_compact.specs.declared.fault.CompactFault.TheVariants as list
use Rattle.ltx_codec.specs.Faults.{name_of}
use Rattle.litefs_tool.specs.declared.compact_refusal.CompactRefusal.{CompactRefusal}
use Rattle.litefs_tool.specs.declared.compact_refusal.CompactRefusal.TheVariants as refusal

-- the refusal of bytes that are no LTX file
abbrev pub of_ltx : LtxFault → CompactRefusal
of_ltx ltx.NoMemory = refusal.NoMemory
of_ltx broken = refusal.Ltx broken

-- the refusal of files that do not join
abbrev pub of_list : CompactFault → CompactRefusal
of_list list.NoMemory = refusal.NoMemory
of_list why = refusal.List why

-- the name of a refusal, without what was found
abbrev pub compact_refusal_name : CompactRefusal → List ℕ
compact_refusal_name (refusal.Ltx broken) = name_of broken
compact_refusal_name (refusal.List list.Empty) = codes "Empty"
compact_refusal_name (refusal.List (list.Gap at)) = codes "Gap"
compact_refusal_name (refusal.List (list.SumGap at want got)) = codes "SumGap"
compact_refusal_name (refusal.List (list.PageSize at)) = codes "PageSize"
compact_refusal_name (refusal.List list.NoMemory) = codes "NoMemory"
compact_refusal_name (refusal.SumDiffers want got) = codes "SumDiffers"
compact_refusal_name refusal.NoMemory = codes "NoMemory"
