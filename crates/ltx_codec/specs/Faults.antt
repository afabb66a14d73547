-- The numbers and the names of the faults, as the format's description lists them.
use Rattle.std.specs.Prelude.{ℕ, List, codes}
use Rattle.ltx_codec.specs.declared.fault.LtxFault.{LtxFault}
use Rattle.ltx_codec.specs.declared.fault.LtxFault.TheVariants as fault

abbrev pub number_of : LtxFault → ℕ
number_of fault.Short = 1
number_of fault.Magic = 2
number_of fault.Compressed = 3
number_of fault.UnknownFlags = 4
number_of fault.PageSize = 5
number_of fault.Txid = 6
number_of fault.Commit = 7
number_of fault.PreSum = 8
number_of fault.PageOrder = 9
number_of fault.PageRange = 10
number_of fault.NotWhole = 11
number_of fault.PostSum = 12
number_of (fault.FileSum want got) = 13
number_of fault.Tail = 14
number_of fault.NoMemory = 15

abbrev pub name_of : LtxFault → List ℕ
name_of fault.Short = codes "Short"
name_of fault.Magic = codes "Magic"
name_of fault.Compressed = codes "Compressed"
name_of fault.UnknownFlags = codes "UnknownFlags"
name_of fault.PageSize = codes "PageSize"
name_of fault.Txid = codes "Txid"
name_of fault.Commit = codes "Commit"
name_of fault.PreSum = codes "PreSum"
name_of fault.PageOrder = codes "PageOrder"
name_of fault.PageRange = codes "PageRange"
name_of fault.NotWhole = codes "NotWhole"
name_of fault.PostSum = codes "PostSum"
name_of (fault.FileSum want got) = codes "FileSum"
name_of fault.Tail = codes "Tail"
name_of fault.NoMemory = codes "NoMemory"
