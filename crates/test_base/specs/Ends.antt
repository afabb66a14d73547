-- How a session ended, in a word.
use Rattle.std.specs.Prelude.{ℕ, List, codes}
use Rattle.lf_base.specs.declared.session_end.SessionEnd.{SessionEnd}
use Rattle.lf_base.specs.declared.session_end.SessionEnd.TheVariants as end

-- an end by its name
abbrev pub end_name : SessionEnd → List ℕ
end_name end.Closed = codes "Closed"
end_name end.ReadFault = codes "ReadFault"
end_name end.WriteFault = codes "WriteFault"
end_name end.BadMessage = codes "BadMessage"
end_name end.Turns = codes "Turns"
end_name end.Worn = codes "Worn"
end_name end.NoMemory = codes "NoMemory"
