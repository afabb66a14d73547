-- What a decoder saw in a piece, as a part of the file.
use Rattle.std.specs.Prelude.{ℕ, Bool, true, false}
use Rattle.ltx_codec.specs.declared.seen.Seen.{Seen}
use Rattle.ltx_codec.specs.declared.seen.Seen.TheVariants as seen
use Rattle.node_recovery.specs.declared.part.Part.{Part}
use Rattle.node_recovery.specs.declared.part.Part.TheVariants as part

-- how many bytes of a piece of this length it took
abbrev pub used_in : Seen → ℕ → ℕ
used_in seen.More len = len
used_in (seen.Header used) len = used
used_in (seen.Page used number) len = used
used_in (seen.Whole used) len = used

-- whether the file is whole
abbrev pub ends_file : Seen → Bool
ends_file (seen.Whole used) = true
ends_file seen.More = false
ends_file (seen.Header used) = false
ends_file (seen.Page used number) = false

-- the part that ended
abbrev pub part_of : Seen → Part
part_of (seen.Header used) = part.Header
part_of (seen.Page used number) = part.Page number
part_of seen.More = part.More
part_of (seen.Whole used) = part.More
