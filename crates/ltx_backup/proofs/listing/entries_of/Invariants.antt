use Rattle.std.proofs.Common.{◌≡◌, map, take}
use Rattle.ltx_backup.specs.Entries.{numbers_of}
use Rattle.ltx_backup.proofs.listing.entries_of.Given as goal

abbrev pub invariant-loop-name : goal.invariant-loop-name
invariant-loop-name l = map numbers_of l.entries.items ≡ take l.name-index l.names
