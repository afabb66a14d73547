use Rattle.std.proofs.Common.{drop}
use Rattle.lf_disk.proofs.Listings.{Among}
use Rattle.lf_disk.proofs.listing.numbers_among.Given as goal

abbrev pub invariant-loop-name : goal.invariant-loop-name
invariant-loop-name l = Among l.names (drop l.name-index l.names) l.found.items
