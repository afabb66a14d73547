-- What stands in a folder.
use Rattle.std.specs.Prelude.{List, map}
use Rattle.lf_disk.specs.declared.listing.Numbers.{Numbers}
use Rattle.lf_disk.specs.Folder.{Folder}
use Rattle.lf_disk.specs.Listing as listing
use Rattle.txn_log.specs.declared.entry.Entry.{Entry}

-- the numbers in the name of an entry's file
abbrev pub numbers_of : Entry → Numbers
numbers_of e = record { min = e.min; max = e.max }

-- the transaction files of the folder, in order, each once
abbrev pub AreListed : List Entry → Folder → Type 0
AreListed entries f = listing.AreListed (map numbers_of entries) f
