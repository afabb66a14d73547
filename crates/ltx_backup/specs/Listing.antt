-- Which transaction files stand in a folder.
use Rattle.std.specs.Prelude.{List, map}
use Rattle.lf_disk.specs.Folder.{Folder}
use Rattle.lf_disk.specs.Listing as listing
use Rattle.ltx_backup.specs.declared.entry.Entry.{Entry}
use Rattle.ltx_backup.specs.Entries.{numbers_of}

-- the transaction files of the folder, in order, each once
abbrev pub AreListed : List Entry → Folder → Type 0
AreListed entries f = listing.AreListed (map numbers_of entries) f
