-- Entries, one by one.
use Rattle.ltx_backup.specs.declared.entry.Entry.{Entry}

-- an entry of no account
abbrev pub no_entry : Entry
no_entry = record { min = 0; max = 0; page_size = 0 }
