-- A fault of the database file as one of a request.
use Rattle.database_file.specs.declared.fault.FileFault.{FileFault}
use Rattle.database_file.specs.declared.fault.FileFault.TheVariants as file
use Rattle.file_view.specs.declared.fault.ViewFault.{ViewFault}
use Rattle.file_view.specs.declared.fault.ViewFault.TheVariants as fault

-- a page that wasn't read, and want of memory, stay what they are
abbrev pub IsFault : FileFault → ViewFault → Type 0
IsFault file.Unread (fault.Errno number) = ⊥
IsFault file.Unread (fault.Page failed) = Unit {0}
IsFault file.Unread fault.NoMemory = ⊥
IsFault file.NoMemory (fault.Errno number) = ⊥
IsFault file.NoMemory (fault.Page failed) = ⊥
IsFault file.NoMemory fault.NoMemory = Unit {0}
