-- The error number of each fault (errno(3)), and the refusal of a fault of the store, of an encoding or of an import.
use Rattle.std.specs.Prelude.{Option, if◌then◌else◌}
use Rattle.lf_base.specs.declared.errno.Errno.{Errno}
use Rattle.lf_disk.specs.SystemError.{is_want_of_room}
use Rattle.file_view.specs.declared.fault.ViewFault.{ViewFault}
use Rattle.file_view.specs.declared.fault.ViewFault.TheVariants as view
use Rattle.file_view.specs.Errno.{EFBIG, EIO, ENOSPC}
use Rattle.ltx_codec.specs.declared.fault.LtxFault.{LtxFault}
use Rattle.ltx_codec.specs.declared.fault.LtxFault.TheVariants as encoding
use Rattle.txn_log.specs.declared.fault.StoreFault.{StoreFault}
use Rattle.txn_log.specs.declared.fault.StoreFault.TheVariants as store
use Rattle.snapshot.specs.declared.fault.ImportFault.{ImportFault}
use Rattle.snapshot.specs.declared.fault.ImportFault.TheVariants as import
use Rattle.node_core.specs.declared.refusal.Refusal.{Refusal}
use Rattle.node_core.specs.declared.refusal.Refusal.TheVariants as refusals

-- want of memory
abbrev pub ENOMEM : Errno
ENOMEM = record { 0 = 12 }

-- the refusal of a fault of the store. Want of memory is one of its own
abbrev pub refusal_of : StoreFault → Refusal
refusal_of store.NoMemory = refusals.NoMemory
refusal_of why = refusals.Store why

-- the refusal of bytes that are no file, by their fault
abbrev pub refusal_of_encoding : LtxFault → Refusal
refusal_of_encoding encoding.NoMemory = refusals.NoMemory
refusal_of_encoding why = refusals.Ltx why

-- the refusal of bytes that are not imported, by their fault
abbrev pub refusal_of_import : ImportFault → Refusal
refusal_of_import import.NoMemory = refusals.NoMemory
refusal_of_import why = refusals.Import why

-- of a fault of the store, by what the system said at the disk's call that failed last: where there is no room, no space is left;
-- where the database grows past its limit, the file is too large; the last three don't come
abbrev pub errno_of_store : Option Errno → StoreFault → Errno
errno_of_store said store.Disk = if is_want_of_room said then ENOSPC else EIO
errno_of_store said store.Broken = EIO
errno_of_store said store.Limit = EFBIG
errno_of_store said store.NoMemory = ENOMEM
errno_of_store said why = EIO

-- of a request's fault: a rule's own, and where a page can't be read, an input/output error
abbrev pub errno_of_view : ViewFault → Errno
errno_of_view (view.Errno number) = number
errno_of_view (view.Page failed) = EIO
errno_of_view view.NoMemory = ENOMEM
