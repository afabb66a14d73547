-- Why a backup isn't level with its node, by who is at fault.
use Rattle.std.specs.Prelude.{Bool, true, false, Result, Ok, Err}
use Rattle.http_exchange.specs.declared.told.Untold.{Untold}
use Rattle.http_exchange.specs.declared.told.Untold.TheVariants as untold
use Rattle.ltx_backup.specs.declared.fault.BackupFault.{BackupFault}
use Rattle.stream_wire.specs.declared.wire_fault.WireFault.{WireFault}
use Rattle.stream_wire.specs.declared.wire_fault.WireFault.TheVariants as wire
use Rattle.backup_link.specs.declared.unfetched.Unfetched.{Unfetched}
use Rattle.backup_link.specs.declared.unfetched.Unfetched.TheVariants as unfetched

-- what bytes that begin no frame are to a reply
abbrev pub untold_of : WireFault → Untold
untold_of (wire.TooLong len) = untold.TooLong
untold_of wire.NoMemory = untold.NoMemory
untold_of _ = untold.Unfit

-- what keeps a link from being read: a fault, or want of a turn
abbrev pub IsStopped : Untold → Type 0
IsStopped untold.Fault = Unit {0}
IsStopped untold.Turns = Unit {0}
IsStopped _ = ⊥

-- how the exchange ended
abbrev pub of_network : {T : Type 0} → Result T Unfetched → Result (Unit {0}) Untold
of_network (Err (unfetched.Untold why)) = Err why
of_network _ = Ok tt

-- how the backup's last call ended
abbrev pub of_backup : {T : Type 0} → Result T Unfetched → Result (Unit {0}) BackupFault
of_backup (Err (unfetched.Backup why)) = Err why
of_backup _ = Ok tt

-- whether the dialer's count of faults rose
abbrev pub has_failed : {T : Type 0} → Result T Unfetched → Bool
has_failed (Err (unfetched.Untold untold.Fault)) = true
has_failed _ = false
