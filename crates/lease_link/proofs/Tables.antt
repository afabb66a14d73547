-- What the lease service answers, put together of one call of its table.
use Rattle.std.proofs.Common.{◌≡◌, Some, Result, Ok, Err, IfOk}
use Rattle.lease_core.specs.declared.lease_ask.LeaseAsk.{LeaseAsk}
use Rattle.lease_core.specs.declared.lease_fault.LeaseFault.{LeaseFault}
use Rattle.lease_core.specs.declared.lease_fault.LeaseFault.TheVariants as fault
use Rattle.lease_core.specs.declared.lease_reply.LeaseReply.{LeaseReply}
use Rattle.lease_core.specs.Leases.{IsRefusal, Leases}
use Rattle.lease_link.specs.Table.{AnswersAsk, IsToldFault, refusal_of, refuses}

-- a refusal that is told is none for want of memory
pub refused_by : (leases next : Leases) (asked : LeaseAsk) (why : LeaseFault) (told : LeaseReply) → IsRefusal (refusal_of leases asked) why → IsToldFault why told
    → next ≡ leases → AnswersAsk leases next asked told
refused_by leases next asked (fault.Held by until) told is says same = refuses (fault.Held by until) is says same
refused_by leases next asked fault.Unknown told is says same = refuses fault.Unknown is says same
refused_by leases next asked (fault.Late until) told is says same = refuses (fault.Late until) is says same
refused_by leases next asked fault.Limit told is says same = refuses fault.Limit is says same
refused_by leases next asked fault.NoMemory told is says same = absurd says

-- the same of what is told, if anything is
pub refused_with : {E : Type 0} (leases next : Leases) (asked : LeaseAsk) (why : LeaseFault) (told : Result LeaseReply E) → refusal_of leases asked ≡ Some why → next ≡ leases
    → IfOk told (IsToldFault why) → IfOk told (AnswersAsk leases next asked)
refused_with leases next asked why (Ok told) is same says = refuses why is says same
refused_with leases next asked why (Err e) is same says = tt

pub refused_or_starved : {E : Type 0} (leases next : Leases) (asked : LeaseAsk) (why : LeaseFault) (told : Result LeaseReply E) → IsRefusal (refusal_of leases asked) why
    → next ≡ leases → IfOk told (IsToldFault why) → IfOk told (AnswersAsk leases next asked)
refused_or_starved leases next asked why (Ok told) is same says = refused_by leases next asked why told is says same
refused_or_starved leases next asked why (Err e) is same says = tt
