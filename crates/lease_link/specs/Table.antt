-- What the lease service's table answers to a request, and how it is then.
use Rattle.std.specs.Prelude.{◌≡◌, ℕ, ◌-◌, Option, None, Some}
use Rattle.lease_core.specs.declared.grant.Grant.{Grant}
use Rattle.lease_core.specs.declared.lease_ask.LeaseAsk.{LeaseAsk}
use Rattle.lease_core.specs.declared.lease_ask.LeaseAsk.TheVariants as ask
use Rattle.lease_core.specs.declared.lease_fault.LeaseFault.{LeaseFault}
use Rattle.lease_core.specs.declared.lease_fault.LeaseFault.TheVariants as fault
use Rattle.lease_core.specs.declared.lease_reply.LeaseKind.TheVariants as kind
use Rattle.lease_core.specs.declared.lease_reply.LeaseReply.{LeaseReply}
use Rattle.lease_core.specs.declared.lease_reply.LeaseReply.TheVariants as reply
use Rattle.lease_core.specs.Leases.{ChangesEnd, Leases, acquire_refusal, end_of_grant, granted_to, live_grant, release_refusal, renew_refusal, with_grant}

-- a grant as it is told at a moment: how long it lasts from then on
abbrev pub told_grant : ℕ → Grant → LeaseReply
told_grant moment g = reply.Grant g.host g.term (g.until - moment) g.url

-- the one that has not ended, if there is one
abbrev pub told_live : ℕ → Option Grant → LeaseReply
told_live moment None = reply.Empty
told_live moment (Some g) = told_grant moment g

-- a refusal as it is told, with the end that it knows of
abbrev pub IsToldFault : LeaseFault → LeaseReply → Type 0
IsToldFault (fault.Held by until) told = told ≡ reply.Refused kind.Held until
IsToldFault fault.Unknown told = told ≡ reply.Refused kind.Unknown 0
IsToldFault (fault.Late until) told = told ≡ reply.Refused kind.Late until
IsToldFault fault.Limit told = told ≡ reply.Refused kind.Limit 0
IsToldFault fault.NoMemory told = ⊥

-- why the table refuses a request, if it does
abbrev pub refusal_of : Leases → LeaseAsk → Option LeaseFault
refusal_of leases (ask.Acquire node url host) = acquire_refusal leases node
refusal_of leases (ask.Renew node term) = renew_refusal leases node term
refusal_of leases (ask.Release node term) = release_refusal leases node term
refusal_of leases ask.Info = None

-- what it answers where it refuses nothing, and how it is then: a grant, a later end, an end now, or the grant that stands
abbrev pub Does : Leases → Leases → LeaseAsk → LeaseReply → Type 0
Does leases next (ask.Acquire node url host) told =
    (told ≡ told_grant leases.moment (granted_to leases node url host)) × (next ≡ with_grant (granted_to leases node url host) leases)
Does leases next (ask.Renew node term) told =
    (told ≡ reply.Renewed (end_of_grant leases - leases.moment)) × ChangesEnd leases next node term (end_of_grant leases)
Does leases next (ask.Release node term) told = (told ≡ reply.Empty) × ChangesEnd leases next node term leases.moment
Does leases next ask.Info told = (told ≡ told_live leases.moment (live_grant leases)) × (next ≡ leases)

-- WHAT THE TABLE ANSWERS to a request at its moment, and how it is then
pub data AnswersAsk (leases next : Leases) (asked : LeaseAsk) (told : LeaseReply) : Type 0 where
  answers : refusal_of leases asked ≡ None → Does leases next asked told → AnswersAsk leases next asked told
  refuses : (why : LeaseFault) → refusal_of leases asked ≡ Some why → IsToldFault why told → next ≡ leases → AnswersAsk leases next asked told

-- the status of an answer
abbrev pub status_of : LeaseReply → ℕ
status_of (reply.Refused kind until) = 409
status_of _ = 200
