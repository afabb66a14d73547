-- What a lease service knows: the grant of each term so far. All times are in milliseconds.
use Rattle.std.specs.Prelude.{◌≡◌, ℕ, ◌+◌, ◌-◌, ◌^◌, ◌<◌, ◌≤◌, ◌==◌, ◌&&◌, not, nat_lt, max, Bool, if◌then◌else◌, List, [], ◌∷◌, ◌++◌, length, take, find, slice_index_or, Option, Some, None}
use Rattle.std.specs.List.{slice_get}
use Rattle.lease_core.specs.declared.grant.Grant.{Grant}
use Rattle.lease_core.specs.declared.lease_fault.LeaseFault.{LeaseFault}
use Rattle.lease_core.specs.declared.lease_fault.LeaseFault.TheVariants.{Held, Unknown, Late, Limit, NoMemory}

-- how long a grant lasts, the greatest moment that the table was given, and the grant of each term, in order
pub record Leases : Type 0 where
  pub ttl : ℕ
  pub moment : ℕ
  pub grants : List Grant

-- the same once a moment was given
abbrev pub at_moment : ℕ → Leases → Leases
at_moment now leases = record leases { moment = max leases.moment now }

-- the value, where it passes the test
abbrev pub kept_if : {A : Type 0} → (A → Bool) → Option A → Option A
kept_if test None = None
kept_if test (Some a) = if test a then Some a else None

-- the grant that has not expired, if there is one: the last one's
abbrev pub live_grant : Leases → Option Grant
live_grant leases = kept_if (λ g. nat_lt leases.moment g.until) (slice_get leases.grants (length leases.grants - 1))

-- the same, where it is another node's
abbrev pub rival : Leases → ℕ → Option Grant
rival leases node = kept_if (λ g. not (g.node == node)) (live_grant leases)

-- the grant of a term that was this node's
abbrev pub grant_of : Leases → ℕ → ℕ → Option Grant
grant_of leases node term = find (λ g. (g.term == term) && (g.node == node)) leases.grants

-- when a grant of this moment ends
abbrev pub end_of_grant : Leases → ℕ
end_of_grant leases = leases.moment + leases.ttl

-- the term that is granted next: that of the grant which has not expired, else one above the last
abbrev pub term_after : Option Grant → ℕ → ℕ
term_after None last = last + 1
term_after (Some g) last = g.term

abbrev pub next_term : Leases → ℕ
next_term leases = term_after (live_grant leases) (length leases.grants)

-- the grant that a node gets
abbrev pub granted_to : Leases → ℕ → List ℕ → List ℕ → Grant
granted_to leases node url host = record { node = node; url = url; host = host; term = next_term leases; until = end_of_grant leases }

-- the table with this grant for its term, the last one or a new one
abbrev pub with_grant : Grant → Leases → Leases
with_grant grant leases = record leases { grants = take (grant.term - 1) leases.grants ++ grant ∷ [] }

-- the same grant with another end
abbrev pub ending : ℕ → Grant → Grant
ending until grant = record grant { until = until }

-- ---- why a call is refused, if it is

-- numbers are at most 2^64 - 1
abbrev pub is_number : ℕ → Bool
is_number n = nat_lt n (2 ^ 64)

abbrev pub or_limit : Option LeaseFault → Bool → Option LeaseFault
or_limit (Some fault) fits = Some fault
or_limit None fits = if fits then None else Some Limit

abbrev pub held_by : Option Grant → Option LeaseFault
held_by None = None
held_by (Some g) = Some (Held g.node g.until)

-- acquiring: another node's grant has not ended, or the term would pass its limit, or the end of the grant
abbrev pub term_refusal : Leases → ℕ → Option LeaseFault
term_refusal leases node = or_limit (held_by (rival leases node)) (is_number (next_term leases))

abbrev pub acquire_refusal : Leases → ℕ → Option LeaseFault
acquire_refusal leases node = or_limit (term_refusal leases node) (is_number (end_of_grant leases))

-- a grant whose end has come; a term with a later one has ended
abbrev pub late_refusal : Leases → Option Grant → Option LeaseFault
late_refusal leases None = Some Unknown
late_refusal leases (Some g) = if nat_lt leases.moment g.until then None else Some (Late g.until)

-- releasing: the term was never this node's, or it has ended
abbrev pub release_refusal : Leases → ℕ → ℕ → Option LeaseFault
release_refusal leases node term = late_refusal leases (grant_of leases node term)

-- renewing: the same, or the end would pass the limit
abbrev pub renew_refusal : Leases → ℕ → ℕ → Option LeaseFault
renew_refusal leases node term = or_limit (release_refusal leases node term) (is_number (end_of_grant leases))

-- a fault is this refusal; want of memory comes only where there is none
abbrev pub IsRefusal : Option LeaseFault → LeaseFault → Type 0
IsRefusal refusal NoMemory = refusal ≡ None
IsRefusal refusal fault = refusal ≡ Some fault

-- the node's grant of this term has been given that end, and nothing else is changed
abbrev pub ChangesEnd : Leases → Leases → ℕ → ℕ → ℕ → Type 0
ChangesEnd old new node term until = (g : Grant) × (grant_of old node term ≡ Some g) × (new ≡ with_grant (ending until g) old)

-- what is always true of a table
pub record IsLeases (leases : Leases) : Type 0 where
  -- the terms count up from 1
  pub numbered : (k : ℕ) (d : Grant) → k < length leases.grants → (slice_index_or leases.grants k d).term ≡ k + 1
  -- all but the last have ended
  pub ended : (k : ℕ) (d : Grant) → k + 1 < length leases.grants → (slice_index_or leases.grants k d).until ≤ leases.moment
