-- Write permits, that a primary gives out under the HALT lock, one at a time. All times are in milliseconds.
use Rattle.std.specs.Prelude.{◌≡◌, ◌≢◌, ℕ, ◌+◌, ◌^◌, ◌==◌, nat_lt, max, Bool, ◌&&◌, Option, Some, None, if◌then◌else◌}
use Rattle.lf_base.specs.declared.pos.Pos.{Pos}
use Rattle.ltx_codec.specs.declared.file.Ltx.{Ltx}
use Rattle.ltx_codec.specs.Positions.{before}
use Rattle.halt_forward.specs.declared.halt_pass.HaltPass.{HaltPass}
use Rattle.halt_forward.specs.declared.halt_fault.HaltFault.{HaltFault}
use Rattle.halt_forward.specs.declared.halt_fault.HaltFault.TheVariants.{HaltHeld, HaltGone, Behind, Limit}

-- how long a permit lasts, the greatest moment that the table was given, how many permits were given out, and the last one, where it was not given back
pub record Permits : Type 0 where
  pub ttl : ℕ
  pub moment : ℕ
  pub given : ℕ
  pub last : Option HaltPass

-- the same once a moment was given
abbrev pub at_moment : ℕ → Permits → Permits
at_moment now permits = record permits { moment = max permits.moment now }

-- a permit whose end has not come
abbrev pub unless_ended : ℕ → Option HaltPass → Option HaltPass
unless_ended moment None = None
unless_ended moment (Some pass) = if nat_lt moment pass.until then Some pass else None

-- the permit that is out
abbrev pub pass_out : Permits → Option HaltPass
pass_out permits = unless_ended permits.moment permits.last

-- the permit that is given out next, and the table with it
abbrev pub next_pass : Permits → HaltPass
next_pass permits = record { number = permits.given + 1; until = permits.moment + permits.ttl }

abbrev pub with_next : Permits → Permits
with_next permits = record permits { given = permits.given + 1; last = Some (next_pass permits) }

abbrev pub without_pass : Permits → Permits
without_pass permits = record permits { last = None }

-- ---- why a call is refused, if it is

-- numbers are at most 2^64 - 1
abbrev pub is_number : ℕ → Bool
is_number n = nat_lt n (2 ^ 64)

abbrev pub held_by : Option HaltPass → Bool → Option HaltFault
held_by (Some pass) fits = Some (HaltHeld pass.number pass.until)
held_by None fits = if fits then None else Some Limit

-- giving one out: one is out, or a number would pass its limit
abbrev pub grant_refusal : Permits → Option HaltFault
grant_refusal permits = held_by (pass_out permits) (is_number (next_pass permits).until && is_number (next_pass permits).number)

abbrev pub gone_unless : Option HaltPass → ℕ → Option HaltFault
gone_unless None number = Some (HaltGone number)
gone_unless (Some pass) number = if pass.number == number then None else Some (HaltGone number)

-- any use of a permit: that number is not out
abbrev pub use_refusal : Permits → ℕ → Option HaltFault
use_refusal permits number = gone_unless (pass_out permits) number

-- why a file is not accepted under a permit: the number is not out, or else the file follows another position than the database has
abbrev pub RefusesFile : Permits → ℕ → Pos → Ltx → HaltFault → Type 0
RefusesFile permits number have file (Behind had want) =
    (use_refusal permits number ≡ None) × (had ≡ have) × (want ≡ before file) × (want ≢ have)
RefusesFile permits number have file fault = use_refusal permits number ≡ Some fault
