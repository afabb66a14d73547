-- How a service is asked, whichever it is.
use Rattle.std.specs.Prelude.{◌≡◌, ℕ, ◌≤◌, List, Option, Result, Ok, Err}
use Rattle.lf_base.specs.Dials.{Dial}
use Rattle.lease_core.specs.declared.lease_ask.LeaseAsk.{LeaseAsk}
use Rattle.lease_core.specs.declared.lease_ask.LeaseAsk.TheVariants as ask
use Rattle.lease_link.specs.declared.learned.Learned.{Learned}
use Rattle.lease_link.specs.declared.learned.Learned.TheVariants as learned
use Rattle.lease_link.specs.declared.unlearned.Unlearned.{Unlearned}
use Rattle.lease_link.specs.declared.unlearned.Unlearned.TheVariants as unlearned

-- the dials and the faults of the one that dials
pub record DialStand : Type 0 where
  pub dials : Option (List Dial)
  pub faults : ℕ

abbrev pub dial_stand : Option (List Dial) → ℕ → DialStand
dial_stand dials faults = record { dials = dials; faults = faults }

-- what can be learned of what was asked: a term, of one that asks for one; the same term, or its loss, of one that renews it; who is primary, or that nobody is
abbrev pub Fits : LeaseAsk → Learned → Type 0
Fits (ask.Acquire node url host) (learned.Granted term ttl) = Unit {0}
Fits (ask.Renew node own) (learned.Granted term ttl) = term ≡ own
Fits (ask.Renew node own) learned.Lost = Unit {0}
Fits ask.Info (learned.Primary host url) = Unit {0}
Fits ask.Info learned.Nobody = Unit {0}
Fits _ learned.Nothing = Unit {0}
Fits _ _ = ⊥

-- no turn comes back, and none is left where they ran out
abbrev pub TurnsFor : ℕ → ℕ → Result Learned Unlearned → Type 0
TurnsFor before now (Err unlearned.Turns) = now ≡ 0
TurnsFor before now _ = now ≤ before
