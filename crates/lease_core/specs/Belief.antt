-- What a node believes of its own lease. All times are in milliseconds of its own clock.
use Rattle.std.specs.Prelude.{ℕ, ◌+◌, ◌-◌, ◌^◌, min, nat_lt, Bool, true, Option, Some, None}

-- the moment of its last asking, and the moment at which the belief ends. 0 is the end of none, and no end that of one which lasts
pub record LeaseBelief : Type 0 where
  pub asked : Option ℕ
  pub end : Option ℕ

abbrev pub no_belief : LeaseBelief
no_belief = record { asked = None; end = Some 0 }

abbrev pub lasting : LeaseBelief
lasting = record { asked = None; end = None }

abbrev pub asked_at : ℕ → LeaseBelief → LeaseBelief
asked_at now belief = record belief { asked = Some now }

-- when a belief ends that was asked for at a moment and granted for a time
abbrev pub end_after : Option ℕ → ℕ → Option ℕ
end_after None ttl = Some 0
end_after (Some asked) ttl = Some (min (asked + ttl) (2 ^ 64 - 1))

abbrev pub granted_for : ℕ → LeaseBelief → LeaseBelief
granted_for ttl belief = record belief { end = end_after belief.asked ttl }

abbrev pub is_before : ℕ → Option ℕ → Bool
is_before now None = true
is_before now (Some end) = nat_lt now end

-- whether the node may commit at a moment
abbrev pub may_commit : LeaseBelief → ℕ → Bool
may_commit belief now = is_before now belief.end
