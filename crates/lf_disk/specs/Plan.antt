-- Which calls of a disk in memory fail.
use Rattle.std.specs.Prelude.{◌≡◌, ℕ, ◌+◌, min, Bool, false, ◌||◌, ◌==◌, nat_le, List, Option, None, Some, IsTrue, Result, IsErr, OnOk}
use Rattle.std.specs.List.{list_any}
use Rattle.lf_base.specs.declared.errno.Errno.{Errno}
use Rattle.lf_base.specs.Faults.{one_more}

-- the numbers of the calls that fail, and the number from which on all do; the calls and the faults so far, and how many
-- of the changing calls found no memory; whether calls that fail say that there is no room, and what the last one said
pub record Plan : Type 0 where
  pub failing : List ℕ
  pub stop_after : Option ℕ
  pub calls : ℕ
  pub faults : ℕ
  pub short : ℕ
  pub roomless : Bool
  pub error : Option Errno

-- whether the call of this number comes at the stop or after it
abbrev pub is_after : Option ℕ → ℕ → Bool
is_after None call = false
is_after (Some stop) call = nat_le stop call

-- whether the next call is to fail
abbrev pub fails_next : Plan → Bool
fails_next plan = list_any (λ call. call == plan.calls) plan.failing || is_after plan.stop_after plan.calls

-- the stop that comes first
abbrev pub earlier : Option ℕ → ℕ → Option ℕ
earlier None stop = Some stop
earlier (Some other) stop = Some (min other stop)

-- the plan by which every call after the next ones fails
abbrev pub stopped_in : ℕ → Plan → Plan
stopped_in calls plan = record plan { stop_after = earlier plan.stop_after (min (plan.calls + calls) 18446744073709551615) }

-- the call is counted, and fails where it is to
pub record Follows {T E : Type 0} (result : Result T E) (old new : Plan) : Type 0 where
  pub planned : IsTrue (fails_next old) → IsErr result
  pub calls : new.calls ≡ one_more old.calls
  pub failing : new.failing ≡ old.failing
  pub stop_after : new.stop_after ≡ old.stop_after
  pub short : OnOk result (new.short ≡ old.short)
  pub roomless : new.roomless ≡ old.roomless
  pub error : OnOk result (new.error ≡ old.error)
