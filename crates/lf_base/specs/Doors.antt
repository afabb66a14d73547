-- An acceptor and a dialer in memory.
use Rattle.std.specs.Prelude.{◌≡◌, ℕ, ◌==◌, ◌≤◌, ◌⊎◌, Bool, not, nat_lt, List, [], ◌∷◌, ◌++◌, length, map, Option, Some, None, Result, Ok, Contains, if◌then◌else◌}
use Rattle.lf_base.specs.Faults.{one_more}
use Rattle.lf_base.specs.Wire.{Wire, given_by, left_on}
use Rattle.lf_base.specs.Dials.{Dial, failed, hung_up}

-- a link that is given is counted, up to the last number of a u64
abbrev pub CountsLinks : {L E : Type 0} → ℕ → ℕ → Result (Option L) E → Type 0
CountsLinks before now (Ok (Some link)) = now ≡ one_more before
CountsLinks before now _ = now ≡ before

-- an acceptor in memory: the links to come, the numbers of the calls that fail, the calls and faults so far, how many links
-- it gave, and whether it ended
pub record Door : Type 0 where
  pub links : List Wire
  pub failing : List ℕ
  pub calls : ℕ
  pub faults : ℕ
  pub given : ℕ
  pub ended : Bool

-- a dialer in memory: the links to come, how many dials it has places for, the numbers of the dials that fail, the calls
-- and faults so far, the dials that are told, and how many are not
pub record Phone : Type 0 where
  pub links : List Wire
  pub places : ℕ
  pub failing : List ℕ
  pub calls : ℕ
  pub faults : ℕ
  pub told : List (Option Wire)
  pub untold : ℕ

-- nothing was read or written on the link, and it has not failed
pub record IsUnused (wire : Wire) : Type 0 where
  pub at : wire.at ≡ 0
  pub taken : wire.taken ≡ []
  pub faults : wire.faults ≡ 0

-- what a link tells that was hung up, and no link where the dial failed
abbrev pub dial_of : Option Wire → Dial
dial_of None = failed
dial_of (Some wire) = hung_up (given_by wire) wire.taken (left_on wire) (not (wire.faults == 0))

-- the dials, while there was a place for each
abbrev pub dials_of : Phone → Option (List Dial)
dials_of phone = if phone.untold == 0 then Some (map dial_of phone.told) else None

-- why a dial fails
abbrev pub FailsDial : Phone → Type 0
FailsDial phone = Contains phone.failing phone.calls ⊎ (phone.places ≤ phone.calls) ⊎ (phone.links ≡ [])

-- with one dial more told, where there is a place for it
abbrev pub noted : Option Wire → Phone → Phone
noted dial phone =
    if nat_lt (length phone.told) phone.places then record phone { told = phone.told ++ dial ∷ [] } else record phone { untold = one_more phone.untold }
