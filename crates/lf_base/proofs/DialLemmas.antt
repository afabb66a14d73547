-- What a dialer in memory tells once a dial is noted.
use Rattle.std.proofs.Common.{◌≡◌, ℕ, false, [], ◌∷◌, length, take, Option, Some, refl, ap, arith, inl, inr}
use Rattle.std.specs.Prelude.{nat_lt, ◌==◌}
use Rattle.std.proofs.lemmas.Bool.{cases_Bool}
use Rattle.std.proofs.lemmas.Bool.Decides.{nat_tests}
use Rattle.std.proofs.lemmas.List.{map-append}
use Rattle.lf_base.specs.Faults.{one_more}
use Rattle.lf_base.specs.Wire.{Wire, given_by, left_on}
use Rattle.lf_base.specs.Dials.{Dial, TellsMore, IsHungUp}
use Rattle.lf_base.specs.Doors.{Phone, IsUnused, dial_of, dials_of, noted}

-- nothing was read on a link that is unused
pub unused_given : (wire : Wire) → IsUnused wire → given_by wire ≡ []
unused_given wire unused = ap (λ (n : ℕ). take n wire.input) unused.at

-- a dial is told where all before it are and there is a place
pub tells_noted : (dial : Option Wire) (phone : Phone) (is : Dial → Type 0) → is (dial_of dial) → TellsMore is (dials_of phone) (dials_of (noted dial phone))
tells_noted dial phone is holds = elim (cases_Bool (nat_lt (length phone.told) phone.places)) [
  | inl room ↦ rw room (elim (cases_Bool (phone.untold == 0)) [
    | inl all ↦ rw all (dial_of dial, holds, map-append dial_of phone.told (dial ∷ []))
    | inr some ↦ rw some tt
  ])
  | inr full ↦
      let more : (one_more phone.untold == 0) ≡ false = grind (arith, nat_tests) in
      rw (full, more) tt
]

-- a link that was hung up is told as it is
pub hung_up_as : (wire : Wire) → IsHungUp (Some (given_by wire)) (Some wire.taken) (Some (left_on wire)) wire.faults (dial_of (Some wire))
hung_up_as wire = record {
  read = given_by wire;
  written = wire.taken;
  rest = left_on wire;
  given_is = refl;
  taken_is = refl;
  left_is = refl;
  dial_is = refl;
}
