-- Where no row refuses.
use Rattle.std.proofs.Common.{◌≡◌, Bool, true, false, ◌||◌, List, [], ◌∷◌, Option, Some, None, refl}
use Rattle.std.specs.Prelude.{is_some, if◌then◌else◌}
use Rattle.lf_base.specs.declared.errno.Errno.{Errno}
use Rattle.file_view.specs.DatabaseState.{HeldWrite}
use Rattle.file_view.specs.Refusal.{Row, first_refusal}
use Rattle.file_view.specs.Served.{Served, waits}

-- none of some rows holds
abbrev pub NoneHolds : List Row → Type 0
NoneHolds [] = Unit {0}
NoneHolds (row ∷ rows) = (row.0 ≡ false) × NoneHolds rows

first-fails : (test : Bool) (number : Errno) (rest : Option Errno) → (if test then Some number else rest) ≡ None → (test ≡ false) × (rest ≡ None)
first-fails true number rest h = absurd cc
first-fails false number rest h = (refl, h)

pub none-holds : (rows : List Row) → first_refusal rows ≡ None → NoneHolds rows
none-holds [] h = tt
none-holds (row ∷ rows) h =
    let both = first-fails row.0 row.1 (first_refusal rows) h in
    (both.0, none-holds rows both.1)

-- where no request waits, no write to the log does
pub nothing-held : (s : Served) → waits s ≡ false → s.held_write ≡ None
nothing-held s free = absent s.held_write (is_some s.journal.waiting) free where
  absent : (o : Option HeldWrite) (b : Bool) → (is_some o || b) ≡ false → o ≡ None
  absent None b h = refl
  absent (Some w) b h = absurd cc
