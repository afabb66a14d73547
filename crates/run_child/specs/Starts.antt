-- A starter's book.
use Rattle.std.specs.Prelude.{◌≡◌, ℕ, List, Option}
use Rattle.lf_base.specs.Faults.{Rose}
use Rattle.run_child.specs.declared.child_end.ChildEnd.{ChildEnd}
use Rattle.run_child.specs.declared.child_end.ChildEnd.TheVariants as ends
use Rattle.run_child.specs.declared.starter.Starter.{Ghosts as StarterGhosts}
use Rattle.run_child.specs.Started.{Started, TellsOne, TellsSame}

-- a starter's list and its count of faults
pub record Book : Type 0 where
  pub starts : Option (List Started)
  pub faults : ℕ

abbrev pub book : {S : Type 0} → StarterGhosts S → S → Book
book s starter = record { starts = s.starts starter; faults = s.faults starter }

-- what one start comes to
abbrev pub Tries : List (List ℕ) → Book → Book → ChildEnd → Type 0
Tries words old new (ends.Ended status) = TellsOne old.starts new.starts (record { words = words; gave = status }) × (new.faults ≡ old.faults)
Tries words old new ends.NotStarted = TellsSame old.starts new.starts × Rose old.faults new.faults
Tries words old new end = ⊥
