-- When a data directory is refused.
use Rattle.std.specs.Prelude.{◌≡◌, Bool, IsTrue, List, [], ◌∷◌, Option, Result, Err}
use Rattle.lf_disk.specs.History.{History, now}
use Rattle.node_recovery.specs.Finding.{HasDamage}
use Rattle.node_mount.specs.Returns.{GivesBack}
use Rattle.node_mount.specs.declared.mount_fault.MountFault.{MountFault}
use Rattle.node_mount.specs.declared.mount_fault.MountFault.TheVariants as fault
use Rattle.node_objects.specs.declared.returned.Returned.{Returned}
use Rattle.node_objects.specs.declared.returned.Returned.TheVariants as returned

-- the maker could give a disk that is not honest or has a damaged file; and it came back, as honest as it was
pub record FindsDamage {D F H T S : Type 0} (honest : D → Bool) (history : D → History) (may_give : D → Type 0) (old new : Option (List (Returned D F H T S))) : Type 0 where
  pub given : D
  pub disk : D
  pub was_next : may_give given
  pub damage : IsTrue (honest given) → HasDamage (now (history given))
  pub same : honest disk ≡ honest given
  pub back : GivesBack (returned.Disk disk ∷ []) old new

-- with Damaged there was such a disk
abbrev pub DamageHasCause : {D F H T S R : Type 0} → (D → Bool) → (D → History) → (D → Type 0) → (old new : Option (List (Returned D F H T S))) → Result R MountFault → Type 0
DamageHasCause honest history may_give old new (Err fault.Damaged) = FindsDamage honest history may_give old new
DamageHasCause honest history may_give old new result = Unit {0}
