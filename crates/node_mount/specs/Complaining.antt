-- What is complained of in a configuration that was read.
use Rattle.std.specs.Prelude.{ℕ, List, Option, IsSomeAnd, Result, Ok, Err}
use Rattle.node_settings.specs.Complaints.{Complains}
use Rattle.node_settings.specs.declared.complaint.Complaint.{Complaint}
use Rattle.node_settings.specs.declared.rule.Rule.{Rule}
use Rattle.node_mount.specs.Configuring.{ReadsEnough}
use Rattle.node_mount.specs.declared.mount_fault.MountFault.{MountFault}
use Rattle.node_mount.specs.declared.mount_fault.MountFault.TheVariants as fault

-- of bytes that are no configuration it is said what is complained of
abbrev pub ComplainsOf : {T : Type 0} → List Rule → List ℕ → Result T MountFault → Option Complaint → Type 0
ComplainsOf rules bytes (Err fault.Config) complaint = IsSomeAnd complaint (λ c. Complains rules bytes c)
ComplainsOf rules bytes result complaint = Unit {0}

-- the same of what was read of a source
abbrev pub ComplainsOfRead : {T : Type 0} → List Rule → (left left_now : Option (List ℕ)) → Result T MountFault → Option Complaint → Type 0
ComplainsOfRead rules left left_now (Err fault.Config) complaint = (bytes : List ℕ) × ReadsEnough left left_now bytes × IsSomeAnd complaint (λ c. Complains rules bytes c)
ComplainsOfRead rules left left_now result complaint = Unit {0}
