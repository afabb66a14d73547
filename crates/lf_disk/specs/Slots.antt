-- A folder in memory: a list of names, each with the file that it has.
use Rattle.std.specs.Prelude.{◌≡◌, false, List, [], ◌∷◌, map, filter, None, if◌then◌else◌, is_some}
use Rattle.lf_disk.specs.declared.name.FileName.{FileName}
use Rattle.lf_disk.specs.declared.slots.Slot.{Slot}
use Rattle.lf_disk.specs.Folder.{Folder, same_name}

-- the folder that the list stands for
abbrev pub folder_of : List Slot → Folder
folder_of [] n = None
folder_of (slot ∷ slots) n = if same_name n slot.name then slot.file else folder_of slots n

-- the names of its files
abbrev pub names_of : List Slot → List FileName
names_of slots = map (λ slot. slot.name) (filter (λ slot. is_some slot.file) slots)

-- the name stands nowhere
abbrev pub IsAbsent : FileName → List Slot → Type 0
IsAbsent name [] = Unit {0}
IsAbsent name (slot ∷ slots) = (same_name name slot.name ≡ false) × IsAbsent name slots

-- no name stands twice
abbrev pub IsOrderly : List Slot → Type 0
IsOrderly [] = Unit {0}
IsOrderly (slot ∷ slots) = IsAbsent slot.name slots × IsOrderly slots

-- the name stands somewhere
abbrev pub IsStanding : FileName → List Slot → Type 0
IsStanding name slots = IsAbsent name slots → ⊥

-- the names stay
pub record KeepsNames (old new : List Slot) : Type 0 where
  pub standing : (name : FileName) → IsStanding name old → IsStanding name new
  pub orderly : IsOrderly old → IsOrderly new
