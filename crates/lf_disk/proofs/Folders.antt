-- What a crash leaves beside one file that is edited, and where that file gets a name.
use Rattle.std.proofs.Common.{◌≡◌, inl, inr, ℕ, List, Some, ◌∙◌}
use Rattle.std.proofs.lemmas.Bool.{cases_Bool}
use Rattle.lf_disk.specs.declared.name.FileName.{FileName}
use Rattle.lf_disk.specs.Folder.{Folder, same_name, with_file, SameBut}
use Rattle.lf_disk.specs.Change.{Edit, Step, OnFile, Perhaps, Renames}
use Rattle.lf_disk.specs.History.{History, may_leave, Moves}

-- what a crash leaves is f but for one file
abbrev pub LeavesBut : FileName → Folder → History → Type 0
LeavesBut name f h = (c : Folder) → may_leave h c → SameBut name f c

-- an edit of that file keeps it so
pub edited : (name : FileName) (f : Folder) (sees : Step) (edit : Edit) (old new : History) → LeavesBut name f old → Moves sees (OnFile name edit) old new → LeavesBut name f new
edited name f sees edit old new before moves c may n other =
    let from = moves.left c may in from.2.elsewhere n other ∙ before from.0 from.1 n other

pub perhaps_edited : (name : FileName) (f : Folder) (sees : Step) (edit : Edit) (old new : History) → LeavesBut name f old → Moves sees (Perhaps (OnFile name edit)) old new → LeavesBut name f new
perhaps_edited name f sees edit old new before moves c may n other =
    let from = moves.left c may in
    elim from.2 [
      | inl same ↦ same n ∙ before from.0 from.1 n other
      | inr edit ↦ edit.elsewhere n other ∙ before from.0 from.1 n other
    ]

-- where f has these bytes under another name, so has a folder in which that name was given to them
pub renamed-whole : (from to : FileName) (f d c : Folder) (bytes : List ℕ) → SameBut from f d → d from ≡ Some bytes → Renames from to d c → SameBut from (with_file to (Some bytes) f) c
renamed-whole from to f d c bytes others whole renames n other =
    renames n ∙ elim (cases_Bool (same_name n to)) [
      | inl is ↦ rw is whole
      | inr isnt ↦ rw (isnt, other) (others n other)
    ]
