use Rattle.std.proofs.Common.{List, ℕ, Option, IsSome, Contains, sym, ◌∙◌, ap, subst}
use Rattle.std.specs.List.{IsDistinct}
use Rattle.lf_disk.specs.declared.name.FileName.{FileName}
use Rattle.lf_disk.specs.declared.slots.Slot.{Slot}
use Rattle.lf_disk.specs.Folder.{Same, same_name}
use Rattle.lf_disk.specs.Slots.{folder_of, names_of}
use Rattle.lf_disk.specs.History.{now}
use Rattle.lf_disk.specs.MemDisk.{Recording, history_of}
use Rattle.lf_disk.proofs.NameList.{listed-stands, stands-listed, listed-once}
use Rattle.lf_disk.proofs.Records.{current-told}
use Rattle.lf_disk.proofs.mem_disk.as_disk.MemDiskDisk.list.Goals as goal

pub returns-clause-names : goal.returns-clause-names
returns-clause-names c n =
    let d = c.self.inside in
    let names = c.in_ok-names.ensures ∙ ap (λ (l : List Slot). names_of l) c.deref.ensures.value in
    let told = subst (λ (r : Recording). Same (now (history_of r)) (folder_of d.files.items)) c.self.view_is (current-told d.first.items d.calls.items d.files.items c.self.invariant) in (
      λ listed. subst (λ (f : Option (List ℕ)). IsSome f) (told n) (listed-stands n d.files.items c.self.invariant.orderly (subst (λ (l : List FileName). Contains l n) names listed)),
      λ stands. subst (λ (l : List FileName). Contains l n) (sym names) (stands-listed n d.files.items (subst (λ (f : Option (List ℕ)). IsSome f) (sym (told n)) stands)),
    )

pub returns-clause-distinct : goal.returns-clause-distinct
returns-clause-distinct c =
    let d = c.self.inside in
    let names = c.in_ok-names.ensures ∙ ap (λ (l : List Slot). names_of l) c.deref.ensures.value in
    subst (λ (l : List FileName). IsDistinct same_name l) (sym names) (listed-once d.files.items c.self.invariant.orderly)
