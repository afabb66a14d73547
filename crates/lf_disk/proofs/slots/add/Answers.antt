use Rattle.std.proofs.Common.{List, sym, ◌∙◌, ap, subst}
use Rattle.std.specs.List.{position}
use Rattle.lf_disk.specs.declared.slots.Slot.{Slot}
use Rattle.lf_disk.specs.Folder.{Same}
use Rattle.lf_disk.specs.Slots.{folder_of, IsStanding, IsOrderly}
use Rattle.lf_disk.proofs.SlotLemmas.{has, found, absent, stands, stands-push, folder-push, orderly-push}
use Rattle.lf_disk.proofs.slots.add.Goals as goal

pub returns-in-Some-clause-stands : goal.returns-in-Some-clause-stands
returns-in-Some-clause-stands c =
    let here = ap (λ (l : List Slot). position (has c.args.name) l) (sym c.deref.ensures.value) ∙ sym c.place.ensures ∙ c.in-Some.is in
    stands c.args.name c.args.slots.now.items c.in-Some.field-0 (found c.args.name c.args.slots.now.items c.in-Some.field-0 here)

pub returns-in_ok-push-in-None-clause-stands : goal.returns-in_ok-push-in-None-clause-stands
returns-in_ok-push-in-None-clause-stands c =
    subst (λ (l : List Slot). IsStanding c.args.name l) (sym c.in_ok-push-in-None.ensures.items) (stands-push c.args.name c.args.slots.now.items)

pub returns-in_ok-push-in-None-clause-folder : goal.returns-in_ok-push-in-None-clause-folder
returns-in_ok-push-in-None-clause-folder c =
    subst (λ (l : List Slot). Same (folder_of c.args.slots.now.items) (folder_of l)) (sym c.in_ok-push-in-None.ensures.items) (folder-push c.args.name c.args.slots.now.items)

pub returns-in_ok-push-in-None-clause-orderly : goal.returns-in_ok-push-in-None-clause-orderly
returns-in_ok-push-in-None-clause-orderly c orderly =
    let nowhere = ap (λ (l : List Slot). position (has c.args.name) l) (sym c.deref.ensures.value) ∙ sym c.place.ensures ∙ c.in-None.is in
    subst (λ (l : List Slot). IsOrderly l) (sym c.in_ok-push-in-None.ensures.items)
    (orderly-push c.args.name c.args.slots.now.items (absent c.args.name c.args.slots.now.items nowhere) orderly)
