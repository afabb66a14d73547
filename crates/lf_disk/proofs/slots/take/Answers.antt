use Rattle.std.proofs.Common.{ℕ, List, Option, None, slice_set, sym, ◌∙◌, ap, subst}
use Rattle.std.specs.List.{position}
use Rattle.lf_disk.specs.declared.slots.Slot.{Slot}
use Rattle.lf_disk.specs.Slots.{folder_of}
use Rattle.lf_disk.specs.Folder.{with_file, Same}
use Rattle.lf_disk.proofs.SlotLemmas.{has, was, folder-set, names-set, folder-none, folder-absent, absent}
use Rattle.lf_disk.proofs.slots.take.Goals as goal

pub returns-in-Some-clause-file : goal.returns-in-Some-clause-file
returns-in-Some-clause-file c =
    let here = ap (λ (l : List Slot). position (has c.args.name) l) (sym c.deref.ensures.value) ∙ sym c.place.ensures ∙ c.in-Some.is in
    c.take.ensures.value ∙ was c.args.name c.args.slots.now.items c.in-Some.place c.index_mut.result.now None here c.index_mut.ensures.value

pub returns-in-Some-clause-folder : goal.returns-in-Some-clause-folder
returns-in-Some-clause-folder c =
    let here = ap (λ (l : List Slot). position (has c.args.name) l) (sym c.deref.ensures.value) ∙ sym c.place.ensures ∙ c.in-Some.is in
    let set : Option (List ℕ) → List Slot = λ file. slice_set c.args.slots.now.items c.in-Some.place (record { name = c.index_mut.result.now.name; file = file }) in
    subst (λ (file : Option (List ℕ)). Same (with_file c.args.name None (folder_of c.args.slots.now.items)) (folder_of (set file))) (sym c.take.ensures.after)
    (folder-set c.args.name c.args.slots.now.items c.in-Some.place c.index_mut.result.now None here c.index_mut.ensures.value)

pub returns-in-Some-clause-names : goal.returns-in-Some-clause-names
returns-in-Some-clause-names c =
    let here = ap (λ (l : List Slot). position (has c.args.name) l) (sym c.deref.ensures.value) ∙ sym c.place.ensures ∙ c.in-Some.is in
    names-set c.args.name c.args.slots.now.items c.in-Some.place c.index_mut.result.now c.take.new.self here c.index_mut.ensures.value

pub returns-in-None-clause-file : goal.returns-in-None-clause-file
returns-in-None-clause-file c =
    let nowhere = ap (λ (l : List Slot). position (has c.args.name) l) (sym c.deref.ensures.value) ∙ sym c.place.ensures ∙ c.in-None.is in
    sym (folder-absent c.args.name c.args.slots.now.items (absent c.args.name c.args.slots.now.items nowhere))

pub returns-in-None-clause-folder : goal.returns-in-None-clause-folder
returns-in-None-clause-folder c =
    let nowhere = ap (λ (l : List Slot). position (has c.args.name) l) (sym c.deref.ensures.value) ∙ sym c.place.ensures ∙ c.in-None.is in
    folder-none c.args.name c.args.slots.now.items nowhere
