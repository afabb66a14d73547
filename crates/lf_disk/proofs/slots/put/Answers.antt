use Rattle.std.proofs.Common.{List, sym, ◌∙◌, ap}
use Rattle.std.specs.List.{position}
use Rattle.lf_disk.specs.declared.slots.Slot.{Slot}
use Rattle.lf_disk.proofs.SlotLemmas.{has, folder-set, names-set, absent}
use Rattle.lf_disk.proofs.slots.put.Goals as goal

pub returns-clause-folder : goal.returns-clause-folder
returns-clause-folder c =
    let here = ap (λ (l : List Slot). position (has c.args.name) l) (sym c.deref.ensures.value) ∙ sym c.place.ensures ∙ c.in-Some.is in
    folder-set c.args.name c.args.slots.now.items c.in-Some.place c.index_mut.result.now c.args.file here c.index_mut.ensures.value

pub returns-clause-names : goal.returns-clause-names
returns-clause-names c =
    let here = ap (λ (l : List Slot). position (has c.args.name) l) (sym c.deref.ensures.value) ∙ sym c.place.ensures ∙ c.in-Some.is in
    names-set c.args.name c.args.slots.now.items c.in-Some.place c.index_mut.result.now c.args.file here c.index_mut.ensures.value

pub unreachable-requires : goal.unreachable-requires
unreachable-requires c =
    c.requires (absent c.args.name c.args.slots.now.items (ap (λ (l : List Slot). position (has c.args.name) l) (sym c.deref.ensures.value) ∙ sym c.place.ensures ∙ c.in-None.is))
