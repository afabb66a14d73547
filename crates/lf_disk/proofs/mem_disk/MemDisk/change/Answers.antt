use Rattle.std.proofs.Common.{List, inl, inr, sym, subst}
use Rattle.lf_disk.specs.declared.record.Call.{Call}
use Rattle.lf_disk.specs.MemDisk.{IsCurrent}
use Rattle.lf_disk.proofs.Records.{current-done, current-failed}
use Rattle.lf_disk.proofs.mem_disk.MemDisk.change.Goals as goal

pub invariant_of-self : goal.invariant_of-self
invariant_of-self c =
    let d = c.self.inside in
    elim c.note_failed.ensures.noted [
      | inl same ↦ subst (λ (l : List Call). IsCurrent d.first.items l d.files.items) (sym same) c.self.invariant
      | inr noted ↦ subst (λ (l : List Call). IsCurrent d.first.items l d.files.items) (sym noted) (current-failed d.first.items d.calls.items d.files.items c.args.change c.self.invariant)
    ]

pub invariant_of-self-in-Ok : goal.invariant_of-self-in-Ok
invariant_of-self-in-Ok c =
    let d = c.self.inside in
    subst (λ (l : List Call). IsCurrent d.first.items l c.enact.new.slots.items) (sym c.in-Ok.ensures.ok)
    (current-done d.first.items d.calls.items d.files.items c.enact.new.slots.items c.args.change c.self.invariant c.in-Ok.ensures.folder (c.enact.ensures.orderly c.self.invariant.orderly))
