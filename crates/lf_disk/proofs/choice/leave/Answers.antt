use Rattle.std.proofs.Common.{ℕ, List, None, length, OnOk, refl, sym, subst}
use Rattle.lf_disk.specs.declared.record.Change.{Change}
use Rattle.lf_disk.specs.Slots.{folder_of}
use Rattle.lf_disk.specs.Change.{OnFile, Becomes, Renames, Stands, Torn}
use Rattle.lf_disk.specs.Replay.{CrashStep}
use Rattle.lf_disk.specs.Laws.{replaced}
use Rattle.lf_disk.proofs.Choices.{on_ok, taken}
use Rattle.lf_disk.proofs.choice.leave.Goals as goal

pub returns-in-Write-clause-step : goal.returns-in-Write-clause-step
returns-in-Write-clause-step c =
    let f = folder_of c.args.image.now.items in
    let g = folder_of c.leave_write.new.image.items in
    let piece = subst (λ (p : List ℕ). OnOk c.leave_write.result (OnFile c.in-Write.name (Stands (Torn c.in-Write.at (length p))) f g)) c.as_slice.ensures c.leave_write.ensures.step in
    subst (λ (ch : Change). OnOk c.leave_write.result (CrashStep (record { change = ch; done = c.args.call.now.done }) (folder_of c.args.seen.now) f g)) (sym c.in-Write.is) piece

pub returns-in-Cut-clause-step : goal.returns-in-Cut-clause-step
returns-in-Cut-clause-step c =
    let f = folder_of c.args.image.now.items in
    let g = folder_of c.leave_cut.new.image.items in
    subst (λ (ch : Change). OnOk c.leave_cut.result (CrashStep (record { change = ch; done = c.args.call.now.done }) (folder_of c.args.seen.now) f g)) (sym c.in-Cut.is) c.leave_cut.ensures.step

pub returns-in-Sync-clause-step : goal.returns-in-Sync-clause-step
returns-in-Sync-clause-step c =
    let f = folder_of c.args.image.now.items in
    let g = folder_of c.copy.new.slots.items in
    let seen = folder_of c.args.seen.now in
    let name = c.in-Sync.name in
    subst (λ (ch : Change). OnOk c.copy.result (CrashStep (record { change = ch; done = c.args.call.now.done }) seen f g)) (sym c.in-Sync.is)
    (on_ok c.copy.result (λ same. taken c.args.call.now.done (OnFile name (Becomes (seen name))) f g (replaced name (seen name) (Becomes (seen name)) f g same refl)) c.copy.ensures.ok)

pub returns-in-Rename-clause-step : goal.returns-in-Rename-clause-step
returns-in-Rename-clause-step c =
    let f = folder_of c.args.image.now.items in
    let g = folder_of c.rename.new.slots.items in
    subst (λ (ch : Change). OnOk c.rename.result (CrashStep (record { change = ch; done = c.args.call.now.done }) (folder_of c.args.seen.now) f g)) (sym c.in-Rename.is)
    (on_ok c.rename.result (λ same. taken c.args.call.now.done (Renames c.in-Rename.from c.in-Rename.to) f g same) c.rename.ensures.ok)

pub returns-in-Remove-clause-step : goal.returns-in-Remove-clause-step
returns-in-Remove-clause-step c =
    let f = folder_of c.args.image.now.items in
    let g = folder_of c.remove.new.slots.items in
    let name = c.in-Remove.name in
    subst (λ (ch : Change). CrashStep (record { change = ch; done = c.args.call.now.done }) (folder_of c.args.seen.now) f g) (sym c.in-Remove.is)
    (taken c.args.call.now.done (OnFile name (Becomes None)) f g (replaced name None (Becomes None) f g c.remove.ensures.folder refl))
