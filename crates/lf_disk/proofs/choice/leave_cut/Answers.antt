use Rattle.std.proofs.Common.{◌≤◌, ◌≡◌, List, min, max, length, arith, ◌∙◌, ap}
use Rattle.lf_disk.specs.declared.slots.Slot.{Slot}
use Rattle.lf_disk.specs.Slots.{folder_of}
use Rattle.lf_disk.specs.Folder.{bytes_of}
use Rattle.lf_disk.proofs.Choices.{on_ok, left-cut}
use Rattle.lf_disk.proofs.choice.leave_cut.Goals as goal

pub returns-in-Torn-clause-step : goal.returns-in-Torn-clause-step
returns-in-Torn-clause-step c =
    let old : c.length_of-old.result ≡ length (bytes_of (folder_of c.args.image.now.items c.args.name)) =
    c.length_of-old.ensures ∙ ap (λ (l : List Slot). length (bytes_of (folder_of l c.args.name))) c.deref.ensures.value in
    let low : min (length (bytes_of (folder_of c.args.image.now.items c.args.name))) c.args.len ≤ c.half_way.result = omega arith in
    let high : c.half_way.result ≤ max (length (bytes_of (folder_of c.args.image.now.items c.args.name))) c.args.len = omega arith in
    on_ok c.cut.result (left-cut c.args.name c.args.len c.half_way.result (folder_of c.args.image.now.items) (folder_of c.cut.new.slots.items) low high) c.cut.ensures.ok

pub returns-in-Whole-clause-step : goal.returns-in-Whole-clause-step
returns-in-Whole-clause-step c =
    on_ok c.cut-in-Whole.result (left-cut c.args.name c.args.len c.args.len (folder_of c.args.image.now.items) (folder_of c.cut-in-Whole.new.slots.items) (omega arith) (omega arith)) c.cut-in-Whole.ensures.ok
