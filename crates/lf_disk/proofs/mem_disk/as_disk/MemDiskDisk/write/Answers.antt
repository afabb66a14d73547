use Rattle.std.proofs.Common.{ℕ, List, length, inl, OnOk, OnErr, ◌∙◌, subst}
use Rattle.lf_disk.specs.declared.record.Change.TheVariants.{Write}
use Rattle.lf_disk.specs.Change.{OnFile, Writes, Stands, Torn}
use Rattle.lf_disk.specs.History.{Moves}
use Rattle.lf_disk.specs.MemDisk.{history_of}
use Rattle.lf_disk.proofs.Histories.{done, failed, ticks, on_err}
use Rattle.lf_disk.proofs.mem_disk.as_disk.MemDiskDisk.write.Goals as goal

pub returns-in-Ok-clause-done : goal.returns-in-Ok-clause-done
returns-in-Ok-clause-done c =
    let old = c.args.self.now in
    let new = c.change.new.self in
    subst (λ (piece : List ℕ). OnOk c.change.result (Moves (OnFile c.args.name (Writes c.args.at piece)) (OnFile c.args.name (Stands (Torn c.args.at (length piece)))) (history_of old) (history_of new)))
    (c.of.ensures ∙ c.in-Ok.ensures.items)
    (done old.first new.first old.calls new.calls (Write c.args.name c.args.at c.of.result) c.change.ensures.first c.change.result c.change.ensures.done)

pub returns-in-Ok-clause-failed : goal.returns-in-Ok-clause-failed
returns-in-Ok-clause-failed c =
    let old = c.args.self.now in
    let new = c.change.new.self in
    subst (λ (piece : List ℕ). OnErr c.change.result (Moves (OnFile c.args.name (Stands (Torn c.args.at (length piece)))) (OnFile c.args.name (Stands (Torn c.args.at (length piece)))) (history_of old) (history_of new)))
    (c.of.ensures ∙ c.in-Ok.ensures.items)
    (failed old.first new.first old.calls new.calls (Write c.args.name c.args.at c.of.result) c.change.ensures.first c.change.result c.change.ensures.failed)

pub returns-in-Ok-clause-ticks : goal.returns-in-Ok-clause-ticks
returns-in-Ok-clause-ticks c =
    ticks c.args.self.now.first c.change.new.self.first c.args.self.now.calls c.change.new.self.calls (Write c.args.name c.args.at c.of.result) c.change.ensures.first c.change.result
    c.change.ensures.done c.change.ensures.failed c.change.ensures.last

pub returns-in-Err-clause-failed : goal.returns-in-Err-clause-failed
returns-in-Err-clause-failed c =
    let old = c.args.self.now in
    let new = c.refuse.new.self in
    failed old.first new.first old.calls new.calls (Write c.args.name c.args.at c.args.bytes.now) c.refuse.ensures.same.0 c.refuse.result (on_err c.refuse.result (inl c.refuse.ensures.same.1))
