use Rattle.std.proofs.Common.{◌≤◌, length, arith}
use Rattle.lf_disk.specs.Slots.{folder_of}
use Rattle.lf_disk.proofs.Choices.{on_ok, left-write}
use Rattle.lf_disk.proofs.choice.leave_write.Goals as goal

pub returns-in-Torn-clause-step : goal.returns-in-Torn-clause-step
returns-in-Torn-clause-step c =
    let fits : length c.split_at.result.0.now ≤ length c.args.piece.now = omega arith in
    on_ok c.write.result (left-write c.args.name c.args.at (length c.args.piece.now) c.split_at.result.0.now (folder_of c.args.image.now.items) (folder_of c.write.new.slots.items) fits) c.write.ensures.ok

pub returns-in-Whole-clause-step : goal.returns-in-Whole-clause-step
returns-in-Whole-clause-step c =
    on_ok c.write-in-Whole.result (left-write c.args.name c.args.at (length c.args.piece.now) c.args.piece.now (folder_of c.args.image.now.items) (folder_of c.write-in-Whole.new.slots.items) (omega arith)) c.write-in-Whole.ensures.ok
