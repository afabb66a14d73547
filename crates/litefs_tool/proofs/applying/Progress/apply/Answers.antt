use Rattle.litefs_tool.proofs.ApplyingLemmas.{HasApplied-joins, stays-refused, is-kept}
use Rattle.litefs_tool.proofs.applying.Progress.apply.Goals as goal

pub returns-in-Ok : goal.returns-in-Ok
returns-in-Ok c = λ bytes part ends. HasApplied-joins c.args.self _ bytes part c.args.file ends c.in-Ok.ensures.joins c.in-Ok.ensures.ok c.in-Ok.ensures.sum

pub returns-in-Err : goal.returns-in-Err
returns-in-Err c = λ bytes part ends. is-kept _ _ _ c.kept.ensures.kept c.kept.ensures.not_memory
    (stays-refused c.args.self bytes part c.args.file _ ends c.in-Err.ensures.refused)
