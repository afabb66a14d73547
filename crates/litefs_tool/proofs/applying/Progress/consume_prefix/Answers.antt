use Rattle.std.proofs.Common.{take}
use Rattle.std.proofs.Math.Seq.{take-length}
use Rattle.litefs_tool.proofs.ApplyingLemmas.{HasApplied-more, stays-broken, some-consumed}
use Rattle.litefs_tool.proofs.applying.Progress.consume_prefix.Goals as goal

pub returns-in-Ok-None-clause-consumed : goal.returns-in-Ok-None-clause-consumed
returns-in-Ok-None-clause-consumed c = λ before so_far.
    let begun = rw c.in-Ok-None.field-0-is at (c.in-Ok-None.ensures.gives so_far.unfinished so_far.begun) in
    rw take-length (HasApplied-more c.args.self _ before c.args.bytes.now so_far begun c.requires.more)

pub returns-in_ok-apply-in-Ok-Some-clause-consumed : goal.returns-in_ok-apply-in-Ok-Some-clause-consumed
returns-in_ok-apply-in-Ok-Some-clause-consumed c = λ before so_far.
    let reads = rw c.in-Ok-Some.field-0-is at (c.in-Ok-Some.ensures.gives so_far.unfinished so_far.begun) in
    c.in_ok-apply-in-Ok-Some.ensures before (take c.in-Ok-Some.used c.args.bytes.now) (record {
      unfinished = so_far.unfinished;
      begun = reads.3;
      sum = so_far.sum;
      more = so_far.more;
      some = some-consumed c.in-Ok-Some.used c.args.bytes.now reads.0 reads.1;
      whole = reads.2;
    })

pub returns-in_ok-kept-in-Err-clause-consumed : goal.returns-in_ok-kept-in-Err-clause-consumed
returns-in_ok-kept-in-Err-clause-consumed c = λ before so_far.
    let cause = c.in-Err.ensures.gives so_far.unfinished so_far.begun in
    rw (c.in_ok-kept-in-Err.ensures.kept, take-length) (stays-broken c.args.self before c.args.bytes.now c.in-Err.fault _ so_far cause
    c.requires.more c.from.ensures c.in_ok-kept-in-Err.ensures.not_memory)
