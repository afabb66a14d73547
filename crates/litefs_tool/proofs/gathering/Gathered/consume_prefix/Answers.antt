use Rattle.std.proofs.Common.{take}
use Rattle.std.proofs.Math.Seq.{take-length}
use Rattle.litefs_tool.proofs.CompactionLemmas.{HasGathered-more, stays-broken}
use Rattle.litefs_tool.proofs.gathering.Gathered.consume_prefix.Goals as goal

pub returns-in-Ok-None-clause-consumed : goal.returns-in-Ok-None-clause-consumed
returns-in-Ok-None-clause-consumed c = λ before so_far.
    let begun = rw c.in-Ok-None.field-0-is at (c.in-Ok-None.ensures.gives so_far.unfinished so_far.begun) in
    rw take-length (HasGathered-more c.args.self _ before c.args.bytes.now so_far begun)

pub returns-in_ok-add-in-Ok-Some-clause-consumed : goal.returns-in_ok-add-in-Ok-Some-clause-consumed
returns-in_ok-add-in-Ok-Some-clause-consumed c = λ before so_far.
    let reads = rw c.in-Ok-Some.field-0-is at (c.in-Ok-Some.ensures.gives so_far.unfinished so_far.begun) in
    c.in_ok-add-in-Ok-Some.ensures before (take c.in-Ok-Some.used c.args.bytes.now) (record {
      unfinished = so_far.unfinished;
      begun = reads.3;
      have = so_far.have;
      whole = reads.2;
    })

pub returns-in_ok-kept-in-Err-clause-consumed : goal.returns-in_ok-kept-in-Err-clause-consumed
returns-in_ok-kept-in-Err-clause-consumed c = λ before so_far.
    let cause = c.in-Err.ensures.gives so_far.unfinished so_far.begun in
    rw (c.in_ok-kept-in-Err.ensures.kept, take-length) (stays-broken c.args.self.files.items so_far.unfinished before c.args.bytes.now c.in-Err.fault
    so_far.have cause c.in_ok-kept-in-Err.ensures.not_memory c.requires.more)
