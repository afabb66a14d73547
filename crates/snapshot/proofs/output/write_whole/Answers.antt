use Rattle.std.proofs.Common.{◌≤◌, length, arith, rules}
use Rattle.std.proofs.Math.Seq.{take-add}
use Rattle.std.proofs.KnownBytes.{Appends-trans}
use Rattle.snapshot.proofs.output.write_whole.Goals as goal

-- the bytes done before, and those that this call took
pub loop-done-preserved : goal.loop-done-preserved
loop-done-preserved g c =
    let count = c.in_ok-done.field-0 in
    let took = rw c.split_at.ensures.back at c.in_ok-done.ensures.bytes in
    let within : count ≤ length c.split_at.result.1.now = c.in_ok-done.ensures.count in
    record {
      within = omega arith;
      taken = rw take-add (Appends-trans _ _ _ _ _ c.loop-done.invariant.taken took);
      faults = search rules;
    }
