use Rattle.std.proofs.Common.{◌+◌, ◌*◌, ◌≤◌, sym, arith}
use Rattle.lf_base.specs.FileBytes.{resized}
use Rattle.wal_watch.proofs.Steps.{with_pairs_none}
use Rattle.wal_watch.proofs.PieceLemmas.{sums-more}
use Rattle.wal_watch.proofs.sums.sums_by.Goals as goal

pub loop-done-init : goal.loop-done-init
loop-done-init c = record {
  within = omega arith;
  sums = λ len fits. sym (with_pairs_none c.args.little c.args.sums c.args.place (resized len c.args.blocks.now.bytes));
}

pub loop-done-preserved : goal.loop-done-preserved
loop-done-preserved c = record {
  within = omega (arith, c.min-pairs.ensures, c.loop-done-test.true);
  sums =
      λ len fits.
      let contents = resized len c.args.blocks.now.bytes in
      let room : c.args.place + 8 * c.loop-done.done + 8 * c.min-pairs.result ≤ len = omega (arith, fits, c.min-pairs.ensures, c.loop-done-test.true) in
      let part = rw c.split_at_mut-part.ensures.front_len at (c.fill.ensures len (omega (arith, room, c.split_at_mut-part.ensures.front_len))) in
      sums-more c.args.little c.args.sums c.loop-done.sums c.with_pairs-sums.result c.args.place c.loop-done.done c.min-pairs.result contents c.fill.new.out
      (c.loop-done.invariant.sums len fits) part c.with_pairs-sums.ensures;
}
