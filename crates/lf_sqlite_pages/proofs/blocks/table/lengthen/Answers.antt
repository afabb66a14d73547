use Rattle.std.proofs.Common.{◌∙◌, arith}
use Rattle.lf_sqlite_pages.proofs.BlockLemmas.{push-none-same, push-none-count}
use Rattle.lf_sqlite_pages.proofs.blocks.table.lengthen.Goals as goal

pub loop-added-preserved : goal.loop-added-preserved
loop-added-preserved c =
    let pushed = rw c.unwrap.ensures at c.push-pushed.ensures.items in
    let longer = rw c.unwrap.ensures at c.push-pushed.ensures.len in
    record {
      len = omega (arith, longer, c.loop-added.invariant.len);
      stop = omega (arith, c.loop-added-test.true);
      same = λ n. push-none-same c.loop-added.blocks.items c.push-pushed.new.self.items c.none.result c.none.ensures pushed n ∙ c.loop-added.invariant.same n;
      count = push-none-count c.loop-added.blocks.items c.push-pushed.new.self.items c.none.result c.none.ensures pushed ∙ c.loop-added.invariant.count;
      capacity = omega (arith, c.push-pushed.ensures.capacity, c.loop-added.invariant.capacity);
    }

pub returns-clause-len : goal.returns-clause-len
returns-clause-len c = omega (arith, c.loop-added.invariant.len, c.loop-added.invariant.stop, c.loop-added-test.false, c.len-added.ensures)
