use Rattle.std.proofs.Common.{◌≡◌, ◌-◌, ◌<◌, ◌∙◌, [], ap, sym, subst, arith, length, ℕ, take, vec_len}
use Rattle.lf_sqlite_pages.specs.BlockTable.{IsReleased, IsGivenBack, block_at}
use Rattle.lf_sqlite_pages.proofs.BlockLemmas.{released-none, released-more, take-same}
use Rattle.lf_sqlite_pages.proofs.blocks.table.release.Goals as goal

pub loop-blocks-init : goal.loop-blocks-init
loop-blocks-init c = record {
  low = omega arith;
  high = omega arith;
  released = released-none c.args.blocks.now.items c.args.ready.now c.args.first _ (omega (arith, c.args.blocks.now.ok.0));
  capacity = omega arith;
}

pub loop-blocks-preserved : goal.loop-blocks-preserved
loop-blocks-preserved c =
    let old = c.args.blocks.now.items in
    let cur = c.loop-blocks.blocks.items in
    let size : vec_len c.loop-blocks.blocks ≡ length cur = omega (arith, c.loop-blocks.blocks.ok.0) in
    let some : 0 < length cur = omega (arith, size, c.loop-blocks-test.true, c.len.ensures) in
    let shorter : vec_len c.pop.new.self ≡ length cur - 1 = omega (arith, c.pop.ensures.len, rw c.unwrap-block.ensures at c.pop.ensures.len, size) in
    let at : c.unwrap-block.result ≡ block_at cur (vec_len c.loop-blocks.blocks - 1) = (let v = c.pop.ensures.value [] (omega (arith, some, size)) in cc) in
    let released : IsReleased old c.args.first c.args.ready.now (length cur) cur c.loop-blocks.ready = rw size at c.loop-blocks.invariant.released in
    record {
      low = omega (arith, shorter, c.loop-blocks.invariant.low, c.loop-blocks-test.true, c.len.ensures, size);
      high = omega (arith, shorter, c.loop-blocks.invariant.high, size);
      released =
          subst (λ (k : ℕ). IsReleased old c.args.first c.args.ready.now k c.pop.new.self.items c.give_back.new.ready) (sym shorter)
          (released-more old c.args.ready.now cur c.loop-blocks.ready c.pop.new.self.items c.give_back.new.ready c.args.first c.unwrap-block.result released some
          (c.pop.ensures.rest ∙ ap (λ (k : ℕ). take (k - 1) cur) size) (at ∙ ap (λ (k : ℕ). block_at cur (k - 1)) size) (omega arith)
          (λ le. subst (λ (k : ℕ). IsGivenBack c.loop-blocks.ready (k - c.args.first) c.unwrap-block.result c.give_back.new.ready) (c.len-in-loop-blocks.ensures ∙ shorter)
          (c.give_back.ensures.back (omega (arith, le, shorter, c.len-in-loop-blocks.ensures))))
          (λ under. c.give_back.ensures.before (omega (arith, under, shorter, c.len-in-loop-blocks.ensures))));
      capacity = omega (arith, c.pop.ensures.capacity, c.loop-blocks.invariant.capacity);
    }

pub returns-clause-released : goal.returns-clause-released
returns-clause-released c =
    let inv = c.loop-blocks.invariant in
    record {
      blocks = inv.released.blocks ∙ take-same c.args.blocks.now.items _ c.args.count (omega (arith, inv.low, inv.high, c.loop-blocks-test.false, c.len.ensures, c.args.blocks.now.ok.0));
      still_ready = inv.released.still_ready;
    }
