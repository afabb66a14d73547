use Rattle.std.proofs.Common.{◌≡◌, ℕ, ◌+◌, ◌<◌, ◌≢◌, ◌++◌, List, [], length, get_or, take, replicate, arith, ap, ◌∙◌, below_more, get_or-set_other, get_or-set_same, length-set}
use Rattle.std.proofs.lemmas.List.{append-nil}
use Rattle.std.specs.Prelude.{bit_xor}
use Rattle.page_checksum.specs.Blocks.{carry_after}
use Rattle.page_checksum.proofs.blocks.carry.Goals as goal

pub loop-k-preserved : goal.loop-k-preserved
loop-k-preserved c =
    let front : c.copy_from_slice.new.self ++ [] ≡ take 16 c.args.block.now = append-nil c.copy_from_slice.new.self ∙ c.copy_from_slice.ensures.after in
    record {
      long = length-set _ _ _ ∙ c.loop-k.invariant.long;
      made = below_more _ _
          (λ i below. let other : i ≢ c.loop-k.k = omega arith in rw get_or-set_other (c.loop-k.invariant.made i below))
          (let within : c.loop-k.k < length c.loop-k.end = omega arith in
          rw get_or-set_same (ap (λ (xs : List ℕ). bit_xor (get_or c.args.block.now (240 + c.loop-k.k) 0) (carry_after (replicate 12 0 ++ xs) c.loop-k.k)) front));
    }
