use Rattle.std.proofs.Common.{◌++◌, List, ℕ, take, replicate, ap, ◌∙◌}
use Rattle.page_checksum.proofs.BlockLemmas.{end_written}
use Rattle.page_checksum.proofs.blocks.pad.Goals as goal

pub returns : goal.returns
returns c =
    end_written c.copy_from_slice.new.self c.copy_from_slice-2.new.self (replicate 32 0) c.copy_from_slice.ensures.len
    ∙ ap (λ (xs : List ℕ). xs ++ c.copy_from_slice-2.new.self ++ replicate 16 0) c.copy_from_slice.ensures.after
    ∙ ap (λ (xs : List ℕ). take 240 c.args.block.now ++ xs ++ replicate 16 0) c.copy_from_slice-2.ensures.after
