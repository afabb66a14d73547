use Rattle.page_checksum.proofs.PieceLemmas.{piece_joined}
use Rattle.page_checksum.proofs.blocks.fold_all.Goals as goal

pub loop-block-preserved : goal.loop-block-preserved
loop-block-preserved c =
    piece_joined c.args.state.now c.loop-block.state c.fold.new.state c.args.blocks.now c.loop-block.block-index c.loop-block-test.true c.loop-block.invariant c.fold.ensures
