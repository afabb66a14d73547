use Rattle.page_checksum.proofs.BlockLemmas.{fold_is}
use Rattle.page_checksum.proofs.blocks.fold_carried.Goals as goal

pub returns : goal.returns
returns c =
    fold_is c.args.state.now c.args.end.now c.args.block.now c.multiply.new.state c.told-state c.told-end c.told-block c.multiply.array_long c.fits-state c.fits-end c.requires
    (rw c.pad-padded.ensures at c.multiply.ensures)
