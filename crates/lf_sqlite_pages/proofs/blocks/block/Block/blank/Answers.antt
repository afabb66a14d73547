use Rattle.std.proofs.Common.{refl}
use Rattle.lf_sqlite_pages.proofs.BlockLemmas.{blank-zeros}
use Rattle.lf_sqlite_pages.proofs.blocks.block.Block.blank.Goals as goal

pub returns : goal.returns
returns c = blank-zeros 4096 c.in_ok-bytes.bytes.items c.in_ok-bytes.ensures refl
