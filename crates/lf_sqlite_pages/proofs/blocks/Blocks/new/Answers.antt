use Rattle.std.proofs.Common.{refl}
use Rattle.lf_sqlite_pages.specs.BlockTable.{bytes_in, kept_in}
use Rattle.lf_sqlite_pages.proofs.blocks.Blocks.new.Goals as goal

pub returns : goal.returns
unfolding bytes_in kept_in
returns c = rw c.new.ensures.items refl
