use Rattle.std.proofs.Common.{refl}
use Rattle.lf_sqlite_pages.specs.BlockTable.{bytes_in}
use Rattle.lf_sqlite_pages.proofs.BlockLemmas.{length-bytes_in}
use Rattle.lf_sqlite_pages.proofs.BlockListLemmas.{nothing-back}
use Rattle.lf_sqlite_pages.proofs.blocks.Blocks.save_nothing.Goals as goal

pub returns : goal.returns
returns c =
    let bytes = bytes_in c.self.inside.len c.self.inside.blocks.items in
    rw (← c.self.view_is, c.clear.ensures.items, nothing-back c.self.inside.len bytes (length-bytes_in c.self.inside.len c.self.inside.blocks.items)) refl
