use Rattle.std.proofs.Common.{◌≡◌, ◌≤◌, ◌+◌, length, arith}
use Rattle.lf_sqlite_pages.proofs.BlockLemmas.{length-bytes_in}
use Rattle.lf_sqlite_pages.proofs.BlockListLemmas.{piece-there, there-piece}
use Rattle.lf_sqlite_pages.proofs.blocks.Blocks.holds.Goals as goal

pub returns : goal.returns
returns c =
    let size : length c.args.self.now.bytes ≡ c.self.inside.len = rw (← c.self.view_is) (length-bytes_in c.self.inside.len c.self.inside.blocks.items) in
    let fits : c.args.at + length c.args.piece.now ≤ c.self.inside.len = omega (arith, size, c.requires) in
    let held = rw c.as_slice.ensures.value at c.holds.ensures in
    rw (← c.self.view_is) (
      λ is. piece-there c.self.inside.len c.self.inside.blocks.items c.args.at c.args.piece.now fits (held.0 is),
      λ same. held.1 (there-piece c.self.inside.len c.self.inside.blocks.items c.args.at c.args.piece.now fits same),
    )

pub holds-requires : goal.holds-requires
holds-requires c =
    let size : length c.args.self.now.bytes ≡ c.self.inside.len = rw (← c.self.view_is) (length-bytes_in c.self.inside.len c.self.inside.blocks.items) in
    omega (arith, size, c.requires, c.self.invariant.limit)
