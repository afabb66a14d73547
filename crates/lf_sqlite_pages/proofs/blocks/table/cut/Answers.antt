use Rattle.std.proofs.Common.{◌≡◌, ap, arith, length}
use Rattle.std.proofs.lemmas.List.{with_items_is, length-take}
use Rattle.std.specs.Vec.{with_items}
use Rattle.lf_sqlite_pages.specs.BlockTable.{IsReleased, blocks_in}
use Rattle.lf_sqlite_pages.proofs.BlockLemmas.{cut-is}
use Rattle.lf_sqlite_pages.proofs.blocks.table.cut.Goals as goal

pub clear_tail-requires : goal.clear_tail-requires
clear_tail-requires c =
    omega (arith, c.blocks_in.ensures, ap length c.as_mut_slice.ensures.value, ap length c.release.ensures.released.blocks, length-take c.blocks_in.result c.args.blocks.now.items)

pub returns-clause-cut : goal.returns-clause-cut
returns-clause-cut c =
    let back : (with_items c.release.new.blocks c.clear_tail.new.blocks).items ≡ c.clear_tail.new.blocks =
    with_items_is c.release.new.blocks c.clear_tail.new.blocks (omega (arith, c.clear_tail.auto.blocks, c.as_mut_slice.ensures.len)) in
    let released : IsReleased c.args.blocks.now.items c.args.first c.args.ready.now (blocks_in c.args.len) c.as_mut_slice.result.now c.release.new.ready =
    rw c.as_mut_slice.ensures.value (rw c.blocks_in.ensures at c.release.ensures.released) in
    rw back
    (cut-is c.args.blocks.now.items c.args.ready.now c.as_mut_slice.result.now c.release.new.ready c.clear_tail.new.blocks c.args.first c.args.len released
    c.clear_tail.ensures.table c.clear_tail.ensures.same c.clear_tail.ensures.sizes c.clear_tail.ensures.count)
