use Rattle.std.proofs.Common.{arith}
use Rattle.lf_sqlite_pages.specs.BlockTable.{bytes_in, IsRead}
use Rattle.lf_sqlite_pages.proofs.BlockLemmas.{length-bytes_in}
use Rattle.lf_sqlite_pages.proofs.BlockListLemmas.{read-none, read-some}
use Rattle.lf_sqlite_pages.proofs.blocks.Blocks.read.Goals as goal

pub returns-then-at-self : goal.returns-then-at-self
returns-then-at-self c =
    rw (← c.self.view_is)
    (read-none (bytes_in c.self.inside.len c.self.inside.blocks.items) c.args.out.now c.args.at (omega (arith, length-bytes_in c.self.inside.len c.self.inside.blocks.items, c.if-at-self.true)))

pub returns : goal.returns
returns c =
    let split = c.split_at_mut-front in
    let read : IsRead c.self.inside.blocks.items c.args.at c.min-count.result split.result.0.now c.read.new.out =
    rw (c.as_slice.ensures.value, split.ensures.front_len) at c.read.ensures in
    rw (← c.self.view_is)
    (read-some c.self.inside.len c.self.inside.blocks.items c.args.at c.min-count.result c.args.out.now split.result.0.now c.read.new.out split.result.1.now
    c.if-at-self.false c.min-count.ensures (omega (arith, c.read.auto.out, split.ensures.front_len)) read split.ensures.back)
