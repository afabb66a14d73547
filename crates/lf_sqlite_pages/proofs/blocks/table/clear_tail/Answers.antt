use Rattle.std.proofs.Common.{◌≡◌, ◌/◌, [], sym, ◌∙◌, get_or}
use Rattle.std.proofs.lemmas.List.{get_or_read}
use Rattle.lf_sqlite_pages.specs.BlockTable.{block_at}
use Rattle.lf_sqlite_pages.proofs.BlockLemmas.{tail-table, tail-same, tail-sizes, tail-count}
use Rattle.lf_sqlite_pages.proofs.blocks.table.clear_tail.Goals as goal

pub returns-then-len-blocks : goal.returns-then-len-blocks
returns-then-len-blocks c =
    let blocks = c.args.blocks.now in
    let block = get_or blocks (c.args.len / 4096) c.index-blocks-len.result in
    let is : get_or blocks (c.args.len / 4096) c.index-blocks-len.result ≡ block_at blocks (c.args.len / 4096) = sym c.index-blocks-len.is ∙ get_or_read blocks (c.args.len / 4096) c.index-blocks-len.result c.if-len-blocks.true c.index-blocks-len.is [] in
    rw c.clear_from.ensures record {
      table = tail-table blocks c.args.len block c.requires c.if-len-blocks.true is;
      same = tail-same blocks c.args.len block c.requires c.if-len-blocks.true is;
      sizes = tail-sizes blocks c.args.len block c.requires c.if-len-blocks.true is;
      count = tail-count blocks c.args.len block c.requires c.if-len-blocks.true is;
    }
