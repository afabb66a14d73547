-- Each write of a change has its place among the pages, and is as long as they are.
use Rattle.std.proofs.Common.{◌≡◌, ◌-◌, ◌∙◌, sym, ap, length, get_or, arith}
use Rattle.lf_sqlite_pages.proofs.Applying.{WritesWhole, WritesWhole-at}
use Rattle.lf_sqlite_pages.proofs.pages.overwrite.Goals as goal

pub overflow_sub-w : goal.overflow_sub-w
overflow_sub-w c =
    let known : WritesWhole c.args.change.now c.w-item.result =
    WritesWhole-at _ _ c.pages-writes.ensures.valid c.pages-writes.ensures.value c.loop-w.w-index _ c.loop-w-test.true c.w-item.is
    in
    omega (arith, known.first)

pub index_mut-requires : goal.index_mut-requires
index_mut-requires c =
    let known : WritesWhole c.args.change.now c.w-item.result =
    WritesWhole-at _ _ c.pages-writes.ensures.valid c.pages-writes.ensures.value c.loop-w.w-index _ c.loop-w-test.true c.w-item.is
    in
    omega (arith, known.first, known.last, c.loop-w.invariant.count)

pub overwrite-requires : goal.overwrite-requires
overwrite-requires c =
    let known : WritesWhole c.args.change.now c.w-item.result =
    WritesWhole-at _ _ c.pages-writes.ensures.valid c.pages-writes.ensures.value c.loop-w.w-index _ c.loop-w-test.true c.w-item.is
    in
    let page = c.index_mut.result.now in
    let old : length (get_or c.loop-w.pages.items (c.w-item.result.number - 1) page) ≡ c.args.change.now.page_size =
    c.loop-w.invariant.whole _ page (omega (arith, known.first, known.last, c.loop-w.invariant.count))
    in
    ap length c.as_slice.ensures ∙ known.whole ∙ sym old ∙ sym (ap length c.index_mut.ensures.value)
