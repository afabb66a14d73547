use Rattle.std.proofs.Common.{◌≡◌, ◌∙◌, ◌<◌, ◌≤◌, Some, length, sym, arith, rules}
use Rattle.std.specs.List.{slice_get}
use Rattle.lf_sqlite_pages.proofs.PageNumbers.{page_at-next}
use Rattle.litefs_tool.specs.Output.{AppendsPrefix}
use Rattle.litefs_tool.proofs.OutputLemmas.{AppendsAllBut-more, AppendsPrefix-held, concat-split, concat-take, page_size-most, on_err, map_on_err}
use Rattle.litefs_tool.proofs.output.write_image.Goals as goal

pub add_bytes-requires : goal.add_bytes-requires
add_bytes-requires g c =
    let some : 0 < length c.args.image.now.pages = omega (arith, c.loop-number-test.true, c.commit.ensures.value) in
    let size : c.args.image.now.page_size ≤ 65536 = page_size-most _ (c.commit.ensures.valid.of_a_page_size some) in
    record { fits = omega (arith, c.page.ensures.whole, size, c.loop-number.invariant.room) }

-- the pages before, and this one
pub loop-number-preserved : goal.loop-number-preserved
loop-number-preserved g c =
    let before = c.loop-number.number in
    let found : slice_get c.args.image.now.pages before ≡ Some c.page.result.now = sym (page_at-next c.args.image.now before) ∙ c.page.ensures.value in
    record {
      within = search rules;
      taken = rw (concat-take c.args.image.now.pages before c.page.result.now found)
          (AppendsAllBut-more _ _ _ _ _ c.page.result.now _ c.loop-number.invariant.taken c.in_ok-add_bytes.ensures.whole);
      room = omega (arith, c.loop-number.invariant.room, c.add_bytes.ensures.room);
      faults = search rules;
    }

-- the pages before but for those in the buffer, and a prefix of these
pub returns-in_err-add_bytes-clause-prefix : goal.returns-in_err-add_bytes-clause-prefix
returns-in_err-add_bytes-clause-prefix g c =
    let pages = c.args.image.now.pages in
    on_err _ _ (AppendsPrefix-held _ _ _ _ _ _ _ c.loop-number.invariant.taken c.in_err-add_bytes.ensures.prefix (concat-split pages c.loop-number.number))

pub returns-clause-prefix : goal.returns-clause-prefix
returns-clause-prefix g c =
    let pages = c.args.image.now.pages in
    let held = rw c.as_slice-rest.ensures.value at c.write_whole.ensures.prefix in
    map_on_err c.write_whole.result (AppendsPrefix (g.S.Sink.taken c.loop-number.sink) (g.S.Sink.taken c.write_whole.new.sink) c.loop-number.buffer.items) _
    (λ prefix. AppendsPrefix-held _ _ _ _ _ _ _ c.loop-number.invariant.taken prefix (concat-split pages c.loop-number.number)) held
