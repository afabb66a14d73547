use Rattle.std.proofs.Common.{◌≡◌, ◌+◌, List, ℕ, drop, refl, sym, ap, ◌∙◌, arith, rules}
use Rattle.std.specs.Int.{w32, to_be_bytes}
use Rattle.page_checksum.specs.Crc.{after_bytes}
use Rattle.ltx_codec.specs.Format.{pages_encoding}
use Rattle.litefs_tool.proofs.FileLemmas.{pages_encoding-drop, after_bytes-parts}
use Rattle.litefs_tool.proofs.GatherLemmas.{HasAdded-as, HasAdded-more, HasAdded-fails}
use Rattle.litefs_tool.proofs.OutputLemmas.{on_err}
use Rattle.litefs_tool.proofs.file_output.add_pages.Goals as goal

pub returns-in_err-add_bytes-clause-prefix : goal.returns-in_err-add_bytes-clause-prefix
returns-in_err-add_bytes-clause-prefix g c =
    on_err _ _ (HasAdded-fails _ _ _ _ _ _ c.loop-page.invariant.added c.in_err-add_bytes.ensures.prefix)

-- the number was added, and of the page and what is held a prefix was written
pub returns-in_err-add_bytes-2-clause-prefix : goal.returns-in_err-add_bytes-2-clause-prefix
returns-in_err-add_bytes-2-clause-prefix g c =
    let w = c.page-item.result in
    let so_far = HasAdded-as _ _ _ _ _ _ (pages_encoding-drop c.args.pages.now c.loop-page.page-index w c.loop-page-test.true c.page-item.is) c.loop-page.invariant.added in
    let numbered = HasAdded-more _ _ _ _ _ _ _ _ so_far (rw c.to_be_bytes-number.ensures at c.in_ok-add_bytes.ensures.whole) in
    on_err _ _ (HasAdded-fails _ _ _ _ _ _ numbered c.in_err-add_bytes-2.ensures.prefix)

-- the number and the page were added
pub loop-page-preserved : goal.loop-page-preserved
loop-page-preserved g c =
    let w = c.page-item.result in
    let rest : List ℕ = pages_encoding (drop (c.loop-page.page-index + 1) c.args.pages.now) in
    let split = pages_encoding-drop c.args.pages.now c.loop-page.page-index w c.loop-page-test.true c.page-item.is in
    let so_far = HasAdded-as _ _ _ _ _ _ split c.loop-page.invariant.added in
    let numbered = HasAdded-more _ _ _ _ _ _ _ _ so_far (rw c.to_be_bytes-number.ensures at c.in_ok-add_bytes.ensures.whole) in
    let fed : c.crc_feed-register.result ≡ after_bytes (after_bytes c.loop-page.register (to_be_bytes w32 w.number)) w.bytes =
    c.crc_feed-register.ensures ∙ rw (c.crc_feed.ensures, c.to_be_bytes-number.ensures, c.as_slice-bytes.ensures) refl
    in
    record {
      added = HasAdded-more _ _ _ _ _ _ _ _ numbered (rw c.as_slice-bytes.ensures at c.in_ok-add_bytes-2.ensures.whole);
      register = ap (λ r. after_bytes r rest) fed ∙ after_bytes-parts c.loop-page.register (to_be_bytes w32 w.number) w.bytes rest
          ∙ ap (λ (l : List ℕ). after_bytes c.loop-page.register l) (sym split) ∙ c.loop-page.invariant.register;
      room = omega (arith, c.loop-page.invariant.room, c.add_bytes.ensures.room, c.add_bytes-in-loop-page.ensures.room);
      faults = search rules;
    }
