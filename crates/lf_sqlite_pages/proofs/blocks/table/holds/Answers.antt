use Rattle.std.proofs.Common.{◌≡◌, ◌+◌, ◌-◌, length, take, drop, ◌∙◌, arith}
use Rattle.std.proofs.lemmas.List.{length-take, length-drop, get_or-take, get_or-drop}
use Rattle.lf_sqlite_pages.proofs.BlockListLemmas.{held-more}
use Rattle.lf_sqlite_pages.proofs.blocks.table.holds.Goals as goal

pub loop-done-preserved : goal.loop-done-preserved
loop-done-preserved c =
    let done = c.loop-done.done in
    let count = c.min-count.result in
    let piece = c.args.piece.now in
    let part = take (done + count - done) (drop done piece) in
    let size : length (take (c.loop-done.done + c.min-count.result - c.loop-done.done) (drop c.loop-done.done c.args.piece.now)) ≡ c.min-count.result =
    omega (arith, length-take (done + count - done) (drop done piece), length-drop done piece, c.min-count.ensures, c.loop-done.invariant.within) in
    record {
      within = omega (arith, c.min-count.ensures, c.loop-done.invariant.within);
      held =
          held-more c.args.blocks.now c.args.at done count piece part c.loop-done.invariant.held size
          (λ k less. get_or-take (done + count - done) (drop done piece) k 0 (omega (arith, less)) ∙ get_or-drop done piece k 0)
          (c.holds_piece.ensures.0 c.if-not-holds_piece.false);
    }
