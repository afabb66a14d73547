-- Of another page size the change writes each data page.
use Rattle.std.proofs.Common.{◌∙◌, sym, ap, arith}
use Rattle.ltx_codec.specs.Sums.{sum_of_writes}
use Rattle.ltx_codec.proofs.ChangedSumLemmas.{image_sum-whole, whole_of-fits}
use Rattle.ltx_codec.proofs.image_sum.changed_sum.Goals as goal

pub returns-then-commit-gt0 : goal.returns-then-commit-gt0
returns-then-commit-gt0 c =
    let whole = whole_of-fits c.args.image.now c.args.change.now c.requires.fits
    (λ same. c.if-page_size-size.true (c.page_size.ensures ∙ same ∙ sym c.page_size-size.ensures.value))
    (omega (arith, c.commit.ensures.value, c.if-commit-gt0.true))
    in
    c.sum_of_writes.ensures ∙ ap sum_of_writes c.pages.ensures.value ∙ image_sum-whole c.args.image.now c.args.change.now c.pages.ensures.valid whole
