-- The sum before with what goes out and what comes in.
use Rattle.lf_sqlite_pages.proofs.LockPages.{page_size-positive}
use Rattle.ltx_codec.proofs.ChangedSumLemmas.{image_sum-changed}
use Rattle.ltx_codec.proofs.image_sum.resized_sum.Goals as goal

pub sum_between-resized-requires-clause-sized : goal.sum_between-resized-requires-clause-sized
sum_between-resized-requires-clause-sized c = page_size-positive c.page_size-size.result c.page_size-size.ensures.sqlite

pub rewriting-requires-clause-sized : goal.rewriting-requires-clause-sized
rewriting-requires-clause-sized c = page_size-positive c.page_size-size.result c.page_size-size.ensures.sqlite

pub returns : goal.returns
returns c =
    rw (c.sum_between-resized.ensures, c.rewriting.ensures.value, c.min.ensures, c.max.ensures, c.commit-before.ensures.value, c.commit-after.ensures, c.page_size-size.ensures.value)
    (image_sum-changed c.args.image.now c.args.change.now c.args.sum c.rewriting.ensures.valid c.requires.of_size c.requires.sum)
