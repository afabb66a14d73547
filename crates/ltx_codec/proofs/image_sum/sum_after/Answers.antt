-- A snapshot was read only where its sum is right.
use Rattle.ltx_codec.proofs.ChangedSumLemmas.{post-snapshot}
use Rattle.ltx_codec.proofs.image_sum.sum_after.Goals as goal

pub returns-then-file-eq1 : goal.returns-then-file-eq1
returns-then-file-eq1 c = post-snapshot c.args.image.now c.args.file.now c.requires.valid c.if-file-eq1.true
