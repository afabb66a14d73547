use Rattle.std.proofs.Common.{sym}
use Rattle.ltx_codec.proofs.ChangedSumLemmas.{image_sum-whole, post-snapshot}
use Rattle.ltx_codec.proofs.laws_of_sums.sum_of_a_whole_change.Goals as goal

pub returns-clause-change : goal.returns-clause-change
returns-clause-change c = λ image change valid whole. sym (image_sum-whole image change valid whole)

pub returns-clause-snapshot : goal.returns-clause-snapshot
returns-clause-snapshot c = λ image file valid first. sym (post-snapshot image file valid first)
