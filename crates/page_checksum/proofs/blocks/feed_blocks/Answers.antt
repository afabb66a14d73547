use Rattle.std.proofs.Common.{◌∙◌}
use Rattle.page_checksum.proofs.PieceLemmas.{pieces_after_first}
use Rattle.page_checksum.proofs.blocks.feed_blocks.Goals as goal

pub returns : goal.returns
returns c =
    c.feed_by_words.ensures ∙ c.fold_all.ensures
    ∙ pieces_after_first c.args.register c.enter_block-state.result c.args.blocks.now c.in-len1-up.len_at_least c.enter_block-state.ensures
