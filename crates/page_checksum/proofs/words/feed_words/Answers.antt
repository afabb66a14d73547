use Rattle.std.proofs.Common.{sym}
use Rattle.page_checksum.proofs.PieceLemmas.{after_piece}
use Rattle.page_checksum.proofs.words.feed_words.Goals as goal

pub loop-word-preserved : goal.loop-word-preserved
loop-word-preserved c = rw (c.after_word-register.ensures, c.loop-word.invariant) (sym (after_piece c.args.register c.args.words.now c.loop-word.word-index c.loop-word-test.true))
