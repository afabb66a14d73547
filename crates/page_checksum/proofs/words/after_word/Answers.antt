use Rattle.page_checksum.proofs.WordLemmas.{word_is}
use Rattle.page_checksum.proofs.words.after_word.Goals as goal

pub returns : goal.returns
returns c = rw (c.after_eight.ensures, c.from_le_bytes.ensures) (word_is c.args.register c.args.word.now c.told-word c.fits-word)
