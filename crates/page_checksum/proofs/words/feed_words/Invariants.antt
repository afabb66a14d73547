use Rattle.std.proofs.Common.{◌≡◌, take}
use Rattle.std.specs.List.{concat}
use Rattle.page_checksum.specs.Crc.{after_bytes}
use Rattle.page_checksum.proofs.words.feed_words.Given as goal

-- the register has passed the words before this one
abbrev pub invariant-loop-word : goal.invariant-loop-word
invariant-loop-word l = l.register ≡ after_bytes l.fn.register (concat (take l.word-index l.words))
