use Rattle.std.proofs.Common.{◌≡◌, take}
use Rattle.litefs_tool.proofs.word_list.WordList.of.Given as goal

abbrev pub invariant-loop-word : goal.invariant-loop-word
invariant-loop-word l = l.inside.items ≡ take l.word-index l.words
