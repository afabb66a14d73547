use Rattle.std.specs.List.{All}
use Rattle.ltx_codec.specs.Format.{IsFile}
use Rattle.ltx_tests.proofs.compact.files_of.Given as goal

abbrev pub invariant-loop-sample : goal.invariant-loop-sample
invariant-loop-sample g l = All IsFile l.files.items
