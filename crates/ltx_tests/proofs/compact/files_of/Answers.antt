use Rattle.std.proofs.lemmas.List.Elements.{All-push}
use Rattle.ltx_codec.specs.Format.{IsFile}
use Rattle.ltx_tests.proofs.compact.files_of.Goals as goal

pub loop-sample-preserved : goal.loop-sample-preserved
loop-sample-preserved g c = rw c.in_ok-push.ensures.items (All-push IsFile c.loop-sample.files.items c.file_of.result c.loop-sample.invariant c.file_of.ensures)
