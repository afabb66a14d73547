use Rattle.std.proofs.Common.{[]}
use Rattle.litefs_tool.proofs.CompactionLemmas.{HaveEncodings-file}
use Rattle.litefs_tool.proofs.gathering.Gathered.add.Goals as goal

pub returns : goal.returns
returns c = λ bytes part ends. record {
  unfinished = [];
  begun = ends.begun;
  have = rw c.in_ok-push.ensures.items (HaveEncodings-file c.args.self.files.items ends.unfinished bytes part c.args.file ends.have ends.whole);
}
