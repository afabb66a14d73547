use Rattle.litefs_tool.proofs.ApplyingLemmas.{HasSum-never_written}
use Rattle.litefs_tool.proofs.database.Database.new.Goals as goal

pub returns-clause-sum : goal.returns-clause-sum
returns-clause-sum c = rw c.empty.ensures HasSum-never_written
