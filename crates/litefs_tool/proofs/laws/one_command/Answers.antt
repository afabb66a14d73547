use Rattle.litefs_tool.proofs.WordLemmas.{spelled_once}
use Rattle.litefs_tool.proofs.laws.one_command.Goals as goal

pub returns : goal.returns
returns c = spelled_once
