use Rattle.litefs_tool.proofs.CompactionOnce.{one_compaction-of}
use Rattle.litefs_tool.proofs.laws.one_compaction.Goals as goal

pub returns : goal.returns
returns c = one_compaction-of c.one_reading.ensures c.encoding_breaks_no_rule.ensures c.one_earliest_fault.ensures
