use Rattle.litefs_tool.proofs.AnswerLemmas.{one_answer-of}
use Rattle.litefs_tool.proofs.laws.one_answer.Goals as goal

pub returns : goal.returns
returns c = one_answer-of c.one_reading.ensures c.encoding_breaks_no_rule.ensures c.one_earliest_fault.ensures
