use Rattle.litefs_tool.proofs.BothLemmas.{name_or_addr}
use Rattle.litefs_tool.proofs.WordLemmas.{values_by_both}
use Rattle.litefs_tool.proofs.remote.read_values.Goals as goal

pub both_options-requires : goal.both_options-requires
both_options-requires c = name_or_addr

pub returns-in-None : goal.returns-in-None
returns-in-None c = values_by_both c.args.words.now c.both_options.result c.in-None.ensures c.both_options.ensures
