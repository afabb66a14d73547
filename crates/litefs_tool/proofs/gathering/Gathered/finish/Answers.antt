use Rattle.litefs_tool.proofs.CompactionLemmas.{MayRefuse-short}
use Rattle.litefs_tool.proofs.gathering.Gathered.finish.Goals as goal

pub returns-then-not-is_between-clause-refused : goal.returns-then-not-is_between-clause-refused
returns-then-not-is_between-clause-refused c = λ bytes so_far. MayRefuse-short c.args.self bytes so_far
    (λ none. let is = (c.is_between.ensures.between so_far.unfinished so_far.begun).1 none in let not_so = c.if-not-is_between.true in cc)
    (c.is_between.ensures.short so_far.unfinished so_far.begun)
