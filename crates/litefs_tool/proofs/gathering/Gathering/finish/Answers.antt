use Rattle.std.proofs.Common.{subst}
use Rattle.litefs_tool.specs.steps.Gathering.{IsGathering}
use Rattle.litefs_tool.specs.declared.gathering.Gathering.{Gathering}
use Rattle.litefs_tool.proofs.CompactionLemmas.{MayRefuse-kept}
use Rattle.litefs_tool.proofs.gathering.Gathering.finish.Goals as goal

pub returns-in-Broken-clause-refused : goal.returns-in-Broken-clause-refused
returns-in-Broken-clause-refused c = λ bytes stands.
    let P : Gathering → Type 0 = λ a. IsGathering a bytes in
    MayRefuse-kept bytes c.in-Broken.fault (subst P c.in-Broken.is stands)
