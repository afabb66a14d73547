use Rattle.std.proofs.Common.{subst}
use Rattle.litefs_tool.specs.steps.Applying.{IsApplying}
use Rattle.litefs_tool.specs.declared.applying.Applying.{Applying}
use Rattle.litefs_tool.proofs.ApplyingLemmas.{MakesOf-kept}
use Rattle.litefs_tool.proofs.applying.Applying.finish.Goals as goal

pub returns-in-Refused : goal.returns-in-Refused
returns-in-Refused c = λ bytes stands. MakesOf-kept c.in-Refused.why bytes (let P : Applying → Type 0 = λ a. IsApplying a bytes in subst P c.in-Refused.is stands)
