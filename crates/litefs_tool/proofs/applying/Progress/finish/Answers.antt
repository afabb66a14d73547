use Rattle.std.proofs.Common.{inl, inr}
use Rattle.litefs_tool.proofs.ApplyingLemmas.{MakesOf-short}
use Rattle.litefs_tool.proofs.applying.Progress.finish.Goals as goal
use Rattle.litefs_tool.proofs.applying.Progress.finish.Goals.{then-self-via-then-self, then-self-via-else-self+then-not-is_between}

pub returns-then-self : goal.returns-then-self
returns-then-self c = λ bytes so_far. MakesOf-short c.args.self bytes so_far
    (elim c.then-self.branch [
      | then-self-via-then-self w ↦ inl w.if-self.true
      | then-self-via-else-self+then-not-is_between w ↦ inr (λ none. let is = (c.is_between-is_between.ensures.between so_far.unfinished so_far.begun).1 none in
          let not_so = w.if-not-is_between.true in cc)
    ])
    (c.is_between-is_between.ensures.short so_far.unfinished so_far.begun)
