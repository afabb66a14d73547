use Rattle.std.proofs.Common.{ℕ, List, ap, ◌∙◌, subst}
use Rattle.std.specs.Prelude.{◌↔◌, IsTrue, Contains}
use Rattle.run_child.specs.Started.{Roll}
use Rattle.run_child.proofs.list_starter.ListStarter.is_planned.Goals as goal

pub returns : goal.returns
returns c =
    subst (λ (n : ℕ). IsTrue c.is_among.result ↔ Contains c.args.self.now.failing n) (ap (λ (r : Roll). r.calls) c.self.view_is)
    (subst (λ (ns : List ℕ). IsTrue c.is_among.result ↔ Contains ns c.self.inside.calls)
    (c.as_slice.ensures.value ∙ ap (λ (r : Roll). r.failing) c.self.view_is) c.is_among.ensures)
