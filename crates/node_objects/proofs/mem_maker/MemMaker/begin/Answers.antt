use Rattle.std.proofs.Common.{◌↔◌, ◌∙◌, ℕ, List, Contains, IsTrue, ap, subst}
use Rattle.node_objects.specs.MemMaker.{Making}
use Rattle.node_objects.proofs.mem_maker.MemMaker.begin.Goals as goal

pub returns-clause-fails : goal.returns-clause-fails
returns-clause-fails c =
    let failing = c.as_slice.ensures.value ∙ ap (λ (m : Making). m.failing) c.self.view_is in
    let calls = ap (λ (m : Making). m.calls) c.self.view_is in
    subst (λ (call : ℕ). IsTrue c.is_planned-fails.result ↔ Contains c.args.self.now.failing call) calls
    (subst (λ (all : List ℕ). IsTrue c.is_planned-fails.result ↔ Contains all c.self.inside.calls) failing c.is_planned-fails.ensures)
