use Rattle.std.proofs.Common.{◌∙◌, ap}
use Rattle.lf_base.specs.declared.pos.Pos.{Pos}
use Rattle.cluster_drill.proofs.drill.Drill.turn.Goals as goal

-- what the replicas are sent leaves the primary where the commit led it
pub returns-clause-at : goal.returns-clause-at
returns-clause-at c = ap (λ (p : Pos). p.txid) (c.in_ok-is_sent-2.ensures.stays ∙ c.in_ok-is_sent.ensures.stays) ∙ c.in_ok-commit.ensures
