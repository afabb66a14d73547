use Rattle.std.proofs.Common.{◌∙◌, ◌++◌, ◌∷◌, [], List, ℕ, ap}
use Rattle.cluster_drill.proofs.Lines.{together}
use Rattle.cluster_drill.proofs.telling.put_line.Goals as goal

-- what was put together is the line
pub returns-clause-ok : goal.returns-clause-ok
returns-clause-ok c =
    c.in_default.ensures.ok
    ∙ ap (λ (l : List ℕ). c.args.out.now.items ++ l)
    (ap (λ (d : List ℕ). c.as_bytes.result.now ++ (d ++ 10 ∷ [])) c.hex16.ensures
    ∙ together c.args.number c.args.txid c.args.count c.as_bytes.result.now (c.as_bytes.ensures.value ∙ c.in_ok-text.ensures.ok))
