-- What is noted of frames that are held back the cluster doesn't see.
use Rattle.std.proofs.Common.{◌≡◌, sym, subst}
use Rattle.lf_disk.specs.History.{History}
use Rattle.world_laws.specs.Node.{NodeState}
use Rattle.node_core.specs.declared.answer.Answer.{Answer}
use Rattle.node_core.specs.HoldingBack.{noted}
use Rattle.node_core.specs.Nodes.{NodeParts, seen}

-- what is said of the node as it is seen before holds afterwards
pub as-before : (P : NodeState → History → Type 0) (h end : History) (n new : NodeParts) (answer : Answer) → end ≡ h → new ≡ noted answer n → P (seen h n) h → P (seen end new) end
as-before P h end n new answer same is holds =
    subst (λ (e : History). P (seen e new) e) (sym same) (subst (λ (m : NodeParts). P (seen h m) h) (sym is) holds)
