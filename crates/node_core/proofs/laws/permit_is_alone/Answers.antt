use Rattle.node_core.specs.Nodes.{history, parts_of, said_to}
use Rattle.node_core.proofs.Alone.{alone}
use Rattle.node_core.proofs.laws.permit_is_alone.Goals as goal

pub returns : goal.returns
returns g c = λ old new caller ask answer step disk law is out under. alone (history old) (parts_of old) caller answer (history new) (parts_of new) (said_to new) ask step disk law is out under
