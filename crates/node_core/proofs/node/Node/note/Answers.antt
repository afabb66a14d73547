use Rattle.std.proofs.Common.{Option, ap}
use Rattle.node_core.specs.declared.held_back.HeldBack.{HeldBack}
use Rattle.node_core.specs.Nodes.{parts_of}
use Rattle.node_core.proofs.node.Node.note.Goals as goal

pub returns-clause-parts : goal.returns-clause-parts
returns-clause-parts g c = ap (λ (held : Option HeldBack). record (parts_of c.args.self.now) { held = held }) c.held_by-self.ensures
