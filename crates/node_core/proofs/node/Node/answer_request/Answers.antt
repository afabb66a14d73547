use Rattle.std.proofs.Common.{refl}
use Rattle.world_laws.specs.Node as laws
use Rattle.node_core.specs.Nodes.{parts_of, seen}
use Rattle.node_core.specs.Stores.{history_of}
use Rattle.node_core.proofs.Facts.{says-none}
use Rattle.node_core.proofs.Reading.{rests_stay}
use Rattle.node_core.proofs.Sound.{sound}
use Rattle.node_core.proofs.Steady.{steady-files, steps-still}
use Rattle.node_core.proofs.node.Node.answer_request.Goals as goal

pub returns-then-is_put_off-clause-safe : goal.returns-then-is_put_off-clause-safe
returns-then-is_put_off-clause-safe g c honest =
    let n = c.args.self.now in
    let h = history_of n.store in
    let old = parts_of n in
    steps-still (seen h old) (seen h old) laws.File (laws.Refused laws.Other) h h ∣ rests_stay h ∣₁ refl refl (n.store.left honest)
    (says-none (seen h old) (seen h old) (seen h old).role laws.File (laws.Refused laws.Other) tt refl (λ plain still. steady-files h h old old.store old.files refl refl refl)
    (sound h old (n.image honest) n.locked.together n.replica))
