-- What a node says of itself, by which nothing is done.
use Rattle.std.proofs.Common.{◌≡◌, [], None, refl}
use Rattle.lf_disk.specs.History.{History}
use Rattle.file_view.specs.declared.view.Role.TheVariants as role
use Rattle.file_view.specs.Overlay.{IsOverImage}
use Rattle.txn_log.specs.Calls.{RestsAs}
use Rattle.world_laws.specs.Answers.{LeavesUndone}
use Rattle.world_laws.specs.Node as laws
use Rattle.world_laws.specs.Served.{ShareForReading}
use Rattle.world_laws.specs.Store.{MayBeFound}
use Rattle.node_core.specs.Nodes.{NodeParts, role_in, seen}
use Rattle.node_core.specs.Safely.{StepsSafely}
use Rattle.node_core.specs.Stores.{state}
use Rattle.node_core.proofs.Facts.{says-none}
use Rattle.node_core.proofs.Reading.{rests_stay}
use Rattle.node_core.proofs.Sound.{sound}
use Rattle.node_core.proofs.Steady.{steady-files, steps-still}

module _ (h : History) (old : NodeParts) (rests : RestsAs (MayBeFound (seen h old).store (seen h old).failed) h) (over : IsOverImage old.files (state h old.store).image)
    (locks : ShareForReading old.files.locks) (replica : role_in old ≡ role.Replica → old.files.writer ≡ None) where
  pub says-safely : (answer : laws.Answer) → LeavesUndone answer [] → StepsSafely (seen h old) laws.Where answer (seen h old) h h
  says-safely answer undone =
      steps-still (seen h old) (seen h old) laws.Where answer h h ∣ rests_stay h ∣₁ refl refl rests
      (says-none (seen h old) (seen h old) (seen h old).role laws.Where answer tt undone (λ plain still. steady-files h h old old.store old.files refl refl refl) (sound h old over locks replica))
