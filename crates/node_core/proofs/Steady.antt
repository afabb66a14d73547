-- Steps that make no call on the store.
use Rattle.std.proofs.Common.{◌≡◌, [], None, Option, ap, subst}
use Rattle.lf_disk.specs.History.{History}
use Rattle.txn_log.specs.Calls.{Moved, RestsAs}
use Rattle.txn_log.proofs.Moves.{moved-none}
use Rattle.file_view.specs.Served.{Served, log_contents}
use Rattle.world_laws.specs.Node.{Answer, Ask, NodeState}
use Rattle.world_laws.specs.Step.{Steady}
use Rattle.world_laws.specs.Store.{Failure, MayBeFound, StoreState, at}
use Rattle.node_core.specs.Nodes.{NodeParts, file_over, frames_of, seen}
use Rattle.node_core.specs.Safely.{StepsSafely}
use Rattle.node_core.specs.Stores.{OnlyRead, StoreFields, state}
use Rattle.node_core.proofs.Facts.{Says, keeping, steps}

-- a step that reads pages at most
pub steps-still : (old new : NodeState) (ask : Ask) (answer : Answer) (start end : History) → OnlyRead start end → new.store ≡ old.store → new.failed ≡ old.failed
    → RestsAs (MayBeFound new.store new.failed) end → Says old old.role ask [] None answer (keeping old new) → StepsSafely old ask answer (keeping old new) start end
steps-still old new ask answer start end read store failed rests says =
    steps old new ask answer [] None start end end read
    (subst (λ (s : StoreState). Moved s old.failed end [] None new.store new.failed end) store
    (subst (λ (f : Option Failure). Moved new.store f end [] None new.store new.failed end) failed (moved-none new.store new.failed end rests)))
    says

-- nothing that a reader sees is touched
pub steady-files : (start end : History) (old : NodeParts) (store : StoreFields) (files : Served) → state end store ≡ state start old.store → files.database ≡ old.files.database → frames_of (log_contents files) ≡ frames_of (log_contents old.files)
    → Steady (seen start old) (seen end (record old { files = files; store = store }))
steady-files start end old store files same database frames = record {
  position = ap (λ s. at s) same;
  image = ap (λ s. s.image) same;
  file = λ i. file_over (database i) (same i).image;
  frames = frames;
}
