-- A request on the served files: what it is answered over, and what the files' rules did with it.
use Rattle.std.specs.Prelude.{◌≡◌, ◌⊎◌, ℕ, ◌≤◌, true, List, Option, Some, None, if◌then◌else◌}
use Rattle.lf_base.specs.Faults.{Rose, one_more}
use Rattle.fuse_msgs.specs.declared.request.Request.{Request}
use Rattle.lf_disk.specs.History.{History}
use Rattle.lf_sqlite_pages.specs.Image.{DatabaseImage}
use Rattle.file_view.specs.declared.fault.ViewFault.{ViewFault}
use Rattle.file_view.specs.declared.fault.ViewFault.TheVariants as fault
use Rattle.file_view.specs.declared.requests.Plan.{Plan}
use Rattle.file_view.specs.declared.view.Scene.{Scene}
use Rattle.file_view.specs.Done.{IsDone}
use Rattle.file_view.specs.Needs.{Needs, ReadsPages, TakesMemory}
use Rattle.file_view.specs.Refusal.{IsAllowed, Row, first_refusal}
use Rattle.file_view.specs.Requests.{rows_of, scene_of}
use Rattle.file_view.specs.Served.{Served}
use Rattle.node_core.specs.Nodes.{NodeParts, role_in}
use Rattle.node_core.specs.Stores.{StoreFields}
pub use Rattle.node_core.specs.Stores.{told}

-- who asks, what the node is, the shape of the committed image, and whether the store is broken
abbrev pub scene : NodeParts → ℕ → Scene
scene n caller = scene_of caller (role_in n) n.store.page_size n.store.commit n.store.broken

-- no rule refuses the request, it does what it says, and these are the files then; of the store pages were read
pub record IsPlanned (start : History) (old : NodeParts) (caller : ℕ) (request : Request) (plan : Plan) (files : Served) : Type 0 where
  pub done : IsDone (told start old.store) old.files (scene old caller) request plan files
  pub allowed : IsAllowed (rows_of old.files (scene old caller) request)

-- a broken store refused a read, and counted it
abbrev pub RefusesRead : StoreFields → StoreFields → Type 0
RefusesRead old new = (old.broken ≡ true) × (one_more old.refused ≤ new.refused)

-- why a request is refused, by what it needs: by the first row that holds; a page that it reads was not read, since the disk failed,
-- or the store is broken and refused the read; or memory was wanting, where it takes any
abbrev pub RefusesBy : Needs → List Row → StoreFields → StoreFields → ViewFault → Type 0
RefusesBy needs rows old new (fault.Errno number) = first_refusal rows ≡ Some number
RefusesBy needs rows old new (fault.Page failed) = ReadsPages needs × (Rose old.faults new.faults ⊎ RefusesRead old new)
RefusesBy needs rows old new fault.NoMemory = TakesMemory needs
