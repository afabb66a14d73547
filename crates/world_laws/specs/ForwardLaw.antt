-- The fourth law: a commit that a replica forwarded, and that is answered Done there, stands once in the lineage of the
-- primary that accepted it; one that is refused or not answered changes nothing at the replica.
use Rattle.std.specs.Prelude.{◌≡◌, ◌≢◌, ℕ, true, List, Contains, Some, None, Bool}
use Rattle.lf_base.specs.declared.pos.Pos.{Pos}
use Rattle.lf_sqlite_pages.specs.Image.{SameImage}
use Rattle.ltx_codec.specs.declared.file.Ltx.{Ltx}
use Rattle.ltx_codec.specs.Positions.{after}
use Rattle.world_laws.specs.Answers.{ServesTheSame}
use Rattle.world_laws.specs.Events.{Event, Happens, IsStart, Runs, Steps}
use Rattle.world_laws.specs.Lineage.{Lineage, gone_on, image_of, position_of}
use Rattle.world_laws.specs.Node.{Answer, Applied, Done, File, Forward, Forwarded, NodeState, Send}
use Rattle.world_laws.specs.Premises.{OneImagePerPosition}
use Rattle.world_laws.specs.Step.{StepFacts}
use Rattle.world_laws.specs.Store.{at}
use Rattle.world_laws.specs.World.{World}

-- in a run up to here a node accepted the file: right after, a lineage that its position names goes on by this change
-- from one that stood before
pub record WasAccepted (first last : World) (file : Ltx) : Type 0 where
  pub early : List Event
  pub late : List Event
  pub old : World
  pub new : World
  pub primary : ℕ
  pub position : Pos
  pub before_it : Runs first early old
  pub accepts : Happens old (Steps primary (Forward file) (Applied position)) new
  pub since : Runs new late last
  pub lineage : Lineage
  pub stood : Contains old.tree lineage
  pub stands : Contains new.tree (gone_on lineage file)
  pub position_is : position_of (gone_on lineage file) ≡ after file
  pub here : at (new.nodes primary).store ≡ after file

-- the replica has the position and the pages that the commit gives
pub record IsAtCommit (v : World) (k : ℕ) (lineage : Lineage) (file : Ltx) : Type 0 where
  pub stands : Contains v.tree (gone_on lineage file)
  pub here : at (v.nodes k).store ≡ after file
  pub image : SameImage (image_of (gone_on lineage file)) (v.nodes k).store.image

abbrev pub ForwardedStands : Type 0
ForwardedStands = (w v u : World) (events : List Event) (k : ℕ) → IsStart w → Runs w events v → Happens v (Steps k (Forwarded true) Done) u → OneImagePerPosition u.tree →
    (file : Ltx) × ((v.nodes k).waits ≡ Some file) × ((was : WasAccepted w v file) × IsAtCommit u k was.lineage file)

-- neither the position nor the files that are served are changed
pub record LeavesFiles (old new : NodeState) : Type 0 where
  pub position : at new.store ≡ at old.store
  pub served : ServesTheSame old new

abbrev pub SendLeaves : Type 0
SendLeaves = (old new : NodeState) (file : Ltx) → StepFacts old File (Send file) new → LeavesFiles old new

-- a Forwarded that isn't Done leaves the position; and the files, where no call failed and the moment of the step ended
-- no write permit
abbrev pub RefusalLeaves : Type 0
RefusalLeaves = (old new : NodeState) (ok : Bool) (answer : Answer) → (facts : StepFacts old (Forwarded ok) answer new) → answer ≢ Done →
    (at new.store ≡ at old.store) × (facts.failed ≡ None → new.role ≡ old.role → LeavesFiles old new)
