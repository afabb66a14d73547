-- The first law: every list of events keeps the invariant, so each node's committed pages are those of the lineage
-- that its position names, whoever commits. A led run keeps what is said of terms too.
use Rattle.std.specs.Prelude.{◌≡◌, ℕ, List, length, Contains, Some}
use Rattle.lf_sqlite_pages.specs.Image.{SameImage}
use Rattle.ltx_codec.specs.declared.file.Ltx.{Ltx}
use Rattle.world_laws.specs.Events.{AreLed, Event, Happens, IsStart, Leads, Runs, Steps}
use Rattle.world_laws.specs.Lineage.{Lineage, image_of, position_of}
use Rattle.world_laws.specs.Node.{Answer, Ask}
use Rattle.world_laws.specs.Premises.{OneImagePerPosition}
use Rattle.world_laws.specs.Safe.{IsLed, IsSafe}
use Rattle.world_laws.specs.Step.{calls_of}
use Rattle.world_laws.specs.Store.{Commit, at}
use Rattle.world_laws.specs.Terms.{holder_of}
use Rattle.world_laws.specs.World.{World}

-- each node's committed image is that of every lineage that its position names
abbrev pub ImagesAreOfPositions : World → Type 0
ImagesAreOfPositions w = (k : ℕ) (lineage : Lineage) → Contains w.tree lineage → position_of lineage ≡ at (w.nodes k).store → SameImage (image_of lineage) (w.nodes k).store.image

-- a turn from here that leads and makes a committing call, whether or not it fails, is that of the node to which the term
-- was granted
abbrev pub OnlyHoldersCommit : World → Type 0
OnlyHoldersCommit w = (v : World) (k : ℕ) (ask : Ask) (answer : Answer) (file : Ltx) → (turn : Happens w (Steps k ask answer) v) →
    Leads w v (Steps k ask answer) turn → Contains (calls_of turn.facts) (Commit file) → holder_of w.granted (length w.granted) ≡ Some k

-- what holds at the end of a run
pub record IsKept (w : World) : Type 0 where
  pub safe : IsSafe w
  pub images : ImagesAreOfPositions w

-- and at the end of a led run
pub record IsKeptLed (w : World) : Type 0 where
  pub led : IsLed w
  pub holders : OnlyHoldersCommit w

-- from nodes with empty disks, over every list of events
abbrev pub SafeKept : Type 0
SafeKept = (w v : World) (events : List Event) → IsStart w → Runs w events v → OneImagePerPosition v.tree → IsKept v

-- and over every list of events whose turns lead
abbrev pub LedKept : Type 0
LedKept = (w v : World) (events : List Event) → IsStart w → (runs : Runs w events v) → AreLed runs → OneImagePerPosition v.tree → IsKeptLed v
