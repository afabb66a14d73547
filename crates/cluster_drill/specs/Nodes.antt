-- Nodes of a drill, and what they show where they are looked at.
use Rattle.std.specs.Prelude.{◌≡◌, ◌⊎◌, ◌==◌, ℕ, true, List, [], Option, Some, None, if◌then◌else◌}
use Rattle.lf_base.specs.Faults.{Rose}
use Rattle.lf_base.specs.declared.pos.Pos.{Pos}
use Rattle.lf_disk.specs.declared.disk.Disk.{Ghosts}
use Rattle.lf_sqlite_pages.specs.Image.{image_bytes}
use Rattle.node_core.specs.declared.node.Node.{Node}
use Rattle.node_core.specs.Hello.{IsLookedInto}
use Rattle.node_core.specs.Nodes.{history, parts_of}
use Rattle.node_core.specs.Stores.{position, state}
use Rattle.cluster_drill.specs.declared.shown.Shown.{Shown}

module _ {D : Type 0} {G : Ghosts D} where
  -- where a node stands
  abbrev pub place : Node D G → Pos
  place n = position (parts_of n).store

  -- the bytes of its database; none where that was never written
  abbrev pub database : Node D G → List ℕ
  database n = if (place n).txid == 0 then [] else image_bytes (state (history n) (parts_of n).store).image

  -- its store was broken, or its disk has failed since
  abbrev pub IsUnread : Node D G → Node D G → Type 0
  IsUnread old new = ((parts_of old).store.broken ≡ true) ⊎ Rose (parts_of old).store.faults (parts_of new).store.faults

  -- its bytes, or nothing where they could not be read
  abbrev pub ShowsBytes : Node D G → Node D G → Option (List ℕ) → Type 0
  ShowsBytes old new (Some bytes) = bytes ≡ database old
  ShowsBytes old new None = IsUnread old new

  -- what it shows: where it stands, with its bytes; or nothing, where it could not be read
  abbrev pub Shows : Node D G → Node D G → Option Shown → Type 0
  Shows old new (Some shown) = (shown.at ≡ place old) × (shown.bytes ≡ database old)
  Shows old new None = IsUnread old new

-- it was looked into at most: only the count of its disk's faults may have risen
pub record IsAsBefore {D : Type 0} {G : Ghosts D} (old new : Node D G) : Type 0 where
  pub same : parts_of new ≡ record (parts_of old) { store = (parts_of new).store }
  pub read : IsLookedInto (history old) (parts_of old).store (history new) (parts_of new).store
