-- A drill: three nodes, how many of them are alike, and the line that says so.
use Rattle.std.specs.Prelude.{◌≡◌, ◌≢◌, ◌⊎◌, ℕ, ◌+◌, List, Option, Some}
use Rattle.cluster_drill.specs.Line.{drill_line}
use Rattle.cluster_drill.specs.Nodes.{IsAsBefore, Shows, place}
use Rattle.cluster_drill.specs.declared.drill.Drill.{Drill}
use Rattle.cluster_drill.specs.declared.shown.Shown.{Shown}

-- three nodes of a database that was never written, and this number
pub record IsNew (wanted : ℕ) (drill : Drill) : Type 0 where
  pub number : drill.number ≡ wanted
  pub primary : (place drill.primary).txid ≡ 0
  pub left : (place drill.left.node).txid ≡ 0
  pub right : (place drill.right.node).txid ≡ 0

-- a node counts where it shows what the primary shows
abbrev pub Counts : Option Shown → Option Shown → ℕ → Type 0
Counts (Some primary) (Some other) n = (other ≡ primary) × (n ≡ 1) ⊎ (other ≢ primary) × (n ≡ 0)
Counts primary other n = n ≡ 0

-- how many of the nodes count
pub record IsCount (old new : Drill) (count : ℕ) : Type 0 where
  pub primary : Option Shown
  pub left : Option Shown
  pub right : Option Shown
  pub shows_primary : Shows old.primary new.primary primary
  pub shows_left : Shows old.left.node new.left.node left
  pub shows_right : Shows old.right.node new.right.node right
  pub first : ℕ
  pub second : ℕ
  pub third : ℕ
  pub counts_primary : Counts primary primary first
  pub counts_left : Counts primary left second
  pub counts_right : Counts primary right third
  pub is : count ≡ first + second + third

-- the drill was looked at: its nodes are as before, and so is what became of the files
pub record IsLooked (old new : Drill) : Type 0 where
  pub number : new.number ≡ old.number
  pub primary : IsAsBefore old.primary new.primary
  pub left : IsAsBefore old.left.node new.left.node
  pub right : IsAsBefore old.right.node new.right.node
  pub fates : (new.left.fates ≡ old.left.fates) × (new.right.fates ≡ old.right.fates)

-- the line of these nodes
pub record TellsLine (old new : Drill) (line : List ℕ) : Type 0 where
  pub count : ℕ
  pub counted : IsCount old new count
  pub is : line ≡ drill_line old.number (place old.primary).txid count

-- THE LINE OF A DRILL THAT WAS PLAYED: three nodes show it, whose primary is at transaction 64
pub record IsPlayed (wanted : ℕ) (line : List ℕ) : Type 0 where
  pub played : Drill
  pub looked : Drill
  pub number : played.number ≡ wanted
  pub at : (place played.primary).txid ≡ 64
  pub tells : TellsLine played looked line
