-- Lineages of a database, the positions that name them, and the tree of all that were committed.
--
-- A lineage is the list of changes that were committed to a database, one after another, from its first on. Its image
-- is what they make of the empty image, and its position is their number with the sum of that image. Nothing here
-- counts lineages or gives them indices: a position *names* a lineage of the tree where it is that lineage's position.
-- Where lineages are compared, images are the same if their pages are.
use Rattle.std.specs.Prelude.{◌≡◌, ℕ, ◌==◌, ◌⊎◌, List, [], ◌∷◌, ◌++◌, length, All, fold, Contains, if◌then◌else◌}
use Rattle.lf_base.specs.declared.pos.Pos.{Pos}
use Rattle.lf_sqlite_pages.specs.Image.{DatabaseImage, empty_image, SameImage}
use Rattle.lf_sqlite_pages.specs.Change.{PageChange, HoldsEveryPage}
use Rattle.lf_sqlite_pages.specs.Apply.{apply}
use Rattle.lf_sqlite_pages.specs.Complete.{complete, completed}
use Rattle.ltx_codec.specs.declared.file.Ltx.{Ltx}
use Rattle.ltx_codec.specs.Positions.{after, before, nowhere, sum_after}
use Rattle.ltx_codec.specs.Sums.{image_sum}

-- what was committed to a database, one transaction after another
abbrev pub Lineage : Type 0
Lineage = List PageChange

-- the image that a lineage makes of the empty one
unfoldable pub image_of : Lineage → DatabaseImage
image_of lineage = fold apply empty_image lineage

-- the position of an image after a number of transactions
unfoldable pub position_at : ℕ → DatabaseImage → Pos
position_at count image = if count == 0 then nowhere else record { txid = count; sum = image_sum image }

-- the position of a lineage: its length, and the sum of its image
abbrev pub position_of : Lineage → Pos
position_of lineage = position_at (length lineage) (image_of lineage)

-- a position names a lineage of the tree, and that lineage has this image
pub record Names (tree : List Lineage) (position : Pos) (image : DatabaseImage) : Type 0 where
  pub lineage : Lineage
  pub stands : Contains tree lineage
  pub position_is : position_of lineage ≡ position
  pub image_is : SameImage (image_of lineage) image

-- a change can be applied to these pages: they have its page size, or it holds every page
abbrev pub Suits : List (List ℕ) → PageChange → Type 0
Suits pages change = All (λ page. length page ≡ change.page_size) pages ⊎ HoldsEveryPage change

-- a file leads from one lineage of the tree to another, and says the sum of what it makes of the first
pub record IsOfTree (tree : List Lineage) (file : Ltx) : Type 0 where
  pub from : Lineage
  pub to : Lineage
  pub from_stands : Contains tree from
  pub to_stands : Contains tree to
  pub from_at : position_of from ≡ before file
  pub to_at : position_of to ≡ after file
  pub suits : Suits (image_of from).pages file.change
  pub leads : SameImage (image_of to) (apply (image_of from) file.change)
  pub sum : sum_after (image_of from) file ≡ file.post

-- a file is one transaction of the tree: a lineage at the position before it goes on by its change, to the position
-- after it. A position counts its lineage's changes, so the change stands there at that one place
pub record IsCommitted (tree : List Lineage) (file : Ltx) : Type 0 where
  pub lineage : Lineage
  pub stands : Contains tree lineage
  pub goes_on : Contains tree (lineage ++ file.change ∷ [])
  pub before_at : position_of lineage ≡ before file
  pub after_at : position_of (lineage ++ file.change ∷ []) ≡ after file
  pub suits : Suits (image_of lineage).pages file.change

-- a file made complete over a count of pages: as zeros it then also holds each data page past them that it does not write
abbrev pub whole_file : ℕ → Ltx → Ltx
whole_file count file = record file { change = completed file.change count }

-- a lineage goes on by a file, which is made complete over its image
abbrev pub gone_on : Lineage → Ltx → Lineage
gone_on lineage file = lineage ++ complete (image_of lineage) file.change ∷ []

-- a forwarded file that was accepted is one transaction of the tree, made complete over the lineage that goes on by it
pub record IsAccepted (tree : List Lineage) (file : Ltx) : Type 0 where
  pub count : ℕ
  pub is : IsCommitted tree (whole_file count file)
  pub over : count ≡ length (image_of is.lineage).pages
