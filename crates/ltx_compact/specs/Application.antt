-- What files do to images, one after another.
use Rattle.std.specs.Prelude.{◌≡◌, List, [], ◌∷◌, fold}
use Rattle.lf_sqlite_pages.specs.Change.{PageChange}
use Rattle.lf_sqlite_pages.specs.Image.{DatabaseImage}
use Rattle.lf_sqlite_pages.specs.Apply.{Fits, apply}
use Rattle.ltx_codec.specs.declared.file.Ltx.{Ltx}

-- an image after files, one after another
unfoldable pub apply_all : DatabaseImage → List Ltx → DatabaseImage
apply_all image files = fold (λ before file. apply before file.change) image files

-- the files can be applied to an image, one after another
abbrev pub FitAll : DatabaseImage → List Ltx → Type 0
FitAll image [] = Unit {0}
FitAll image (file ∷ files) = Fits image file.change × FitAll (apply image file.change) files

-- a change can be applied to each image that the files can be applied to, and does what they do
pub record DoesAsFiles (files : List Ltx) (change : PageChange) : Type 0 where
  pub fits : (image : DatabaseImage) → FitAll image files → Fits image change
  pub same : (image : DatabaseImage) → apply image change ≡ apply_all image files
