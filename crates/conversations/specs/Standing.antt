-- The served files over the whole of an image.
use Rattle.std.specs.Prelude.{ℕ, false, Some, length}
use Rattle.lf_sqlite_pages.specs.Apply.{apply}
use Rattle.lf_sqlite_pages.specs.Change.{PageChange}
use Rattle.lf_sqlite_pages.specs.Image.{DatabaseImage}
use Rattle.file_view.specs.declared.requests.Plan.{Plan}
use Rattle.file_view.specs.declared.requests.Plan.TheVariants as plan
use Rattle.file_view.specs.Endings.{committed}
use Rattle.file_view.specs.Overlay.{StandsOver}
use Rattle.file_view.specs.declared.view.Role.{Role}
use Rattle.file_view.specs.declared.view.Scene.{Scene}
use Rattle.file_view.specs.Requests.{scene_of}
use Rattle.file_view.specs.Served.{Served}

-- the files stand over an image
pub record Stand (image : DatabaseImage) (files : Served) : Type 0 where
  pub over : StandsOver (Some image) image.page_size (length image.pages) files

-- they will stand over the image with a change, once it is committed and the request that waits for it is done
unfoldable pub Await : DatabaseImage → Served → PageChange → Type 0
Await image files change = StandsOver (Some (apply image change)) change.page_size change.commit (committed files)

-- so they will where a request waits
abbrev pub AwaitWhere : DatabaseImage → Served → Plan → Type 0
AwaitWhere image files (plan.Reply reply) = Unit {0}
AwaitWhere image files plan.Silent = Unit {0}
AwaitWhere image files (plan.Commit reply change) = Await image files change

-- what a request of a session is answered over
abbrev pub scene_over : DatabaseImage → ℕ → Role → Scene
scene_over image link role = scene_of link role image.page_size (length image.pages) false
