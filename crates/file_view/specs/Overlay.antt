-- How the served files agree with the committed image: the database file under the committed frames of the log is that image,
-- but for uncommitted pages.
use Rattle.std.specs.Prelude.{ℕ, is_some, Option, IfSome, if◌then◌else◌}
use Rattle.std.specs.Option.{option_map}
use Rattle.database_file.specs.DatabaseFile.{DatabaseFile, FitsShape, KeepsDifferences, clean}
use Rattle.database_under_log.specs.Over.{Agrees}
use Rattle.lf_sqlite_pages.specs.Apply.{apply}
use Rattle.lf_sqlite_pages.specs.Image.{DatabaseImage}
use Rattle.file_view.specs.declared.requests.Plan.{Plan}
use Rattle.file_view.specs.declared.requests.Plan.TheVariants as plan
use Rattle.file_view.specs.Endings.{committed}
use Rattle.file_view.specs.LogRules.{FollowsImage}
use Rattle.file_view.specs.Served.{Served, log_contents}

-- the database file without its uncommitted pages: while there is a writer, all that it keeps is uncommitted
abbrev pub without_uncommitted : Served → DatabaseFile
without_uncommitted s = if is_some s.writer then clean s.database else s.database

-- without its uncommitted pages, as it reads over the committed image, and under the committed frames, the database file is that
-- image
abbrev pub AgreesOver : Served → DatabaseImage → Type 0
AgreesOver s image = Agrees (without_uncommitted s) image (log_contents s)

-- what is kept differs from the image, and the files agree with it
pub record IsOverImage (s : Served) (image : DatabaseImage) : Type 0 where
  pub differs : KeepsDifferences s.database image
  pub agrees : AgreesOver s image

-- what is kept fits an image's page size and number of pages, and the committed frames state these
pub record FitsImage (s : Served) (page_size commit : ℕ) : Type 0 where
  pub fits : FitsShape s.database page_size commit
  pub follows : FollowsImage (log_contents s) page_size commit

-- the files stand over an image of a page size and a number of pages, and over its pages where these are told
pub record StandsOver (told : Option DatabaseImage) (page_size commit : ℕ) (s : Served) : Type 0 where
  pub shape : FitsImage s page_size commit
  pub image : IfSome told (IsOverImage s)

-- once the change for which a request waits is committed, and the request done, the files stand over the image that it leads to
abbrev pub AwaitsOver : Option DatabaseImage → Served → Plan → Type 0
AwaitsOver told s (plan.Reply r) = Unit {0}
AwaitsOver told s plan.Silent = Unit {0}
AwaitsOver told s (plan.Commit r change) = StandsOver (option_map (λ i. apply i change) told) change.page_size change.commit (committed s)
