-- The steps in which the code writes pages. No public clause cites them.
use Rattle.std.specs.Prelude.{◌≡◌, ◌≢◌, ℕ, ◌+◌, ◌<◌, ◌≤◌, ◌==◌, Bool, true, false, Option, Some, None, IfSome, List, replicate, unwrap_or, if◌then◌else◌}
use Rattle.std.specs.List.{slice_get}
use Rattle.std.specs.Ordering.{nat_cmp}
use Rattle.std.specs.FinMap as pages
use Rattle.lf_sqlite_pages.specs.LockPage.{IsDataPage}
use Rattle.lf_sqlite_pages.specs.Image.{DatabaseImage, page_at}
use Rattle.lf_sqlite_pages.specs.Overlay.{PageOverlay}
use Rattle.database_file.specs.Writing.{page_or_zeros, page_in}

-- pages by number
abbrev pub Pages : Type 0
Pages = pages.FinMap nat_cmp (List ℕ)

-- the number of pages as it is kept: only where it isn't the image's
abbrev pub counted : ℕ → ℕ → Option ℕ
counted count commit = if count == commit then None else Some count

-- whether the image has this page there, where it is told
abbrev pub TellsSame : Option DatabaseImage → ℕ → List ℕ → Bool → Type 0
TellsSame told n page same = IfSome told (λ i. (same ≡ true → page_at i n ≡ Some page) × (same ≡ false → page_at i n ≢ Some page))

-- for each of some pages from a page on, whether the image has it there
abbrev pub TellAllSame : Option DatabaseImage → ℕ → List ℕ → ℕ → List Bool → Type 0
TellAllSame told first bytes size same = (k : ℕ) (b : Bool) → slice_get same k ≡ Some b → TellsSame told (first + k) (page_in bytes size k) b

-- so many pages of a size can be put without memory
pub record HasRooms (kept : PageOverlay) (count size : ℕ) : Type 0 where
  pub of_size : kept.size ≡ size
  pub spare : count ≤ kept.spare

-- so many pages from a page on were put, those that the image has were dropped
pub record ArePut (old : Pages) (first : ℕ) (bytes : List ℕ) (size count : ℕ) (same : List Bool) (new : Pages) : Type 0 where
  pub before : (n : ℕ) → n < first → pages.get new n ≡ pages.get old n
  pub within : (k : ℕ) (b : Bool) → k < count → slice_get same k ≡ Some b → pages.get new (first + k) ≡ (if b then None else Some (page_in bytes size k))
  pub behind : (n : ℕ) → first + count ≤ n → pages.get new n ≡ pages.get old n

-- zeros may be kept for pages behind a number, up to another one
pub record MayKeepZeros (old : Pages) (from to size : ℕ) (new : Pages) : Type 0 where
  pub before : (n : ℕ) → n ≤ from → pages.get new n ≡ pages.get old n
  pub zeros : (n : ℕ) (page : List ℕ) → from < n → n ≤ to → pages.get new n ≡ Some page → (page ≡ replicate size 0) × IsDataPage size n
  pub behind : (n : ℕ) → from < n → to < n → pages.get new n ≡ pages.get old n

-- page n reads as zeros over an image, and where zeros are kept the image isn't zeros
pub record KeepsZero (new : Pages) (n size : ℕ) (image : DatabaseImage) : Type 0 where
  pub read : unwrap_or (pages.get new n) (page_or_zeros image size n) ≡ replicate size 0
  pub differ : (page : List ℕ) → pages.get new n ≡ Some page → page_at image n ≢ Some page

-- each page behind a number, up to another one, does
abbrev pub KeepsZeros : Pages → ℕ → ℕ → ℕ → DatabaseImage → Type 0
KeepsZeros new from to size image = (n : ℕ) → from < n → n ≤ to → KeepsZero new n size image
