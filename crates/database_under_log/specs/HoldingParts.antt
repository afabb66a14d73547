-- The steps in which the code keeps pages for a commit. No public clause cites them.
use Rattle.std.specs.Prelude.{◌≡◌, ◌≢◌, ℕ, ◌<◌, ◌≤◌, ◌==◌, ◌&&◌, ◌||◌, Bool, true, false, Option, Some, None, is_some, List, [], ◌∷◌, ◌++◌, length, take, unwrap_or, if◌then◌else◌}
use Rattle.std.specs.Option.{option_map}
use Rattle.std.specs.List.{list_any}
use Rattle.std.specs.Str.{bytes_eq}
use Rattle.std.specs.FinMap as pages
use Rattle.lf_sqlite_pages.specs.Image.{DatabaseImage, page_at}
use Rattle.lf_sqlite_pages.specs.Change.{PageChange, written}
use Rattle.lf_sqlite_pages.specs.Apply.{apply}
use Rattle.database_file.specs.DatabaseFile.{DatabaseFile, count_over, page_of}
use Rattle.database_file.specs.Writing.{page_or_zeros}
use Rattle.database_file.specs.WritingParts.{Pages}
use Rattle.database_under_log.specs.Staying.{without}
use Rattle.database_under_log.specs.declared.holding.Held.{Held}

abbrev pub among : List ℕ → ℕ → Bool
among numbers n = list_any (λ k. n == k) numbers

-- whether a page is left as it is by another one in its place, if there is one
abbrev pub is_left : Option (List ℕ) → List ℕ → Bool
is_left new page = unwrap_or (option_map (λ other. bytes_eq other page) new) false

-- page n was noted: it is kept where it was not and isn't left
pub record IsNoted (file : DatabaseFile) (held : Held) (n : ℕ) (page : List ℕ) (left : Bool) (new : DatabaseFile) (later : Held) : Type 0 where
  pub kept : new.kept ≡ (if is_some (pages.get file.kept n) || left then file.kept else pages.insert file.kept n page)
  pub page_size : new.page_size ≡ file.page_size
  pub count : new.count ≡ file.count
  pub added : later.added.items ≡ (if is_some (pages.get file.kept n) || left then held.added.items else held.added.items ++ n ∷ [])
  pub same : later.same.items ≡ (if is_some (pages.get file.kept n) && left then held.same.items ++ n ∷ [] else held.same.items)

-- without the pages that were added the pages are those of before
pub record IsBack (before after : Pages) (added : List ℕ) : Type 0 where
  pub others : (n : ℕ) → among added n ≡ false → pages.get after n ≡ pages.get before n
  pub fresh : (n : ℕ) → among added n ≡ true → pages.get before n ≡ None

-- what is kept at a page lets it read as some bytes over an image, and differs from the image
pub record StaysAt (kept : Option (List ℕ)) (image : DatabaseImage) (size n : ℕ) (page : List ℕ) : Type 0 where
  pub read : unwrap_or kept (page_or_zeros image size n) ≡ page
  pub differ : (other : List ℕ) → kept ≡ Some other → page_at image n ≢ Some other

-- the pages that were noted lie below some number
abbrev pub AreBelow : List ℕ → ℕ → Type 0
AreBelow numbers limit = (n : ℕ) → among numbers n ≡ true → n < limit

-- where the image is told: each page reads as before
abbrev pub ReadsOn : DatabaseFile → DatabaseFile → DatabaseImage → Type 0
ReadsOn before after image = (n : ℕ) → 1 ≤ n → n ≤ count_over before (length image.pages) → page_of after image n ≡ page_of before image n

-- and the pages that the first writes of a change write, and those that none of them does, stay over the image after it
abbrev pub StaysBy : DatabaseFile → DatabaseFile → List ℕ → DatabaseImage → PageChange → ℕ → Type 0
StaysBy before after same image change at = (n : ℕ) → 1 ≤ n → n ≤ change.commit → n ≤ count_over before (length image.pages) →
    written change.pages n ≡ written (take at change.pages) n →
    StaysAt (pages.get (without after.kept same) n) (apply image change) change.page_size n (page_of before image n)

-- the pages up to a number do
abbrev pub StaysTo : DatabaseFile → DatabaseFile → List ℕ → DatabaseImage → PageChange → ℕ → Type 0
StaysTo before after same image change to = (n : ℕ) → 1 ≤ n → n ≤ to → n ≤ count_over before (length image.pages) →
    StaysAt (pages.get (without after.kept same) n) (apply image change) change.page_size n (page_of before image n)
