-- What a commit of the file leaves, and the change that leads to it.
use Rattle.std.specs.Prelude.{◌≡◌, ℕ, ◌≤◌, ◌==◌, Bool, false, Option, Some, None, List, length, take, unwrap_or, if◌then◌else◌}
use Rattle.std.specs.Option.{option_map}
use Rattle.std.specs.Str.{bytes_eq}
use Rattle.std.specs.FinMap as pages
use Rattle.lf_sqlite_pages.specs.LockPage.{lock_page_of}
use Rattle.lf_sqlite_pages.specs.Image.{DatabaseImage, SameImage, page_at}
use Rattle.lf_sqlite_pages.specs.Header.{image_header_pages}
use Rattle.lf_sqlite_pages.specs.Change.{PageChange}
use Rattle.lf_sqlite_pages.specs.Complete.{completed}
use Rattle.lf_sqlite_pages.specs.Writes.{writes_of}
use Rattle.database_file.specs.DatabaseFile.{DatabaseFile, size_over, count_over, is_clean, as_read}

-- the first pages of an image, so many
abbrev pub cut_to : DatabaseImage → ℕ → DatabaseImage
cut_to image count = record { page_size = image.page_size; pages = take count image.pages }

-- an image cut to its header's size, to which SQLite cuts the file once it has finished its journal
abbrev pub cut_to_header : DatabaseImage → DatabaseImage
cut_to_header image = cut_to image (image_header_pages image)

-- what a commit leaves over an image: the same image where the file is that, else the file as it reads, cut to its header's size
abbrev pub committed_image : DatabaseFile → DatabaseImage → DatabaseImage
committed_image file image = if is_clean file then image else cut_to_header (as_read file image)

-- whether an image has a page at a number
abbrev pub has_page : DatabaseImage → ℕ → List ℕ → Bool
has_page image n page = unwrap_or (option_map (λ other. bytes_eq page other) (page_at image n)) false

-- a page, where an image hasn't it at its number
abbrev pub unless_there : DatabaseImage → ℕ → Option (List ℕ) → Option (List ℕ)
unless_there image n None = None
unless_there image n (Some page) = if has_page image n page then None else Some page

-- page n of another image, where it is a data page that the image hasn't there
abbrev pub page_changed : DatabaseImage → DatabaseImage → ℕ → Option (List ℕ)
page_changed image other n = if n == lock_page_of other.page_size then None else unless_there image n (page_at other n)

-- the change from an image to another one: the data pages that differ
abbrev pub difference : DatabaseImage → DatabaseImage → PageChange
difference image other = record {
  page_size = other.page_size;
  commit = length other.pages;
  pages = writes_of (page_changed image other) (length other.pages);
}

-- a change that leads from an image to another one, or none where they are the same
abbrev pub LeadsTo : DatabaseImage → DatabaseImage → Option PageChange → Type 0
LeadsTo image other None = SameImage other image
LeadsTo image other (Some change) = (SameImage other image → ⊥) × (change ≡ difference image other)

-- the change that writes what is kept up to a count of pages, and each data page past those of the image
abbrev pub change_to : DatabaseFile → ℕ → ℕ → ℕ → PageChange
change_to file page_size commit count = completed (record {
  page_size = size_over file page_size commit;
  commit = count;
  pages = writes_of (pages.get file.kept) count;
}) commit

-- a change is that of a count of pages within the file
pub record IsChangeOf (file : DatabaseFile) (page_size commit : ℕ) (change : PageChange) : Type 0 where
  pub is : change ≡ change_to file page_size commit change.commit
  pub within : change.commit ≤ count_over file commit
