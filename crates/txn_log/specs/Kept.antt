-- What a folder holds: a log of transaction files, and the image that the last of them decides.
use Rattle.std.specs.Prelude.{◌≡◌, ◌≢◌, ℕ, ◌*◌, ◌<◌, ◌≤◌, Bool, false, ◌==◌, ◌&&◌, List, [], ◌∷◌, length, fold, Option, None, Some, IsSome, is_some, unwrap_or, if◌then◌else◌}
use Rattle.std.proofs.Props.{props}
use Rattle.lf_disk.specs.declared.name.FileName.TheVariants.{Database, Staged, Snapshot, Dropped, Ltx}
use Rattle.lf_disk.specs.Folder.{Folder, bytes_of, SameBut}
use Rattle.lf_disk.specs.History.{History}
use Rattle.lf_sqlite_pages.specs.LockPage.{IsDataPage}
use Rattle.lf_sqlite_pages.specs.Image.{DatabaseImage, page_at, empty_image}
use Rattle.lf_sqlite_pages.specs.Change.{PageChange, written}
use Rattle.lf_sqlite_pages.specs.Apply.{Fits}
use Rattle.ltx_codec.specs.FileIn.{file_in}
use Rattle.ltx_codec.specs.declared.file.Ltx.{Ltx as LtxFile}
use Rattle.txn_log.specs.Pages.{page_in}

-- a file of the log: the first and last number in its name, and its encoding
pub record LogFile : Type 0 where
  pub min : ℕ
  pub max : ℕ
  pub encoding : List ℕ

-- the file that an encoding is
unfoldable pub file_of : List ℕ → LtxFile
file_of encoding = file_in encoding

-- and its change
abbrev pub encoded_change : List ℕ → PageChange
encoded_change encoding = (file_of encoding).change

-- the encoding under a name
abbrev pub encoding_of : List LogFile → ℕ → ℕ → Option (List ℕ)
encoding_of files a b = fold (λ found file. if a == file.min && b == file.max then Some file.encoding else found) None files

-- the file that decides
abbrev pub last_of : List LogFile → Option LogFile
last_of files = fold (λ _ file. Some file) None files

-- each page of the image is the change's, and where it has none the one that stands in the database file
pub record Decides (change : PageChange) (image : DatabaseImage) (bytes : List ℕ) : Type 0 where
  pub page_size : image.page_size ≡ change.page_size
  pub commit : length image.pages ≡ change.commit
  pub pages : (n : ℕ) → 1 ≤ n → n ≤ change.commit → page_at image n ≡ Some (unwrap_or (written change.pages n) (page_in change.page_size bytes n))
  pub left : (n : ℕ) → 1 ≤ n → n ≤ change.commit → IsDataPage change.page_size n → written change.pages n ≡ None → n * change.page_size ≤ length bytes

-- the last file decides the image, and without one it is empty
pub record IsDecided (last : Option LogFile) (image : DatabaseImage) (bytes : List ℕ) : Type 0 where
  pub none : last ≡ None → image ≡ empty_image
  pub some : (file : LogFile) → last ≡ Some file → Decides (encoded_change file.encoding) image bytes

-- The folder holds this image, this log and this mark, whatever a crash made of the database file. Without a file and a
-- mark the database file has no bytes.
pub record Kept (image : DatabaseImage) (files : List LogFile) (dropped : Bool) (f : Folder) : Type 0 where
  pub log : (a b : ℕ) → f (Ltx a b) ≡ encoding_of files a b
  pub no_snapshot : f Snapshot ≡ None
  pub mark : is_some (f Dropped) ≡ dropped
  pub decided : IsDecided (last_of files) image (bytes_of (f Database))
  pub bare : last_of files ≡ None → dropped ≡ false → bytes_of (f Database) ≡ []

-- a snapshot stands in the folder, and decides whatever else stands there
pub record IsBySnapshot (image : DatabaseImage) (encoding : List ℕ) (f : Folder) : Type 0 where
  pub stands : f Snapshot ≡ Some encoding
  pub decides : Decides (encoded_change encoding) image (bytes_of (f Database))

-- the mark of a dropped database decides
pub record IsByMark (f : Folder) : Type 0 where
  pub no_snapshot : f Snapshot ≡ None
  pub stands : IsSome (f Dropped)

-- the bytes are those of the image
pub record Shows (image : DatabaseImage) (bytes : List ℕ) : Type 0 where
  pub long : length bytes ≡ length image.pages * image.page_size
  pub pages : (n : ℕ) → 1 ≤ n → n ≤ length image.pages → page_at image n ≡ Some (page_in image.page_size bytes n)

-- At a moment between two calls the database file reads as the image, and nothing is pending but on the staged file.
pub record IsAtRestAt (image : DatabaseImage) (files : List LogFile) (dropped : Bool) (h : History) (t : ℕ) : Type 0 where
  pub kept : Kept image files dropped (h.seen t)
  pub shows : Shows image (bytes_of (h.seen t Database))
  pub settled : (c : Folder) → h.leaves t c → SameBut Staged (h.seen t) c

abbrev pub IsAtRest : DatabaseImage → List LogFile → Bool → History → Type 0
IsAtRest image files dropped h = IsAtRestAt image files dropped h h.moment

-- a change that fits an image and is complete over it: it writes each data page past the image's end
pub record IsComplete (image : DatabaseImage) (change : PageChange) : Type 0 where
  pub fits : Fits image change
  pub past : (n : ℕ) → length image.pages < n → n ≤ change.commit → IsDataPage change.page_size n → written change.pages n ≢ None

-- the numbers of the files ascend
abbrev pub Ascends : ℕ → List LogFile → Type 0
Ascends number [] = Unit {0}
Ascends number (file ∷ files) = (number < file.min) × (file.min ≤ file.max) × Ascends file.max files

pub Ascends-prop : (number : ℕ) (files : List LogFile) → IsProp (Ascends number files)
Ascends-prop number [] = hlevel props
Ascends-prop number (file ∷ files) = hlevel (props, Ascends-prop file.max files)
