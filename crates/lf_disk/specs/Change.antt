-- What a changing call does to a folder, and what a crash may make of it until the file is synced.
use Rattle.std.specs.Prelude.{◌≡◌, ◌⊎◌, ℕ, ◌+◌, ◌<◌, ◌≤◌, min, max, List, length, slice_index, Option, Some, IsSome}
use Rattle.lf_disk.specs.declared.name.FileName.{FileName}
use Rattle.lf_base.specs.FileBytes.{resized, overwritten}
use Rattle.lf_disk.specs.Folder.{Folder, bytes_of, Same, SameBut, renamed}

-- what a call does to one file
abbrev pub Edit : Type 1
Edit = Option (List ℕ) → Option (List ℕ) → Type 0

-- what a call does to a folder
abbrev pub Step : Type 1
Step = Folder → Folder → Type 0

-- this file is edited so, and the others stay
pub record OnFile (name : FileName) (edit : Edit) (old new : Folder) : Type 0 where
  pub here : edit (old name) (new name)
  pub elsewhere : SameBut name old new

-- the step was taken, or nothing was done
abbrev pub Perhaps : Step → Step
Perhaps step old new = Same old new ⊎ step old new

-- one step and then another
abbrev pub Both : Step → Step → Step
Both first second old new = (between : Folder) × first old between × second between new

-- the file has become this one
abbrev pub Becomes : Option (List ℕ) → Edit
Becomes file old new = new ≡ file

-- these bytes were written at an offset
abbrev pub Writes : ℕ → List ℕ → Edit
Writes at piece old new = new ≡ Some (overwritten at piece (bytes_of old))

-- the file got this length
abbrev pub Cuts : ℕ → Edit
Cuts len old new = new ≡ Some (resized len (bytes_of old))

-- one name has become the other
abbrev pub Renames : FileName → FileName → Step
Renames from to old new = Same (renamed from to old) new

-- a write of n bytes that a crash cuts short: any bytes in its range and past the old end, the same elsewhere
pub record Torn (at n : ℕ) (old new : List ℕ) : Type 0 where
  pub no_shorter : length old ≤ length new
  pub no_longer : length new ≤ max (length old) (at + n)
  pub below : (i : ℕ) → i < length old → i < at → slice_index new i ≡ slice_index old i
  pub above : (i : ℕ) → i < length old → at + n ≤ i → slice_index new i ≡ slice_index old i

-- a change of the length that a crash cuts short: a length from the old one to the new, the same bytes below both
pub record Cropped (len : ℕ) (old new : List ℕ) : Type 0 where
  pub no_shorter : min (length old) len ≤ length new
  pub no_longer : length new ≤ max (length old) len
  pub below : (i : ℕ) → i < length old → i < len → slice_index new i ≡ slice_index old i

-- a file that stood stays, and its bytes are related so; one that did not may or may not be made
pub record Stands (change : List ℕ → List ℕ → Type 0) (old new : Option (List ℕ)) : Type 0 where
  pub stays : IsSome old → IsSome new
  pub bytes : change (bytes_of old) (bytes_of new)

-- a write into a file, of which a crash leaves anything in its range
abbrev pub TearsFile : FileName → ℕ → ℕ → Step
TearsFile name at n = OnFile name (Stands (Torn at n))

-- a change of a file's length, which a crash stops half way
abbrev pub CropsFile : FileName → ℕ → Step
CropsFile name len = OnFile name (Stands (Cropped len))

-- a file becomes this one
abbrev pub SetsFile : FileName → Option (List ℕ) → Step
SetsFile name file = OnFile name (Becomes file)
