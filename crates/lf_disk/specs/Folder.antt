-- The files of a disk by their names.
use Rattle.std.specs.Prelude.{◌≡◌, ℕ, Bool, true, false, ◌&&◌, ◌==◌, List, [], Option, None, Some, if◌then◌else◌}
use Rattle.lf_base.specs.FileBytes.{resized, overwritten}
use Rattle.lf_disk.specs.declared.name.FileName.{FileName}
use Rattle.lf_disk.specs.declared.name.FileName.TheVariants.{Database, Staged, Snapshot, Dropped, Ltx}

-- whether two names are one
abbrev pub same_name : FileName → FileName → Bool
same_name Database Database = true
same_name Staged Staged = true
same_name Snapshot Snapshot = true
same_name Dropped Dropped = true
same_name (Ltx a b) (Ltx c d) = a == c && b == d
same_name _ _ = false

-- the bytes under each name, None where there is no such file
abbrev pub Folder : Type 0
Folder = FileName → Option (List ℕ)

-- the bytes of a file, none where it is absent
abbrev pub bytes_of : Option (List ℕ) → List ℕ
bytes_of None = []
bytes_of (Some bytes) = bytes

-- the folder with this under this name
abbrev pub with_file : FileName → Option (List ℕ) → Folder → Folder
with_file name file folder n = if same_name n name then file else folder n

-- the folder in which the first name has become the second
abbrev pub renamed : FileName → FileName → Folder → Folder
renamed from to folder n = if same_name n to then folder from else if same_name n from then None else folder n

-- every file is the same
abbrev pub Same : Folder → Folder → Type 0
Same old new = (n : FileName) → new n ≡ old n

-- every file but one is the same
abbrev pub SameBut : FileName → Folder → Folder → Type 0
SameBut name old new = (n : FileName) → same_name n name ≡ false → new n ≡ old n

-- the folder after a write into a file
abbrev pub with_write : FileName → ℕ → List ℕ → Folder → Folder
with_write name at piece folder = with_file name (Some (overwritten at piece (bytes_of (folder name)))) folder

-- the folder after a file got a length
abbrev pub with_length : FileName → ℕ → Folder → Folder
with_length name len folder = with_file name (Some (resized len (bytes_of (folder name)))) folder
