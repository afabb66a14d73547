-- The files before and after one is published.
use Rattle.std.specs.Prelude.{◌≡◌, ◌⊎◌, ◌≤◌, ℕ, List, length, Some, None}
use Rattle.lf_disk.specs.declared.name.FileName.{FileName}
use Rattle.lf_disk.specs.declared.name.FileName.TheVariants.{Staged}
use Rattle.lf_disk.specs.Folder.{Folder, bytes_of, with_file, SameBut}
use Rattle.lf_disk.specs.History.{History, now, may_leave, IsSettledBut}

-- the staged file has at most so many bytes, and the others are as before
pub record IsTrimmed (len : ℕ) (before : Folder) (h : History) : Type 0 where
  pub seen : SameBut Staged before (now h)
  pub short : length (bytes_of (now h Staged)) ≤ len

-- the staged file has these bytes, also in what a crash leaves, and the others are as before
pub record IsStaged (before : Folder) (bytes : List ℕ) (h : History) : Type 0 where
  pub seen : SameBut Staged before (now h)
  pub here : now h Staged ≡ Some bytes
  pub others : (c : Folder) → may_leave h c → SameBut Staged before c
  pub whole : (c : Folder) → may_leave h c → c Staged ≡ Some bytes

-- the folder with these bytes under this name
abbrev pub with_bytes : FileName → List ℕ → Folder → Folder
with_bytes name bytes = with_file name (Some bytes)

-- in every file but the staged one, a folder is as before or has the file whole
abbrev pub IsOldOrPublished : Folder → FileName → List ℕ → Folder → Type 0
IsOldOrPublished before name bytes c = SameBut Staged before c ⊎ SameBut Staged (with_bytes name bytes before) c

-- the file is there, the staged one is gone, and a crash leaves that alone
pub record IsPublished (before : Folder) (name : FileName) (bytes : List ℕ) (h : History) : Type 0 where
  pub seen : SameBut Staged (with_bytes name bytes before) (now h)
  pub staged : now h Staged ≡ None
  pub settled : IsSettledBut Staged h

-- in every file but the staged one, a folder is as before, has the first file whole, or has both
abbrev pub IsOneOfThree : Folder → FileName → List ℕ → FileName → List ℕ → Folder → Type 0
IsOneOfThree before first first_bytes second second_bytes c =
    let then = with_bytes first first_bytes before in
    SameBut Staged before c ⊎ (SameBut Staged then c ⊎ SameBut Staged (with_bytes second second_bytes then) c)
