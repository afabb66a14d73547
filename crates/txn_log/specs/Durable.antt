-- The store that the files of a folder stand for.
--
-- The deciding file is the snapshot where it stands, else the mark of a dropped database where it stands, else the
-- transaction file with the greatest numbers. Every data page of the image that it does not hold stands in the database
-- file at its place; the lock page is zeros, whatever stands there.
use Rattle.std.specs.Prelude.{◌≡◌, ◌≢◌, ◌⊎◌, ℕ, ◌+◌, ◌<◌, false, List, [], ◌∷◌, length, map, get_or}
use Rattle.lf_disk.specs.Folder.{Folder}
use Rattle.ltx_codec.specs.Format.{IsLtx}
use Rattle.ltx_codec.specs.Positions.{before, after}
use Rattle.ltx_codec.specs.Sums.{image_sum}
use Rattle.ltx_codec.specs.declared.file.Ltx.{Ltx}
use Rattle.world_laws.specs.Store.{StoreState, at, dropped_store}
use Rattle.txn_log.specs.Kept.{LogFile, file_of, Kept, IsBySnapshot, IsByMark, Ascends}

-- the encoding is one of its file
abbrev pub IsEncoding : List ℕ → Type 0
IsEncoding encoding = ∥ IsLtx encoding (file_of encoding) ∥₁

-- the files that these encodings are
abbrev pub log_of : List LogFile → List Ltx
log_of files = map (λ file. file_of file.encoding) files

-- each file follows the position of the one before it
abbrev pub Follow : List Ltx → Type 0
Follow log = (k : ℕ) (d : Ltx) → k + 1 < length log → before (get_or log (k + 1) d) ≡ after (get_or log k d)

-- the encodings are those of files, each with the numbers of its name, and each follows the one before it
pub record IsLog (files : List LogFile) : Type 0 where
  pub ascends : Ascends 0 files
  pub encodings : (k : ℕ) (d : LogFile) → k < length files → IsEncoding (get_or files k d).encoding
  pub min : (k : ℕ) (d : LogFile) → k < length files → (file_of (get_or files k d).encoding).header.min ≡ (get_or files k d).min
  pub max : (k : ℕ) (d : LogFile) → k < length files → (file_of (get_or files k d).encoding).header.max ≡ (get_or files k d).max
  pub follow : Follow (log_of files)

-- where there is a file, the sum that the last one leads to is that of the image
abbrev pub IsSummed : StoreState → Type 0
IsSummed store = store.log ≢ [] → (at store).sum ≡ image_sum store.image

-- the transaction files of the folder are the log, and the last of them decides
pub record StandsByLog (folder : Folder) (store : StoreState) : Type 0 where
  pub files : List LogFile
  pub kept : Kept store.image files false folder
  pub log : store.log ≡ log_of files
  pub sound : IsLog files
  pub sum : IsSummed store
  pub unmarked : store.dropped ≡ false

-- a snapshot decides: it is the log alone
pub record StandsBySnapshot (folder : Folder) (store : StoreState) : Type 0 where
  pub encoding : List ℕ
  pub by : IsBySnapshot store.image encoding folder
  pub log : store.log ≡ file_of encoding ∷ []
  pub is : IsEncoding encoding
  pub first : (file_of encoding).header.min ≡ 1
  pub sum : IsSummed store
  pub unmarked : store.dropped ≡ false

-- the mark decides: there is nothing else
pub record StandsByMark (folder : Folder) (store : StoreState) : Type 0 where
  pub by : IsByMark folder
  pub empty : store ≡ dropped_store

-- THE STORE OF A FOLDER
abbrev pub Durable : Folder → StoreState → Type 0
Durable folder store = StandsByLog folder store ⊎ (StandsBySnapshot folder store ⊎ StandsByMark folder store)
