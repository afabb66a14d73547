-- What a store stands for: a function of its fields and of what its disk reads.
use Rattle.std.specs.Prelude.{◌≡◌, ◌≢◌, ℕ, ◌≤◌, ◌<◌, ◌^◌, Bool, true, List, [], map, fold, length, Option, None, Some, if◌then◌else◌}
use Rattle.std.specs.List.{range_with_len}
use Rattle.page_checksum.specs.Sums.{flagged, joined}
use Rattle.lf_base.specs.declared.pos.Pos.{Pos}
use Rattle.lf_disk.specs.declared.name.FileName.TheVariants.{Database, Staged, Ltx as LtxName}
use Rattle.lf_disk.specs.Folder.{Folder, bytes_of}
use Rattle.lf_disk.specs.History.{History}
use Rattle.lf_sqlite_pages.specs.PageSize.{IsPageSize}
use Rattle.lf_sqlite_pages.specs.Image.{DatabaseImage}
use Rattle.ltx_codec.specs.Positions.{before, after, nowhere}
use Rattle.ltx_codec.specs.Sums.{sum_table}
use Rattle.ltx_codec.specs.declared.file.Ltx.{Ltx}
use Rattle.world_laws.specs.Store.{StoreState, Failure, FailedBefore, FailedIn, Commit, Apply, Install, PruneTo, DropAll}
use Rattle.txn_log.specs.declared.entry.Entry.{Entry}
use Rattle.txn_log.specs.declared.entry.Attempt.{Attempt}
use Rattle.txn_log.specs.declared.entry.Attempt.TheVariants as attempt
use Rattle.txn_log.specs.Pages.{page_in}
use Rattle.txn_log.specs.Kept.{LogFile, file_of, IsAtRestAt}
use Rattle.txn_log.specs.Durable.{log_of, IsLog}

-- the image in the database file of a folder
abbrev pub image_in : ℕ → ℕ → Folder → DatabaseImage
image_in size commit f = record { page_size = size; pages = map (page_in size (bytes_of (f Database))) (range_with_len 1 commit) }

-- the files of these entries in a folder
abbrev pub files_in : List Entry → Folder → List LogFile
files_in entries f = map (λ e. record { min = e.min; max = e.max; encoding = bytes_of (f (LtxName e.min e.max)) }) entries

-- the store in a folder
abbrev pub state_in : ℕ → ℕ → List Entry → Bool → Folder → StoreState
state_in size commit entries dropped f = record { image = image_in size commit f; log = log_of (files_in entries f); dropped = dropped }

-- the entry of a file
abbrev pub entry_of : Ltx → Entry
entry_of file = record { min = file.header.min; max = file.header.max; pre = before file; post = after file }

-- the position behind the last entry
unfoldable pub end_of_entries : List Entry → Pos
end_of_entries entries = fold (λ _ e. e.post) nowhere entries

-- the moment at which the disk is meant: where the store is broken, that before the call that broke it
abbrev pub meant : History → Bool → ℕ → ℕ
meant h broken whole = if broken then whole else h.moment

-- the call that an attempt was, from the moment on at which its rename was tried
abbrev pub failure_of : History → ℕ → Attempt → Failure
failure_of h tried attempt.Unpublished = FailedBefore
failure_of h tried attempt.Commit = FailedIn (Commit (file_of (bytes_of (h.seen tried Staged))))
failure_of h tried attempt.Apply = FailedIn (Apply (file_of (bytes_of (h.seen tried Staged))))
failure_of h tried attempt.Install = FailedIn (Install (file_of (bytes_of (h.seen tried Staged))))
failure_of h tried (attempt.Prune keep) = FailedIn (PruneTo keep)
failure_of h tried attempt.Drop = FailedIn DropAll

-- what broke the store
abbrev pub failed_of : History → Bool → Attempt → ℕ → Option Failure
failed_of h broken attempt tried = if broken then Some (failure_of h tried attempt) else None

-- the entries are those of these files
pub record AreEntries (entries : List Entry) (files : List LogFile) : Type 0 where
  pub log : IsLog files
  pub same : map (λ file. entry_of (file_of file.encoding)) files ≡ entries

-- over an honest disk the moment that is meant was one at rest, and entries and sums are those of the files and pages then
pub record IsStore (h : History) (size commit : ℕ) (entries : List Entry) (dropped : Bool) (sums : List ℕ) (broken : Bool) (whole tried : ℕ) : Type 0 where
  pub past : meant h broken whole ≤ h.moment
  pub rest : IsAtRestAt (image_in size commit (h.seen (meant h broken whole))) (files_in entries (h.seen (meant h broken whole))) dropped h (meant h broken whole)
  pub log : AreEntries entries (files_in entries (h.seen (meant h broken whole)))
  pub table : sums ≡ sum_table (image_in size commit (h.seen (meant h broken whole)))
  pub early : broken ≡ true → tried ≤ h.moment

-- over any disk the fields fit together
pub record IsShaped (commit : ℕ) (entries : List Entry) (dropped : Bool) (sums : List ℕ) : Type 0 where
  pub count : length sums ≡ commit
  pub limit : commit < 2 ^ 32
  pub none : entries ≡ [] → commit ≡ 0
  pub marked : dropped ≡ true → entries ≡ []
  pub sum : entries ≢ [] → (end_of_entries entries).sum ≡ flagged (joined sums)
  pub some : entries ≢ [] → 1 ≤ (end_of_entries entries).txid

-- a page size is one of SQLite's, and where there are pages there is one
pub record IsSized (size commit : ℕ) : Type 0 where
  pub sized : 0 < size → IsPageSize size
  pub pages : 0 < commit → IsPageSize size

-- the store as its callers see it
abbrev pub state_of : History → ℕ → ℕ → List Entry → Bool → Bool → ℕ → StoreState
state_of h size commit entries dropped broken whole = state_in size commit entries dropped (h.seen (meant h broken whole))
