-- Why a call on the database file failed, and what it leaves of the committed image.
use Rattle.std.specs.Prelude.{◌≡◌, ℕ}
use Rattle.lf_base.specs.Faults.{Rose}
use Rattle.lf_sqlite_pages.specs.declared.page_store.PageStore.{Ghosts}
use Rattle.database_file.specs.declared.fault.FileFault.{FileFault}
use Rattle.database_file.specs.declared.fault.FileFault.TheVariants.{Unread, NoMemory}

-- a page was not read where the image's count of faults rose; want of memory has no cause
abbrev pub HasCause : ℕ → ℕ → FileFault → Type 0
HasCause before now Unread = Rose before now
HasCause before now NoMemory = Unit {0}

-- a base gives the same image as before, of the same page size, number of pages and mode, and is broken where it was
pub record SameBase {S : Type 0} (s : Ghosts S) (old new : S) : Type 0 where
  pub image : s.image new ≡ s.image old
  pub page_size : s.page_size new ≡ s.page_size old
  pub commit : s.commit new ≡ s.commit old
  pub wal_mode : s.wal_mode new ≡ s.wal_mode old
  pub is_broken : s.is_broken new ≡ s.is_broken old
