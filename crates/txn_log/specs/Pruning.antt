-- The first files of a log are removed.
use Rattle.std.specs.Prelude.{◌≡◌, ℕ, ◌-◌, ◌<◌, ◌≤◌, Bool, true, false, List, length, drop, Result, Ok, Err}
use Rattle.lf_disk.specs.Folder.{Folder}
use Rattle.lf_disk.specs.History.{History}
use Rattle.lf_sqlite_pages.specs.Image.{DatabaseImage}
use Rattle.txn_log.specs.declared.fault.StoreFault.{StoreFault}
use Rattle.txn_log.specs.declared.fault.StoreFault.TheVariants as fault
use Rattle.txn_log.specs.declared.entry.Entry.{Entry}
use Rattle.txn_log.specs.Entries.{AreNamed}
use Rattle.txn_log.specs.Kept.{LogFile, Kept, IsAtRest, Ascends}

-- these are the first of the files of a log at rest, and not all of them
pub record AreFirst (image : DatabaseImage) (files : List LogFile) (entries : List Entry) (h : History) : Type 0 where
  pub rest : IsAtRest image files false h
  pub ascends : Ascends 0 files
  pub named : AreNamed entries files
  pub fewer : length entries < length files

-- they are the first files of some log
abbrev pub AreFirstOfSome : List Entry → History → Type 0
AreFirstOfSome entries h = (image : DatabaseImage) × (files : List LogFile) × AreFirst image files entries h

-- the folder holds the image, and the log without some of its first files
pub record IsPruned (image : DatabaseImage) (files : List LogFile) (most : ℕ) (c : Folder) : Type 0 where
  pub gone : ℕ
  pub no_more : gone ≤ most
  pub kept : Kept image (drop gone files) false c

-- what a prune of a log of so many files answers: how many are gone; it refuses where the store is broken, and the disk may fail
abbrev pub Prunes : Bool → ℕ → ℕ → Result ℕ StoreFault → Type 0
Prunes broken count keep (Ok gone) = (broken ≡ false) × (gone ≡ count - keep)
Prunes broken count keep (Err fault.Broken) = broken ≡ true
Prunes broken count keep (Err fault.Disk) = broken ≡ false
Prunes broken count keep (Err _) = ⊥
