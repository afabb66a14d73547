-- The store on a disk that was recovered.
use Rattle.std.specs.Prelude.{◌≡◌, ℕ, true, false, None, Result, Ok, Err}
use Rattle.lf_base.specs.Faults.{Rose}
use Rattle.lf_disk.specs.declared.name.FileName.TheVariants.{Staged, Dropped}
use Rattle.lf_disk.specs.Folder.{Folder}
use Rattle.lf_disk.specs.History.{History, now}
use Rattle.lf_sqlite_pages.specs.Header.{image_is_wal}
use Rattle.world_laws.specs.Store.{StoreState}
use Rattle.txn_log.specs.Durable.{Durable}
use Rattle.txn_log.specs.Store.{IsStore, IsShaped, IsSized, image_in, state_in}
use Rattle.node_recovery.specs.declared.fault.RecoverFault.{RecoverFault}
use Rattle.node_recovery.specs.declared.fault.RecoverFault.TheVariants as fault
use Rattle.node_recovery.specs.declared.opened.Opened.{Opened}
use Rattle.node_recovery.specs.Finding.{IsDamaged}

-- The disk is at rest as this store, which is the one that its folder stood for before. Nothing is left staged, and the
-- mark of a dropped database is as it was.
pub record IsOpened (old new : History) (opened : Opened) : Type 0 where
  pub kept : IsStore new opened.page_size opened.commit opened.entries.items opened.dropped opened.sums.sums false 0 0
  pub mode : opened.wal ≡ image_is_wal (image_in opened.page_size opened.commit (now new))
  pub state : (store : StoreState) → Durable (now old) store → state_in opened.page_size opened.commit opened.entries.items opened.dropped (now new) ≡ store
  pub staged : now new Staged ≡ None
  pub mark : opened.dropped ≡ true → now new Dropped ≡ now old Dropped

-- what reopening gives, over an honest disk
abbrev pub Opens : History → History → Result Opened RecoverFault → Type 0
Opens old new (Ok opened) = IsOpened old new opened
Opens old new (Err (fault.Damaged file want got)) = IsDamaged (now old) file want got
Opens old new (Err why) = Unit {0}

-- over any disk the fields fit together
pub record IsFitting (opened : Opened) : Type 0 where
  pub shaped : IsShaped opened.commit opened.entries.items opened.dropped opened.sums.sums
  pub sized : IsSized opened.page_size opened.commit

-- why a folder is not opened: where that is damage, the folder has it
abbrev pub IsWhy : Folder → RecoverFault → Type 0
IsWhy f (fault.Damaged file want got) = IsDamaged f file want got
IsWhy f why = Unit {0}

-- only a disk that failed raised its count
abbrev pub IsCause : ℕ → ℕ → RecoverFault → Type 0
IsCause before now fault.Disk = Rose before now
IsCause before now why = now ≡ before
