-- The files of a level are read, one after another.
use Rattle.std.proofs.Common.{◌≡◌, ◌∙◌, ℕ, ◌+◌, ◌<◌, List, [], ◌∷◌, ◌++◌, length, take, get_or, sym, ap}
use Rattle.lf_disk.specs.declared.name.FileName.TheVariants.{Ltx as LtxName}
use Rattle.lf_disk.specs.Folder.{Folder}
use Rattle.ltx_codec.specs.declared.file.Ltx.{Ltx}
use Rattle.ltx_backup.specs.Causes.{IsBlameless}
use Rattle.ltx_backup.specs.Entries.{entries_of}
use Rattle.ltx_backup.specs.Judging.{HasNumbers, IsUnread}
use Rattle.ltx_backup.specs.Levels.{Stands, AllStand}
use Rattle.ltx_backup.specs.declared.entry.Entry.{Entry}
use Rattle.ltx_backup.specs.declared.fault.BackupFault.{BackupFault}
use Rattle.ltx_backup.specs.declared.fault.BackupFault.TheVariants as fault
use Rattle.ltx_backup.proofs.Holding.{all_stand_same}
use Rattle.ltx_backup.proofs.Lists.{no_entry}
use Rattle.ltx_backup.proofs.Nths.{Nth, nth}
use Rattle.ltx_backup.proofs.Restores.{the_one}
use Rattle.ltx_backup.proofs.Stills.{Alike}

module _ (f g : Folder) (entries : List Entry) (files : List Ltx) (i : ℕ) where
  pub one_more : (so_far : List Ltx) (file : Ltx) → Alike f g → entries ≡ entries_of files → AllStand f files → i < length entries → so_far ≡ take i files → Stands g file
      → HasNumbers file (get_or entries i no_entry) → so_far ++ file ∷ [] ≡ take (i + 1) files
  one_more so_far file same are stand more is stands numbers =
      let at : Nth g files i (get_or entries i no_entry) = nth g entries files i are more (all_stand_same f g files (λ a b. same (LtxName a b)) stand) in
      let it : file ≡ at.file = the_one g (get_or entries i no_entry) file at.file at.is numbers stands at.stands in
      (λ k. is k ++ it k ∷ []) ∙ sym at.front

  pub not_unread : (level : ℕ) → Alike f g → entries ≡ entries_of files → AllStand f files → i < length entries → (why : BackupFault) → IsUnread g level (get_or entries i no_entry) why → IsBlameless why
  not_unread level same are stand more fault.Disk unread = tt
  not_unread level same are stand more fault.Broken unread = absurd unread
  not_unread level same are stand more (fault.NotNext have want) unread = absurd unread
  not_unread level same are stand more (fault.NoSuchTxid txid last) unread = absurd unread
  not_unread level same are stand more (fault.SumDiffers want got) unread = absurd unread
  not_unread level same are stand more (fault.Damaged at_level a b) unread =
      let at : Nth g files i (get_or entries i no_entry) = nth g entries files i are more (all_stand_same f g files (λ a b. same (LtxName a b)) stand) in
      absurd (unread.3 at.file (sym (ap (λ (e : Entry). e.min) at.is), sym (ap (λ (e : Entry). e.max) at.is)) at.stands)
  not_unread level same are stand more fault.NoMemory unread = tt
