use Rattle.std.proofs.Common.{◌≡◌, ◌+◌, ◌*◌, ◌≤◌, ◌++◌, ℕ, List, length, take, IsTrue}
use Rattle.lf_disk.specs.Folder.{Folder, SameBut}
use Rattle.lf_disk.specs.History.{EachMoment}
use Rattle.lf_disk.specs.declared.name.FileName.TheVariants.{Staged}
use Rattle.page_checksum.specs.Crc.{after_bytes}
use Rattle.ltx_codec.specs.Format.{pages_encoding}
use Rattle.txn_log.specs.Staging.{HasGathered}
use Rattle.txn_log.proofs.file_staging.gather_pages.Given as goal

abbrev pub invariant-loop-page : goal.invariant-loop-page
invariant-loop-page g l = record {
  honest : g.D.Disk.honest l.disk ≡ g.D.Disk.honest l.initial.disk;
  faults : g.D.Disk.faults l.disk ≡ g.D.Disk.faults l.initial.disk;
  room : l.gathering.at + length l.gathering.gathered.items ≤ 100 + l.page-index * 65540;
  register : l.gathering.register ≡ after_bytes l.initial.gathering.register (pages_encoding (take l.page-index l.change.pages));
  moments : IsTrue (g.D.Disk.honest l.initial.disk) → (before : Folder) (encoding : List ℕ)
      → HasGathered before l.initial.gathering.at l.initial.gathering.gathered.items encoding (g.D.Disk.history l.initial.disk)
      → EachMoment (g.D.Disk.history l.initial.disk) (g.D.Disk.history l.disk) (SameBut Staged before);
  gathers : IsTrue (g.D.Disk.honest l.initial.disk) → (before : Folder) (encoding : List ℕ)
      → HasGathered before l.initial.gathering.at l.initial.gathering.gathered.items encoding (g.D.Disk.history l.initial.disk)
      → HasGathered before l.gathering.at l.gathering.gathered.items (encoding ++ pages_encoding (take l.page-index l.change.pages)) (g.D.Disk.history l.disk);
}
