-- A staged file is published as a snapshot, and settled.
use Rattle.std.proofs.Common.{inl, inr, ℕ, Option, List, refl, sym, ◌∙◌, subst}
use Rattle.lf_disk.specs.declared.name.FileName.TheVariants.{Database, Staged, Snapshot, Ltx}
use Rattle.lf_disk.specs.Folder.{Folder, bytes_of, SameBut}
use Rattle.lf_disk.specs.History.{History, now, EachMoment}
use Rattle.lf_disk.specs.Publish.{IsOldOrPublished, IsPublished, with_bytes}
use Rattle.lf_disk.proofs.Moments.{joined, weakened}
use Rattle.lf_sqlite_pages.specs.Image.{DatabaseImage}
use Rattle.lf_sqlite_pages.specs.Change.{PageChange}
use Rattle.txn_log.specs.declared.entry.Entry.{Entry}
use Rattle.txn_log.specs.Kept.{LogFile, encoded_change, Decides, IsBySnapshot}
use Rattle.txn_log.specs.Installing.{IsReadyAnew, IsAsBeforeOrInstalled}
use Rattle.txn_log.specs.Settling.{IsUnsettled, IsInstalled}
use Rattle.txn_log.proofs.Settlings.{without-alike}

module _ (h : History) (before : Folder) (image : DatabaseImage) (entries : List Entry) (change : PageChange) (file : LogFile) (ready : IsReadyAnew before image file.encoding entries change h) where
  by_snapshot : (c : Folder) → SameBut Staged (with_bytes Snapshot file.encoding before) c → IsBySnapshot image file.encoding c
  by_snapshot c same = record {
    stands = same Snapshot refl;
    decides =
        subst (λ (o : Option (List ℕ)). Decides (encoded_change file.encoding) image (bytes_of o)) (sym (same Database refl))
        (subst (λ (x : PageChange). Decides x image (bytes_of (before Database))) (sym ready.would.tells) ready.would.decides);
  }

  pub first : (c : Folder) → IsOldOrPublished before Snapshot file.encoding c → IsAsBeforeOrInstalled before image file c
  first c is = elim is [
    | inl old ↦ inl old
    | inr new ↦ inr (inl (by_snapshot c new))
  ]

  pub unsettled : (mid : History) → IsPublished before Snapshot file.encoding mid → IsUnsettled image file.encoding entries change (now mid)
  unsettled mid published = record {
    by = by_snapshot (now mid) published.seen;
    tells = ready.would.tells;
    others = λ a b. without-alike entries before (now mid) (λ x y. published.seen (Ltx x y) refl) a b ∙ ready.would.others a b;
  }

  pub moments : (mid new : History) → EachMoment h mid (IsOldOrPublished before Snapshot file.encoding) → EachMoment mid new (IsInstalled image file) → EachMoment h new (IsAsBeforeOrInstalled before image file)
  moments mid new run after =
      joined h mid new (IsAsBeforeOrInstalled before image file)
      (weakened h mid (IsOldOrPublished before Snapshot file.encoding) (IsAsBeforeOrInstalled before image file) run first)
      (weakened mid new (IsInstalled image file) (IsAsBeforeOrInstalled before image file) after (λ c is. inr is))
