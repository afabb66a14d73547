-- A law of snapshots: what a store keeps of itself is enough for its snapshot to be a file.
use Rattle.std.specs.Prelude.{◌≡◌, ◌^◌, ◌<◌, ◌≤◌, length}
use Rattle.lf_sqlite_pages.specs.PageSize.{IsPageSize}
use Rattle.lf_sqlite_pages.specs.Image.{IsImage}
use Rattle.lf_sqlite_pages.specs.LockPage.{IsWithinLimit}
use Rattle.ltx_codec.specs.Format.{IsFile, IsFlagged}
use Rattle.ltx_codec.specs.Sums.{image_sum}
use Rattle.world_laws.specs.Answers.{snapshot_of}
use Rattle.world_laws.specs.Store.{StoreState, at}

-- a store that was written: a whole image within the limits, at its own position. The page size is one also where there
-- are no pages
pub record IsFullStore (store : StoreState) : Type 0 where
  pub some : 1 ≤ (at store).txid
  pub txid : (at store).txid < 2 ^ 64
  pub image : IsImage store.image
  pub page_size : IsPageSize store.image.page_size
  pub size_small : store.image.page_size < 2 ^ 32
  pub limit : IsWithinLimit store.image.page_size (length store.image.pages)
  pub sum : (at store).sum ≡ image_sum store.image
  pub width : (at store).sum < 2 ^ 64
  pub flagged : IsFlagged (at store).sum

abbrev pub SnapshotIsSound : Type 0
SnapshotIsSound = (store : StoreState) → IsFullStore store → IsFile (snapshot_of store)
