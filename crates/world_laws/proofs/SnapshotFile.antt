-- The snapshot of a store is a file.
use Rattle.std.proofs.Common.{◌≡◌, ℕ, ◌-◌, ◌≤◌, ◌^◌, Some, None, List, [], length, get_or, is_some, refl, sym, ap, ◌∙◌, arith}
use Rattle.lf_sqlite_pages.specs.Image.{DatabaseImage, IsImage}
use Rattle.lf_sqlite_pages.specs.LockPage.{IsDataPage}
use Rattle.lf_sqlite_pages.specs.Change.{HoldsEveryPage}
use Rattle.lf_sqlite_pages.specs.Writes.{data_page_at, writes_of}
use Rattle.lf_sqlite_pages.proofs.Writes.{AscendsAbove-writes_of, All-writes_of}
use Rattle.lf_sqlite_pages.proofs.DataWrites.{data_page_at-lock_page, data_page_at-data}
use Rattle.ltx_codec.specs.Sums.{sum_of_writes}
use Rattle.ltx_codec.specs.Format.{IsFile}
use Rattle.world_laws.specs.Answers.{snapshot_of}
use Rattle.world_laws.specs.SnapshotLaw.{IsFullStore}
use Rattle.world_laws.specs.Store.{StoreState}
use Rattle.world_laws.proofs.Snapshots.{page_there, some_alike, whole_change, written-data}

-- what is written is a data page
is_data : (image : DatabaseImage) (n : ℕ) (bytes : List ℕ) → data_page_at image n ≡ Some bytes → IsDataPage image.page_size n
is_data image n bytes there same =
    let none : data_page_at image n ≡ None = ap (data_page_at image) same ∙ data_page_at-lock_page image in
    let both : Some bytes ≡ None = sym there ∙ none in
    cc

-- and has the page size
is_whole : (image : DatabaseImage) (n : ℕ) (bytes : List ℕ) → IsImage image → 1 ≤ n → n ≤ length image.pages → data_page_at image n ≡ Some bytes → length bytes ≡ image.page_size
is_whole image n bytes valid low high there =
    let page : Some bytes ≡ Some (get_or image.pages (n - 1) bytes) =
    sym there ∙ data_page_at-data image n (is_data image n bytes there) ∙ page_there image n bytes low high in
    ap length (some_alike bytes (get_or image.pages (n - 1) bytes) page) ∙ valid.whole (n - 1) bytes (omega (arith, low, high))

holds-every : (image : DatabaseImage) → HoldsEveryPage (whole_change image)
holds-every image n low high data_page = ap is_some (written-data image n [] low high data_page)

sum-nothing : (image : DatabaseImage) → sum_of_writes (writes_of (data_page_at image) 0) ≡ 2 ^ 63
unfolding writes_of
sum-nothing image = refl

pub snapshot-sound : (store : StoreState) → IsFullStore store → IsFile (snapshot_of store)
unfolding snapshot_of
snapshot-sound store full =
    let image : DatabaseImage = store.image in
    let count : ℕ = length image.pages in
    record {
      header = record {
        widths = record {
          page_size = full.size_small;
          commit = full.image.numbered;
          min = omega arith;
          max = full.txid;
          stamp = omega arith;
          pre = omega arith;
          wal_offset = omega arith;
          wal_size = omega arith;
          wal_salt1 = omega arith;
          wal_salt2 = omega arith;
          node = omega arith;
        };
        page_size = full.page_size;
        commit = full.limit;
        min = omega arith;
        max = full.some;
        snapshot_pre = λ first. refl;
        delta_pre = λ other. absurd (other refl);
      };
      block = record {
        page_size = refl;
        commit = refl;
        pages = record {
          of_a_page_size = full.page_size;
          ascending = AscendsAbove-writes_of (data_page_at image) count;
          within = All-writes_of (λ w. w.number ≤ count) (data_page_at image) count (λ n bytes low high there. high);
          data_pages = All-writes_of (λ w. IsDataPage image.page_size w.number) (data_page_at image) count (λ n bytes low high there. is_data image n bytes there);
          whole = All-writes_of (λ w. length w.bytes ≡ image.page_size) (data_page_at image) count (λ n bytes low high there. is_whole image n bytes full.image low high there);
        };
        snapshot_pages = λ first. holds-every image;
      };
      post = record {
        width = full.width;
        flagged = full.flagged;
        empty = λ none. full.sum ∙ ap (λ (n : ℕ). sum_of_writes (writes_of (data_page_at image) n)) none ∙ sum-nothing image;
        snapshot = λ first. full.sum;
      };
    }
