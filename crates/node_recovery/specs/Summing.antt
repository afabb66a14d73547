-- What is known of the pages that a change leaves over a database file, before they are written.
use Rattle.std.specs.Prelude.{◌≡◌, ℕ, ◌-◌, ◌*◌, ◌<◌, ◌≤◌, ◌==◌, Bool, false, List, length, map, drop, slice_index, unwrap_or, if◌then◌else◌}
use Rattle.std.specs.List.{range_with_len}
use Rattle.std.specs.Option.{option_map}
use Rattle.lf_base.specs.FileBytes.{resized}
use Rattle.page_checksum.specs.Sums.{page_sum_of}
use Rattle.lf_sqlite_pages.specs.LockPage.{lock_page_of}
use Rattle.lf_sqlite_pages.specs.Header.{is_wal}
use Rattle.lf_sqlite_pages.specs.Image.{DatabaseImage}
use Rattle.lf_sqlite_pages.specs.Change.{PageChange, written}
use Rattle.txn_log.specs.Pages.{page_in, patched}
use Rattle.node_recovery.specs.declared.part.Part.{Part}
use Rattle.node_recovery.specs.declared.part.Part.TheVariants as part
use Rattle.node_recovery.specs.declared.tally.Tally.{Tally}

-- page n of a file, with zeros where the file ends
abbrev pub padded : ℕ → ℕ → List ℕ → List ℕ
padded size n bytes = resized size (drop ((n - 1) * size) bytes)

-- page n of what is left: what the change writes, else what the file has
abbrev pub page_left : PageChange → List ℕ → ℕ → List ℕ
page_left change bytes n = unwrap_or (written change.pages n) (padded change.page_size n bytes)

-- its sum: 0 for the lock page
abbrev pub sum_left : PageChange → List ℕ → ℕ → ℕ
sum_left change bytes n = if n == lock_page_of change.page_size then 0 else page_sum_of n (page_left change bytes n)

abbrev pub sums_left : PageChange → List ℕ → List ℕ
sums_left change bytes = map (sum_left change bytes) (range_with_len 1 change.commit)

-- whether page 1 of what is left says that the database is in WAL mode; without pages it is not
abbrev pub mode_left : PageChange → List ℕ → Bool
mode_left change bytes = if change.commit == 0 then false else is_wal (page_left change bytes 1)

-- the sum of page n where the change writes it, else 0
abbrev pub sum_written : PageChange → ℕ → ℕ
sum_written change n = unwrap_or (option_map (page_sum_of n) (written change.pages n)) 0

-- whether page 1 says WAL mode where the change writes it
abbrev pub mode_written : PageChange → Bool
mode_written change = unwrap_or (option_map is_wal (written change.pages 1)) false

-- the sums of the pages that a change writes, 0 for the others, and what page 1 says where it is among them
pub record IsTallied (change : PageChange) (tally : Tally) : Type 0 where
  pub count : length tally.sums.sums ≡ change.commit
  pub sums : (n : ℕ) → 1 ≤ n → n ≤ change.commit → slice_index tally.sums.sums (n - 1) ≡ sum_written change n
  pub wal : tally.wal ≡ mode_written change

-- what came fits a tally: a page has a number in it
abbrev pub FitsIn : Part → Tally → Type 0
FitsIn (part.Page number) tally = (1 ≤ number) × (number ≤ length tally.sums.sums)
FitsIn part.Header tally = Unit {0}
FitsIn part.More tally = Unit {0}

-- of the first pages it is known what is left, of the others what the change writes
pub record AreKnown (change : PageChange) (bytes : List ℕ) (page : ℕ) (tally : Tally) : Type 0 where
  pub count : length tally.sums.sums ≡ change.commit
  pub done : (n : ℕ) → 1 ≤ n → n ≤ page → slice_index tally.sums.sums (n - 1) ≡ sum_left change bytes n
  pub rest : (n : ℕ) → page < n → n ≤ change.commit → slice_index tally.sums.sums (n - 1) ≡ sum_written change n
  pub wal : tally.wal ≡ (if page == 0 then mode_written change else is_wal (page_left change bytes 1))

-- it is known what is left
pub record KnowsPages (change : PageChange) (bytes : List ℕ) (tally : Tally) : Type 0 where
  pub sums : tally.sums.sums ≡ sums_left change bytes
  pub wal : tally.wal ≡ mode_left change bytes

-- the file with the change written over it, and its image
abbrev pub restored : PageChange → List ℕ → List ℕ
restored change bytes = resized (change.commit * change.page_size) (patched change.page_size bytes change.pages)

abbrev pub restored_image : PageChange → List ℕ → DatabaseImage
restored_image change bytes = record { page_size = change.page_size; pages = map (page_in change.page_size (restored change bytes)) (range_with_len 1 change.commit) }
