-- The file that a commit publishes, and the table of page sums after it.
use Rattle.std.specs.Prelude.{◌≡◌, ℕ, ◌+◌, ◌-◌, ◌<◌, ◌≤◌, Bool, true, false, ◌==◌, List, get_or, length, map, slice_index, unwrap_or, Result, Ok, Err, if◌then◌else◌}
use Rattle.std.specs.List.{range_with_len}
use Rattle.std.specs.Option.{option_map}
use Rattle.page_checksum.specs.Sums.{flagged, joined, page_sum_of}
use Rattle.lf_base.specs.declared.pos.Pos.{Pos}
use Rattle.lf_sqlite_pages.specs.LockPage.{lock_page_of, IsWithinLimit}
use Rattle.lf_sqlite_pages.specs.Change.{PageChange, FitsOver, written}
use Rattle.lf_sqlite_pages.specs.Complete.{completed}
use Rattle.lf_sqlite_pages.specs.declared.page_write.PageWrite.{PageWrite}
use Rattle.ltx_codec.specs.Positions.{after}
use Rattle.ltx_codec.specs.declared.file.Ltx.{Ltx}
use Rattle.txn_log.specs.declared.fault.StoreFault.{StoreFault}
use Rattle.txn_log.specs.declared.fault.StoreFault.TheVariants as fault

-- the sum of page n after a change: 0 for the lock page, else that of what the change writes, else the one before
abbrev pub sum_after : List ℕ → PageChange → ℕ → ℕ
sum_after sums change n =
    if n == lock_page_of change.page_size then 0 else unwrap_or (option_map (page_sum_of n) (written change.pages n)) (slice_index sums (n - 1))

-- the sums of all pages after a change
abbrev pub sums_after : List ℕ → PageChange → List ℕ
sums_after sums change = map (sum_after sums change) (range_with_len 1 change.commit)

-- these are the sums of the first of these pages
abbrev pub AreSums : List ℕ → List PageWrite → Type 0
AreSums sums pages = (k : ℕ) (d : PageWrite) → k < length sums → slice_index sums k ≡ page_sum_of (get_or pages k d).number (get_or pages k d).bytes

-- the file of a complete change: the next number, from one position to the one with the sum after the change
abbrev pub file_with : Pos → List ℕ → PageChange → ℕ → ℕ → Ltx
file_with position sums change stamp node = record {
  header = record {
    page_size = change.page_size;
    commit = change.commit;
    min = position.txid + 1;
    max = position.txid + 1;
    stamp = stamp;
    pre = position.sum;
    wal_offset = 0;
    wal_size = 0;
    wal_salt1 = 0;
    wal_salt2 = 0;
    node = node;
  };
  change = change;
  post = flagged (joined (sums_after sums change));
}

-- the file that a commit of this change publishes
abbrev pub drafted : Pos → ℕ → List ℕ → PageChange → ℕ → ℕ → Ltx
drafted position commit sums change stamp node = file_with position sums (completed change commit) stamp node

-- the next number and the size of the database are within the limits
pub record IsWithin (position : Pos) (change : PageChange) : Type 0 where
  pub next : position.txid + 1 ≤ 18446744073709551615
  pub size : IsWithinLimit change.page_size change.commit

-- what a draft of a change answers, of these the first that holds
abbrev pub Drafts : Bool → Pos → ℕ → ℕ → List ℕ → PageChange → ℕ → ℕ → Result Ltx StoreFault → Type 0
Drafts broken position size commit sums change stamp node (Err fault.Broken) = broken ≡ true
Drafts broken position size commit sums change stamp node (Err (fault.PageSize have want)) =
    (broken ≡ false) × (FitsOver size commit change → ⊥) × (have ≡ size) × (want ≡ change.page_size)
Drafts broken position size commit sums change stamp node (Err fault.Limit) = (broken ≡ false) × FitsOver size commit change × (IsWithin position change → ⊥)
Drafts broken position size commit sums change stamp node (Err fault.NoMemory) = (broken ≡ false) × FitsOver size commit change × IsWithin position change
Drafts broken position size commit sums change stamp node (Err why) = ⊥
Drafts broken position size commit sums change stamp node (Ok file) =
    (broken ≡ false) × FitsOver size commit change × IsWithin position change × (file ≡ drafted position commit sums change stamp node)

-- what a commit of a change answers: as its draft, or the disk failed
abbrev pub Commits : Bool → Pos → ℕ → ℕ → List ℕ → PageChange → ℕ → ℕ → Result Pos StoreFault → Type 0
Commits broken position size commit sums change stamp node (Err fault.Disk) = (broken ≡ false) × FitsOver size commit change × IsWithin position change
Commits broken position size commit sums change stamp node (Err why) = Drafts broken position size commit sums change stamp node (Err why)
Commits broken position size commit sums change stamp node (Ok told) =
    (broken ≡ false) × FitsOver size commit change × IsWithin position change × (told ≡ after (drafted position commit sums change stamp node))
