-- The index of a log that has no frames, which the `-shm` file begins with (SQLite, WAL-index format, sections 2.1 and 2.2).
-- SQLite writes it in the byte order of the machine, which is little-endian here.
use Rattle.std.specs.Prelude.{ℕ, ◌+◌, ◌%◌, ◌^◌, Bool, true, ◌==◌, ◌&&◌, max, Some, List, [], ◌∷◌, ◌++◌, take, drop, replicate, if◌then◌else◌}
use Rattle.std.specs.Str.{bytes_eq}
use Rattle.lf_base.specs.Endian.{le32_at, le16, le32}
use Rattle.lf_base.specs.FileBytes.{written}
use Rattle.wal_watch.specs.Sums.{no_sums, with_pairs}
use Rattle.shm_index.specs.Shared.{Shared, bytes_of, with_bytes, has_index}

-- a page size in two bytes: 65,536 is 1
abbrev pub stated_size : ℕ → ℕ
stated_size page_size = if page_size == 65536 then 1 else page_size

-- the fields of the header: version 3007000, unused 0, the change number, 1 for a header that is set, 0 for sums in little-endian
-- words, the page size, no frames, the number of pages, and no sums and salts of a frame
abbrev pub index_fields : ℕ → ℕ → ℕ → List ℕ
index_fields page_size commit change =
    0x18 ∷ 0xe2 ∷ 0x2d ∷ 0 ∷ 0 ∷ 0 ∷ 0 ∷ 0 ∷ le32 change ++ 1 ∷ 0 ∷ le16 (stated_size page_size) ++ 0 ∷ 0 ∷ 0 ∷ 0 ∷ le32 commit
    ++ 0 ∷ 0 ∷ 0 ∷ 0 ∷ 0 ∷ 0 ∷ 0 ∷ 0 ∷ 0 ∷ 0 ∷ 0 ∷ 0 ∷ 0 ∷ 0 ∷ 0 ∷ 0 ∷ []

-- their sums, those of a log in little-endian words
abbrev pub index_sums : List ℕ → List ℕ
index_sums fields = le32 (with_pairs true no_sums 0 fields 5).first ++ le32 (with_pairs true no_sums 0 fields 5).second

-- behind the two headers: no frame was copied back, and of the marks of five readers the first is 0 and the others are unused
abbrev pub index_rest : List ℕ
index_rest = 0 ∷ 0 ∷ 0 ∷ 0 ∷ 0 ∷ 0 ∷ 0 ∷ 0 ∷ 255 ∷ 255 ∷ 255 ∷ 255 ∷ 255 ∷ 255 ∷ 255 ∷ 255 ∷ 255 ∷ 255 ∷ 255 ∷ 255 ∷ 255 ∷ 255 ∷ 255 ∷ 255 ∷ []

-- the bytes of a file with a header of these fields at 0 and again at 48, and what stands behind the two
unfoldable pub with_fields : List ℕ → List ℕ → List ℕ
with_fields fields bytes =
    written 96 index_rest (written 88 (index_sums fields) (written 48 fields (written 40 (index_sums fields) (written 0 fields bytes))))

-- the change number that follows that of the file's header, or the one that was given last where that is greater
abbrev pub next_change : Shared → ℕ
next_change shared = (max (le32_at 8 (bytes_of shared)) shared.last_change + 1) % 2 ^ 32

-- the file once its index is that of a log without frames, over a database of this page size and number of pages; a file
-- without an index stays
abbrev pub with_index : ℕ → ℕ → Shared → Shared
with_index page_size commit shared =
    if has_index shared
    then record { file = Some (with_fields (index_fields page_size commit (next_change shared)) (bytes_of shared)); last_change = next_change shared }
    else shared

-- the file once its two headers are zeros, so that SQLite makes the index anew from the log; a file without an index stays
abbrev pub without_header : Shared → Shared
without_header shared = if has_index shared then with_bytes shared (written 0 (replicate 96 0) (bytes_of shared)) else shared

-- whether the index is of so many frames of a log with these salts, or there is none
abbrev pub names_log : Shared → ℕ → List ℕ → Bool
names_log shared frames salts =
    (le32_at 16 (bytes_of shared) == frames) && bytes_eq (take 8 (drop 32 (bytes_of shared))) salts
