-- The header and the frames of a write-ahead log, and which frames are committed (SQLite file format, section 4.1).
-- Every definition is over the whole contents of the file; frames are counted from 0.
use Rattle.std.specs.Prelude.{ℕ, suc, zero, ◌+◌, ◌*◌, ◌/◌, Bool, ◌&&◌, ◌||◌, ◌==◌, not, nat_le, List, length, take, drop, if◌then◌else◌}
use Rattle.lf_sqlite_pages.specs.PageSize.{is_page_size}
use Rattle.lf_base.specs.Endian.{be32_at}
use Rattle.wal_watch.specs.Sums.{with_pairs, no_sums, stand_at}
use Rattle.wal_watch.specs.declared.sums.Sums.{Sums}

-- the first magic number says that the words of the sums are little-endian, the second that they are big-endian
abbrev pub is_little : List ℕ → Bool
is_little contents = be32_at 0 contents == 0x377f0682

abbrev pub is_big : List ℕ → Bool
is_big contents = be32_at 0 contents == 0x377f0683

-- the page size that the header states
abbrev pub page_size_in : List ℕ → ℕ
page_size_in contents = be32_at 8 contents

-- the sums of the first 24 bytes
unfoldable pub header_sums : List ℕ → Sums
header_sums contents = with_pairs (is_little contents) no_sums 0 contents 3

-- the contents begins with a valid header: a magic number, version 3007000, a page size and the right sums
unfoldable pub is_header : List ℕ → Bool
is_header contents =
    nat_le 32 (length contents) && ((is_little contents || is_big contents) && ((be32_at 4 contents == 3007000)
    && (is_page_size (page_size_in contents) && stand_at (header_sums contents) 24 contents)))

-- where frame k begins: 24 bytes and a page each, behind the 32 bytes of the header
abbrev pub frame_place : List ℕ → ℕ → ℕ
frame_place contents k = 32 + k * (24 + page_size_in contents)

-- frame k: its page number, the database size in pages after a commit or 0, and its page
abbrev pub number_in : List ℕ → ℕ → ℕ
number_in contents k = be32_at (frame_place contents k) contents

abbrev pub size_in : List ℕ → ℕ → ℕ
size_in contents k = be32_at (frame_place contents k + 4) contents

abbrev pub page_in : List ℕ → ℕ → List ℕ
page_in contents k = take (page_size_in contents) (drop (frame_place contents k + 24) contents)

-- the sums of the frame at a place: on from sums over its first 8 bytes and its page
unfoldable pub frame_sums : List ℕ → ℕ → Sums → Sums
frame_sums contents place s =
    with_pairs (is_little contents) (with_pairs (is_little contents) s place contents 1) (place + 24) contents (page_size_in contents / 8)

-- the chain of sums, up to frame k
unfoldable pub sums_after : List ℕ → ℕ → Sums
sums_after contents zero = header_sums contents
sums_after contents (suc k) = frame_sums contents (frame_place contents k) (sums_after contents k)

-- the head of the frame at a place: a page number that isn't 0, and the salts of the header
unfoldable pub is_head : List ℕ → ℕ → Bool
is_head contents place =
    not (be32_at place contents == 0) && ((be32_at (place + 8) contents == be32_at 16 contents) && (be32_at (place + 12) contents == be32_at 20 contents))

-- the frame at a place is whole, has a right head, and its sums continue the chain from the sums before it
unfoldable pub is_frame_at : List ℕ → ℕ → Sums → Bool
is_frame_at contents place s =
    nat_le (place + (24 + page_size_in contents)) (length contents)
    && (is_head contents place && stand_at (frame_sums contents place s) (place + 16) contents)

-- frame k is valid, if all before it are
abbrev pub is_frame : List ℕ → ℕ → Bool
is_frame contents k = is_frame_at contents (frame_place contents k) (sums_after contents k)

-- the header and the first n frames are valid
unfoldable pub are_valid : List ℕ → ℕ → Bool
are_valid contents zero = is_header contents
are_valid contents (suc k) = are_valid contents k && is_frame contents k

-- frame k ends a transaction, and it and all before it are valid
unfoldable pub is_commit : List ℕ → ℕ → Bool
is_commit contents k = are_valid contents (k + 1) && not (size_in contents k == 0)

-- of the first n frames, those up to the last commit
unfoldable pub commits_among : List ℕ → ℕ → ℕ
commits_among contents zero = 0
commits_among contents (suc k) = if is_commit contents k then k + 1 else commits_among contents k

-- how many frames are committed; the contents of a log has fewer frames than bytes
unfoldable pub committed_count : List ℕ → ℕ
committed_count contents = commits_among contents (length contents)

-- the byte after the committed frames, 0 where there are none
abbrev pub committed_end : List ℕ → ℕ
committed_end contents = if committed_count contents == 0 then 0 else frame_place contents (committed_count contents)
