-- What the first page of a database says of itself (SQLite file format, section 1.3).
use Rattle.std.specs.Prelude.{ℕ, Bool, ◌&&◌, Option, Some, None, List, [], length, nat_lt, nat_le, ◌==◌, if◌then◌else◌, slice_index, unwrap_or}
use Rattle.lf_base.specs.Endian.{be16_at, be32_at}
use Rattle.lf_sqlite_pages.specs.PageSize.{is_page_size}
use Rattle.lf_sqlite_pages.specs.Image.{DatabaseImage, page_at}

-- the big-endian number in bytes 16 and 17, where 1 stands for 65,536
abbrev pub stated_page_size : List ℕ → ℕ
stated_page_size bytes = if be16_at 16 bytes == 1 then 65536 else be16_at 16 bytes

-- the page size that a first page states, if it states one
abbrev pub page_size_of : List ℕ → Option ℕ
page_size_of bytes =
    if nat_le 18 (length bytes) && is_page_size (stated_page_size bytes) then Some (stated_page_size bytes) else None

-- whether a first page says that its database is in WAL mode: its byte 18 is 2
abbrev pub is_wal : List ℕ → Bool
is_wal bytes = nat_lt 18 (length bytes) && (slice_index bytes 18 == 2)

-- whether an image is in WAL mode: it has a first page that says so
abbrev pub image_is_wal : DatabaseImage → Bool
image_is_wal image = is_wal (unwrap_or (page_at image 1) [])

-- whether a first page's number of pages is of its latest change: the change counter in bytes 24 to 27 is the version in
-- bytes 92 to 95 that the number is valid for (section 1.3.8)
abbrev pub states_pages : List ℕ → Bool
states_pages bytes = nat_le 96 (length bytes) && (be32_at 24 bytes == be32_at 92 bytes)

-- the header's size of a database of a count of pages: the number in bytes 28 to 31 of its first page, where that is of
-- the latest change and from 1 to the count; else the count
abbrev pub header_pages : List ℕ → ℕ → ℕ
header_pages bytes count =
    if states_pages bytes && (nat_le 1 (be32_at 28 bytes) && nat_le (be32_at 28 bytes) count) then be32_at 28 bytes else count

-- the header's size of an image
abbrev pub image_header_pages : DatabaseImage → ℕ
image_header_pages image = header_pages (unwrap_or (page_at image 1) []) (length image.pages)
