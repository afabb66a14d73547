-- The file that bytes are, as a function.
use Rattle.std.specs.Prelude.{ℕ, ◌+◌, ◌-◌, ◌/◌, List, length}
use Rattle.lf_sqlite_pages.specs.Change.{PageChange}
use Rattle.ltx_codec.specs.Fields.{stated_page_size, stated_commit, header_in}
use Rattle.ltx_codec.specs.Places.{writes_in}
use Rattle.ltx_codec.specs.declared.file.Ltx.{Ltx}
use Rattle.lf_base.specs.Endian.{be64_at}

-- a file of n pages has 120 bytes and n times four and a page
abbrev pub page_count_in : List ℕ → ℕ
page_count_in bytes = (length bytes - 120) / (4 + stated_page_size bytes)

-- the change of the first k pages of the block
abbrev pub change_in : List ℕ → ℕ → PageChange
change_in bytes k = record { page_size = stated_page_size bytes; commit = stated_commit bytes; pages = writes_in bytes k }

abbrev pub file_in : List ℕ → Ltx
file_in bytes = record {
  header = header_in bytes;
  change = change_in bytes (page_count_in bytes);
  post = be64_at (length bytes - 16) bytes;
}
