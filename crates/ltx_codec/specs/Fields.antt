-- What the fields of a file's header say. All numbers are big-endian.
use Rattle.std.specs.Prelude.{ℕ, ◌<◌, List, get_or}
use Rattle.lf_base.specs.Endian.{be32_at, be64_at}
use Rattle.ltx_codec.specs.declared.header.Header.{Header}

-- every number of the list is a byte
abbrev pub AreBytes : List ℕ → Type 0
AreBytes bytes = (i : ℕ) → get_or bytes i 0 < 256

-- the fields that the rules of the format speak of, each at its place
abbrev pub stated_flags : List ℕ → ℕ
stated_flags bytes = be32_at 4 bytes

abbrev pub stated_page_size : List ℕ → ℕ
stated_page_size bytes = be32_at 8 bytes

abbrev pub stated_commit : List ℕ → ℕ
stated_commit bytes = be32_at 12 bytes

abbrev pub stated_min : List ℕ → ℕ
stated_min bytes = be64_at 16 bytes

abbrev pub stated_max : List ℕ → ℕ
stated_max bytes = be64_at 24 bytes

abbrev pub stated_pre : List ℕ → ℕ
stated_pre bytes = be64_at 40 bytes

-- what the fields of the header say, each at its place
abbrev pub header_in : List ℕ → Header
header_in bytes = record {
  page_size = stated_page_size bytes;
  commit = stated_commit bytes;
  min = stated_min bytes;
  max = stated_max bytes;
  stamp = be64_at 32 bytes;
  pre = stated_pre bytes;
  wal_offset = be64_at 48 bytes;
  wal_size = be64_at 56 bytes;
  wal_salt1 = be32_at 64 bytes;
  wal_salt2 = be32_at 68 bytes;
  node = be64_at 72 bytes;
}
