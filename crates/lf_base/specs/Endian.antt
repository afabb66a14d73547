-- Numbers of two, four and eight bytes: at places of a list of bytes in both byte orders, and as little-endian bytes.
use Rattle.std.specs.Prelude.{ℕ, List, take, drop}
use Rattle.std.specs.Int.{w16, w32, w64, from_be_bytes, from_le_bytes, to_le_bytes}

-- the big-endian number of the two bytes from a place on
unfoldable pub be16_at : ℕ → List ℕ → ℕ
be16_at place bytes = from_be_bytes w16 (take 2 (drop place bytes))

-- of the four bytes
unfoldable pub be32_at : ℕ → List ℕ → ℕ
be32_at place bytes = from_be_bytes w32 (take 4 (drop place bytes))

-- of the eight bytes
unfoldable pub be64_at : ℕ → List ℕ → ℕ
be64_at place bytes = from_be_bytes w64 (take 8 (drop place bytes))

-- the little-endian number of the two bytes from a place on
unfoldable pub le16_at : ℕ → List ℕ → ℕ
le16_at place bytes = from_le_bytes w16 (take 2 (drop place bytes))

-- of the four bytes
unfoldable pub le32_at : ℕ → List ℕ → ℕ
le32_at place bytes = from_le_bytes w32 (take 4 (drop place bytes))

-- of the eight bytes
unfoldable pub le64_at : ℕ → List ℕ → ℕ
le64_at place bytes = from_le_bytes w64 (take 8 (drop place bytes))

-- the two bytes of a number, the lowest first
unfoldable pub le16 : ℕ → List ℕ
le16 n = to_le_bytes w16 n

-- the four bytes
unfoldable pub le32 : ℕ → List ℕ
le32 n = to_le_bytes w32 n

-- the eight bytes
unfoldable pub le64 : ℕ → List ℕ
le64 n = to_le_bytes w64 n
