-- The checksums of a write-ahead log (SQLite file format, section 4.2).
use Rattle.std.specs.Prelude.{ℕ, suc, zero, ◌+◌, ◌*◌, ◌%◌, ◌^◌, Bool, ◌&&◌, ◌==◌, List, if◌then◌else◌}
use Rattle.lf_base.specs.Endian.{be32_at, le32_at}
use Rattle.wal_watch.specs.declared.sums.Sums.{Sums}

-- the word of the four bytes from a place on, in either byte order
unfoldable pub word_at : Bool → ℕ → List ℕ → ℕ
word_at little place contents = if little then le32_at place contents else be32_at place contents

-- the sums with one more pair of words: s0 += a + s1, then s1 += b + s0, modulo 2^32
abbrev pub first_after : Sums → ℕ → ℕ
first_after s a = (s.first + a + s.second) % 2 ^ 32

unfoldable pub with_pair : Sums → ℕ → ℕ → Sums
with_pair s a b = record { first = first_after s a; second = (s.second + b + first_after s a) % 2 ^ 32 }

-- the sums with n more pairs of words, which stand from a place on
unfoldable pub with_pairs : Bool → Sums → ℕ → List ℕ → ℕ → Sums
with_pairs little s place contents zero = s
with_pairs little s place contents (suc n) =
    with_pair (with_pairs little s place contents n) (word_at little (place + 8 * n) contents) (word_at little (place + 8 * n + 4) contents)

-- the sums that everything starts from
abbrev pub no_sums : Sums
no_sums = record { first = 0; second = 0 }

-- whether the eight bytes from a place on, big-endian, are these sums
unfoldable pub stand_at : Sums → ℕ → List ℕ → Bool
stand_at s place contents = (s.first == be32_at place contents) && (s.second == be32_at (place + 4) contents)
