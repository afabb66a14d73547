-- The names of databases: 1 to 64 bytes, of ASCII letters, digits, '.', '_' and '-', the first a letter or digit,
-- and no ending that names a file beside a database.
use Rattle.std.specs.Prelude.{ℕ, ◌<◌, ◌≤◌, Bool, ◌||◌, ◌==◌, nat_eq, List, [], ◌∷◌, length, slice_index, IsTrue, IsFalse, codes}
use Rattle.std.specs.List.{ends_with, list_any}
use Rattle.std.specs.Char.{is_ascii_alphanumeric}
use Rattle.lf_base.specs.declared.name.NameFault.{NameFault}
use Rattle.lf_base.specs.declared.name.NameFault.TheVariants as fault

-- a byte that may stand in a name
abbrev pub is_name_byte : ℕ → Bool
is_name_byte b = is_ascii_alphanumeric b || (b == 46) || (b == 95) || (b == 45)

-- the endings of the files that stand beside a database
abbrev pub endings : List (List ℕ)
endings = codes "-journal" ∷ codes "-wal" ∷ codes "-shm" ∷ codes "-pos" ∷ codes "-lock" ∷ []

-- the bytes end as such a file's name
unfoldable pub has_ending : List ℕ → Bool
has_ending bytes = list_any (ends_with nat_eq bytes) endings

-- the length of a name
abbrev pub HasNameLength : List ℕ → Type 0
HasNameLength bytes = (0 < length bytes) × (length bytes ≤ 64)

-- the first byte of a name
abbrev pub BeginsAsName : List ℕ → Type 0
BeginsAsName bytes = IsTrue (is_ascii_alphanumeric (slice_index bytes 0))

-- the first n bytes may stand in a name
abbrev pub HasNameBytes : List ℕ → ℕ → Type 0
HasNameBytes bytes n = (k : ℕ) → k < n → IsTrue (is_name_byte (slice_index bytes k))

-- bytes that are a name
pub record IsName (bytes : List ℕ) : Type 0 where
  pub fits : HasNameLength bytes
  pub begins : BeginsAsName bytes
  pub allowed : HasNameBytes bytes (length bytes)
  pub free : IsFalse (has_ending bytes)

-- why bytes are no name: the first of the rules that they break
abbrev pub BreaksName : List ℕ → NameFault → Type 0
BreaksName bytes fault.Length = HasNameLength bytes → ⊥
BreaksName bytes fault.First = HasNameLength bytes × (BeginsAsName bytes → ⊥)
BreaksName bytes (fault.Byte at) = HasNameLength bytes × BeginsAsName bytes × HasNameBytes bytes at × (at < length bytes) × IsFalse (is_name_byte (slice_index bytes at))
BreaksName bytes fault.Suffix = HasNameLength bytes × BeginsAsName bytes × HasNameBytes bytes (length bytes) × IsTrue (has_ending bytes)
BreaksName bytes fault.NoMemory = Unit {0}
