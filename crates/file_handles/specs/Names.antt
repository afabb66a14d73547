-- The names of the served files of a database.
use Rattle.std.specs.Prelude.{ℕ, Bool, Option, List, [], ◌∷◌, ◌++◌, codes, find}
use Rattle.std.specs.Str.{bytes_eq}
use Rattle.byte_locks.specs.declared.lock_bytes.FileKind.{FileKind}
use Rattle.byte_locks.specs.declared.lock_bytes.FileKind.TheVariants.{Database, Journal, Wal, Shm, PosFile, LockFile, Primary}

-- every file
unfoldable pub every_file : List FileKind
every_file = Database ∷ Journal ∷ Wal ∷ Shm ∷ PosFile ∷ LockFile ∷ Primary ∷ []

-- the name of a file of a database
abbrev pub name_of : List ℕ → FileKind → List ℕ
name_of database Database = database
name_of database Journal = database ++ codes "-journal"
name_of database Wal = database ++ codes "-wal"
name_of database Shm = database ++ codes "-shm"
name_of database PosFile = database ++ codes "-pos"
name_of database LockFile = database ++ codes "-lock"
name_of database Primary = codes ".primary"

-- whether a name is that of a file of a database
abbrev pub is_named : List ℕ → List ℕ → FileKind → Bool
is_named database name file = bytes_eq name (name_of database file)

-- the file that a name is the name of
abbrev pub file_named : List ℕ → List ℕ → Option FileKind
file_named database name = find (is_named database name) every_file
