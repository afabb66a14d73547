-- The database file, and a write to the log that waits for its commit.
use Rattle.std.specs.Prelude.{ℕ, Option, List, []}
use Rattle.database_file.specs.DatabaseFile.{DatabaseFile, clean}

-- a write to the log that waits: where it goes, what it writes, and the database file once it is done, over the image that its
-- commit leads to
pub record HeldWrite : Type 0 where
  pub at : ℕ
  pub bytes : List ℕ
  pub file : DatabaseFile

-- the file, and the write that waits, if one does
pub record DatabaseState : Type 0 where
  pub file : DatabaseFile
  pub held : Option HeldWrite

-- a write that waits is overtaken by another image: it writes nothing any more, and leaves the file as that image
abbrev pub overtaken : DatabaseFile → HeldWrite → HeldWrite
overtaken file w = record { at = w.at; bytes = []; file = clean file }
