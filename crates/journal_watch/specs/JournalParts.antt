-- What the parts of a journal keep between its calls.
use Rattle.std.specs.Prelude.{◌≡◌, false, Some, None, [], if◌then◌else◌}
use Rattle.journal_watch.specs.Journal.{Journal}
use Rattle.journal_watch.specs.declared.file.JournalFile.TheInside.{Inside}

-- the journal that the parts stand for
abbrev pub journal_of : Inside → Journal
journal_of j = record { file = if j.exists then Some j.blocks.bytes else None; room = j.blocks.room }

-- an absent file has no bytes
pub record IsKept (j : Inside) : Type 0 where
  pub absent : j.exists ≡ false → j.blocks.bytes ≡ []
