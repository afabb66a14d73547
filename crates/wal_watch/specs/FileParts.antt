-- What the parts of a file keep between its calls.
use Rattle.std.specs.Prelude.{◌≡◌, ◌≤◌, false, Some, None, [], List, ℕ, if◌then◌else◌}
use Rattle.wal_watch.specs.File.{Wal}
use Rattle.wal_watch.specs.Frames.{committed_count}
use Rattle.wal_watch.specs.Indexing.{indexed, IsIndex, AreShared}
use Rattle.wal_watch.specs.Scanning.{IsMarked}
use Rattle.wal_watch.specs.declared.file.WalFile.TheInside.{Inside}

-- the file that the parts stand for
abbrev pub wal_of : Inside → Wal
wal_of f = record {
  contents = if f.present then Some f.contents.bytes else None;
  before = f.contents.before;
  room = f.contents.room;
}

-- an absent file has no bytes and nothing to undo; the marks are those of the contents, and the kept ones those of the contents before;
-- the index is that of the contents, of no more than its committed frames, and some of these are shared with the contents before
pub record IsKept (f : Inside) : Type 0 where
  pub absent : f.present ≡ false → f.contents.bytes ≡ []
  pub gone : f.present ≡ false → f.contents.before ≡ None
  pub marks : IsMarked f.contents.bytes f.marks
  pub saved : (old : List ℕ) → f.contents.before ≡ Some old → IsMarked old f.saved
  pub index : IsIndex f.contents.bytes f.index
  pub few : indexed f.index ≤ committed_count f.contents.bytes
  pub shared : (old : List ℕ) → f.contents.before ≡ Some old → AreShared old f.contents.bytes f.shared
