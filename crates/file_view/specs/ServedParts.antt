-- The served files that the parts of a view stand for.
use Rattle.std.specs.Prelude.{◌≡◌, Some, length}
use Rattle.lf_sqlite_pages.specs.Blocks.{IsWithin}
use Rattle.file_view.specs.DatabaseState.{HeldWrite}
use Rattle.file_view.specs.Served.{Served}
use Rattle.file_view.specs.Sound.{IsSound}
use Rattle.file_view.specs.declared.view.View.TheInside.{Inside}

abbrev pub served_of : Inside → Served
served_of v = record {
  name = v.name;
  database = v.database.file;
  journal = v.journal;
  log = v.log.contents;
  held_write = v.database.held;
  shared = v.shared;
  locks = v.locks;
  handles = v.handles;
  writer = v.writer;
  torn = v.torn;
  position = v.position;
  host = v.host;
}

-- what is always true of them, and there is room in the log for a write that waits
pub record IsKept (v : Inside) : Type 0 where
  pub sound : IsSound (served_of v)
  pub room : (w : HeldWrite) → v.database.held ≡ Some w → IsWithin v.log.room w.at (length w.bytes)
