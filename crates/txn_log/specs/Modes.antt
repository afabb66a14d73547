-- Whether a database is in WAL mode after a change.
use Rattle.std.specs.Prelude.{Bool, false, ◌==◌, unwrap_or, if◌then◌else◌}
use Rattle.std.specs.Option.{option_map}
use Rattle.lf_sqlite_pages.specs.Change.{PageChange, written}
use Rattle.lf_sqlite_pages.specs.Header.{is_wal}

-- without pages it is not; else its first page says so, where the change writes that
abbrev pub wal_after : Bool → PageChange → Bool
wal_after wal change = if change.commit == 0 then false else unwrap_or (option_map is_wal (written change.pages 1)) wal
