-- The served files before any request.
use Rattle.std.specs.Prelude.{ℕ, List, [], None}
use Rattle.database_file.specs.DatabaseFile.{new_file}
use Rattle.shm_index.specs.Shared.{no_shared}
use Rattle.file_view.specs.Served.{Served}

-- a view of a database of this name, before any request
abbrev pub new_view : List ℕ → Served
new_view name = record {
  name = name;
  database = new_file;
  journal = record { file = None; waiting = None };
  log = None;
  held_write = None;
  shared = no_shared;
  locks = [];
  handles = [];
  writer = None;
  torn = None;
  position = record { txid = 0; sum = 0 };
  host = None;
}
