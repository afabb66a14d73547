-- A node, and how the cluster sees it.
use Rattle.std.specs.Prelude.{ℕ, ◌+◌, ◌-◌, ◌==◌, max, List, ◌++◌, length, Option, Some, None, if◌then◌else◌}
use Rattle.std.specs.FinMap as pages
use Rattle.std.specs.List.{range_with_len}
use Rattle.std.specs.Option.{option_map}
use Rattle.byte_locks.specs.declared.owner.Owner.{Owner}
use Rattle.lf_base.specs.declared.errno.Errno.{Errno}
use Rattle.lf_disk.specs.declared.disk.Disk.{Ghosts}
use Rattle.lf_disk.specs.History.{History}
use Rattle.lf_sqlite_pages.specs.Change.{PageChange}
use Rattle.lf_sqlite_pages.specs.Image.{DatabaseImage}
use Rattle.database_file.specs.DatabaseFile.{DatabaseFile, as_read, count_over, size_of}
use Rattle.wal_watch.specs.Frames.{committed_count}
use Rattle.wal_watch.specs.News.{change_of}
use Rattle.file_view.specs.declared.view.Role.{Role}
use Rattle.file_view.specs.Served.{Served, log_contents}
use Rattle.txn_log.specs.declared.store.Store.{Store}
use Rattle.world_laws.specs.Node.{NodeState}
use Rattle.world_laws.specs.Served as laws
use Rattle.node_core.specs.declared.config.NodeConfig.{NodeConfig}
use Rattle.node_core.specs.declared.held_back.HeldBack.{HeldBack}
use Rattle.node_core.specs.declared.node.Node.{Node}
use Rattle.node_core.specs.declared.sent.Sent.{Sent}
use Rattle.node_core.specs.declared.standing.Standing.{Standing}
use Rattle.node_core.specs.Roles.{files_at, in_force, law_role, role_of}
use Rattle.node_core.specs.Stores.{StoreFields, failed, fields_of, history_of, said_of, state}
use Rattle.node_core.specs.Waiting.{file_sent}

-- a node at one moment: the served files, with the position and the primary's host as they were given; its store; what it was
-- given of itself; what it believes of its lease, with the greatest moment that it was given; since when frames are held back; and the
-- commit that waits for the primary's reply
pub record NodeParts : Type 0 where
  pub files : Served
  pub store : StoreFields
  pub config : NodeConfig
  pub standing : Standing
  pub held : Option HeldBack
  pub sent : Option Sent

-- what it is in its cluster at that moment
abbrev pub role_in : NodeParts → Role
role_in n = role_of n.standing

-- the node once it stands so, with the permit that it got only while that is in force. Where it is a replica then, its uncommitted
-- pages go
abbrev pub stands : Standing → NodeParts → NodeParts
stands standing n = record n { files = files_at (role_of standing) n.files; standing = in_force standing }

-- the node at the moment of an ask: the greatest that it was given. What has expired then has ended
abbrev pub at_moment : NodeParts → ℕ → NodeParts
at_moment n now = stands (record n.standing { moment = max n.standing.moment now }) n

module _ {D : Type 0} {G : Ghosts D} where
  abbrev pub parts_of : Node D G → NodeParts
  parts_of n = record { files = n.view; store = fields_of n.store; config = n.config; standing = n.standing; held = n.held; sent = n.sent }

  abbrev pub store_of : Node D G → Store D G
  store_of n = n.store

  -- the history of its disk
  abbrev pub history : Node D G → History
  history n = history_of n.store

  abbrev pub said_to : Node D G → Option Errno
  said_to n = said_of n.store

-- the newest committed frame of each page of a log, and the size of its last commit; none where nothing is committed
abbrev pub frames_of : List ℕ → Option PageChange
frames_of contents = if committed_count contents == 0 then None else Some (change_of contents 0 (committed_count contents))

-- the database file as it reads over the committed image. Without pages its page size is the image's
abbrev pub file_over : DatabaseFile → DatabaseImage → DatabaseImage
file_over file image = record {
  page_size = if count_over file (length image.pages) == 0 then image.page_size else size_of file image;
  pages = (as_read file image).pages;
}

-- the numbers of the pages that a writer may have changed: those that are kept, and those past the committed image
abbrev pub written_by : DatabaseFile → DatabaseImage → List ℕ
written_by file image = pages.keys file.kept ++ range_with_len (length image.pages + 1) (count_over file (length image.pages) - length image.pages)

-- the owner of uncommitted pages, with their numbers
abbrev pub writer_in : DatabaseFile → DatabaseImage → Owner → laws.Writer
writer_in file image owner = record { owner = owner; pages = written_by file image }

-- the served files as the cluster sees them
abbrev pub served_over : Served → DatabaseImage → laws.Served
served_over s image = record {
  file = file_over s.database image;
  frames = frames_of (log_contents s);
  locks = s.locks;
  writer = option_map (writer_in s.database image) s.writer;
}

-- THE NODE AS THE CLUSTER SEES IT
abbrev pub seen : History → NodeParts → NodeState
seen h n = record {
  store = state h n.store;
  failed = failed h n.store;
  faults = n.store.faults;
  role = law_role (role_in n);
  waits = file_sent n.sent;
  served = served_over n.files (state h n.store).image;
}
