-- GET /events: the lines that a reader is told, as JSON (RFC 8259), and what was told then.
use Rattle.std.specs.Prelude.{ℕ, List, [], ◌∷◌, ◌++◌, Bool, true, false, not, ◌&&◌, nat_eq, codes, Option, Some, None, if◌then◌else◌, bytes_eq, length, ◌-◌, slice_get, option_map, unwrap_or}
use Rattle.lf_base.specs.declared.pos.Pos.{Pos}
use Rattle.node_core.specs.declared.info.NodeInfo.{NodeInfo}
use Rattle.serde_json.specs.Data.{Data, string, boolean, object, Members, no_members, member}
use Rattle.txn_log.specs.declared.entry.Entry.{Entry}
use Rattle.stream_primary.specs.declared.viewed.Viewed.{Viewed}
use Rattle.stream_primary.specs.JsonLine.{count, digits, json_line}
use Rattle.stream_primary.specs.MetricsText.{is_primary}

-- ---- who is the primary

-- the primary's host; empty where none is known
abbrev pub host_text : Option (List ℕ) → List ℕ
host_text (Some host) = host
host_text None = []

-- that of another node: the primary names none
abbrev pub told_host : Bool → Option (List ℕ) → List ℕ
told_host true host = []
told_host false host = host_text host

abbrev pub role_data : List ℕ → Bool → Option (List ℕ) → Data
role_data kind primary host =
    object (member (codes "data")
    (object (member (codes "hostname") (string (told_host primary host)) (member (codes "isPrimary") (boolean primary) no_members)))
    (member (codes "type") (string kind) no_members))

-- the first line
abbrev pub init_line : NodeInfo → List ℕ
init_line info = json_line (role_data (codes "init") (is_primary info.role) info.primary)

abbrev pub same_bool : Bool → Bool → Bool
same_bool true b = b
same_bool false b = not b

abbrev pub same_host : Option (List ℕ) → Option (List ℕ) → Bool
same_host None None = true
same_host (Some host) (Some other) = bytes_eq host other
same_host None (Some other) = false
same_host (Some host) None = false

-- nothing changed of what was told of the primary
abbrev pub is_same_primary : Viewed → NodeInfo → Bool
is_same_primary viewed info = same_bool viewed.is_primary (is_primary info.role) && same_host viewed.host info.primary

-- that something did; nothing where it is the same
unfoldable pub changed_line : NodeInfo → List ℕ
changed_line info = json_line (role_data (codes "primaryChange") (is_primary info.role) info.primary)

abbrev pub change_unless : Bool → NodeInfo → List ℕ
change_unless true info = []
change_unless false info = changed_line info

abbrev pub change_line : Viewed → NodeInfo → List ℕ
change_line viewed info = change_unless (is_same_primary viewed info) info

-- ---- transactions

abbrev pub same_place : Pos → Pos → Bool
same_place pos other = nat_eq pos.txid other.txid && nat_eq pos.sum other.sum

-- the transactions of a file, and of the last one the size of the database
abbrev pub short_data : Entry → Data
short_data file =
    object (member (codes "minTxID") (digits file.min) (member (codes "postApplyChecksum") (digits file.post.sum) (member (codes "txID") (digits file.max) no_members)))

abbrev pub whole_data : NodeInfo → Entry → Data
whole_data info file =
    object (member (codes "commit") (count info.commit) (member (codes "minTxID") (digits file.min) (member (codes "pageSize") (count info.page_size)
    (member (codes "postApplyChecksum") (digits file.post.sum) (member (codes "txID") (digits file.max) no_members)))))

abbrev pub file_data : NodeInfo → Entry → Data
file_data info file = if same_place file.post info.pos then whole_data info file else short_data file

abbrev pub tx_data : List ℕ → Data → Data
tx_data name inner =
    object (member (codes "data") inner (member (codes "db") (string name) (member (codes "type") (string (codes "tx")) no_members)))

unfoldable pub tx_line : List ℕ → NodeInfo → Entry → List ℕ
tx_line name info file = json_line (tx_data name (file_data info file))

-- a line of each file
abbrev pub tx_lines : List ℕ → NodeInfo → List Entry → List ℕ
tx_lines name info [] = []
tx_lines name info (file ∷ files) = tx_line name info file ++ tx_lines name info files

-- the reader can't be brought on: no file follows its position, and the node is elsewhere
abbrev pub is_lost : Pos → NodeInfo → List Entry → Bool
is_lost pos info [] = not (same_place pos info.pos)
is_lost pos info (file ∷ files) = false

unfoldable pub lost_line : List ℕ
lost_line = json_line (object (member (codes "type") (string (codes "lost")) no_members))

-- the line that it is lost, or a line of each file
abbrev pub rest_lines : Bool → List ℕ → NodeInfo → List Entry → List ℕ
rest_lines true name info files = lost_line
rest_lines false name info files = tx_lines name info files

-- ---- what an answer is to a reader

-- behind the first line, which says where the reader stands; and behind what was told before
abbrev pub later_lines : List ℕ → Viewed → NodeInfo → List Entry → List ℕ
later_lines name viewed info files = change_line viewed info ++ rest_lines (is_lost viewed.pos info files) name info files

-- the position behind these files
abbrev pub last_post : Pos → List Entry → Pos
last_post pos files = unwrap_or (option_map (λ (file : Entry). file.post) (slice_get files (length files - 1))) pos

abbrev pub came_to : Option Viewed → NodeInfo → List Entry → Pos
came_to None info files = info.pos
came_to (Some viewed) info files = last_post viewed.pos files

-- what was told then
abbrev pub viewed_of : Option Viewed → NodeInfo → List Entry → Viewed
viewed_of told info files = record { pos = came_to told info files; is_primary = is_primary info.role; host = info.primary }

-- the reader can be brought on
abbrev pub stays : Option Viewed → NodeInfo → List Entry → Bool
stays None info files = true
stays (Some viewed) info files = not (is_lost viewed.pos info files)
