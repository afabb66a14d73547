-- GET /info: what a node is and where it stands, as JSON (RFC 8259).
use Rattle.std.specs.Prelude.{ℕ, ◌/◌, List, ◌++◌, Bool, true, false, codes, Option, None}
use Rattle.lf_base.specs.Hex.{hex_digits}
use Rattle.lf_base.specs.Position.{position_text}
use Rattle.file_view.specs.declared.view.Role.{Role}
use Rattle.file_view.specs.declared.view.Role.TheVariants as role
use Rattle.node_core.specs.declared.info.NodeInfo.{NodeInfo}
use Rattle.stream_primary.specs.JsonText.{number_member, quoted_member, text_member, truth_member}
use Rattle.stream_primary.specs.MetricsText.{is_primary}
use Rattle.node_figures.specs.declared.figures.Figures.{Figures}

-- the media type
unfoldable pub info_type : List ℕ
info_type = codes "application/json"

abbrev pub role_name : Role → List ℕ
role_name role.Primary = codes "primary"
role_name role.Replica = codes "replica"
role_name role.Halted = codes "halted"

-- the host of another node that is primary: the primary names none
abbrev pub told_primary : Bool → Option (List ℕ) → Option (List ℕ)
told_primary true host = None
told_primary false host = host

unfoldable pub primary_member : Bool → Option (List ℕ) → List ℕ
primary_member primary host = text_member (codes "primary") (told_primary primary host)

-- what the node is, and whom it follows
unfoldable pub who_members : List ℕ → NodeInfo → Figures → List ℕ
who_members name info figures =
    quoted_member (codes "name") name
    ++ quoted_member (codes "node") (hex_digits 16 figures.node)
    ++ quoted_member (codes "role") (role_name info.role)
    ++ primary_member (is_primary info.role) info.primary
    ++ text_member (codes "primaryUrl") figures.primary_url

-- where it stands, and its log
unfoldable pub place_members : NodeInfo → List ℕ
place_members info =
    quoted_member (codes "pos") (position_text info.pos)
    ++ quoted_member (codes "first") (hex_digits 16 info.first)
    ++ quoted_member (codes "last") (hex_digits 16 info.pos.txid)
    ++ number_member (codes "files") info.files

-- its database
unfoldable pub size_members : NodeInfo → List ℕ
size_members info =
    number_member (codes "pageSize") info.page_size
    ++ number_member (codes "commit") info.commit
    ++ truth_member (codes "broken") info.broken

-- who listens to it, and for how many seconds it has run
unfoldable pub reader_members : Figures → List ℕ
reader_members figures =
    number_member (codes "followers") figures.counts.followers
    ++ number_member (codes "watchers") figures.counts.watchers
    ++ number_member (codes "uptime") (figures.uptime_ms / 1000)

unfoldable pub version_front : List ℕ
version_front = codes "{\"version\":\"0.1.0\""

-- THE TEXT: one line
unfoldable pub info_text : List ℕ → NodeInfo → Figures → List ℕ
info_text name info figures =
    version_front ++ who_members name info figures ++ place_members info ++ size_members info ++ reader_members figures ++ codes "}\n"
