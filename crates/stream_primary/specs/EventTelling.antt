-- What a node's answer is to a reader of events, and what the reader was told then.
use Rattle.std.specs.Prelude.{ℕ, Bool, true, false, List, [], ◌++◌, codes, Option, Some, None}
use Rattle.lf_base.specs.declared.pos.Pos.{Pos}
use Rattle.node_core.specs.declared.answer.Answer.{Answer}
use Rattle.node_core.specs.declared.answer.Answer.TheVariants as answer
use Rattle.node_core.specs.declared.info.NodeInfo.{NodeInfo}
use Rattle.txn_log.specs.declared.entry.Entry.{Entry}
use Rattle.stream_wire.specs.Writing.{typed_head}
use Rattle.stream_primary.specs.declared.viewed.Viewed.{Viewed}
use Rattle.stream_primary.specs.EventLines.{init_line, later_lines, stays, viewed_of}
use Rattle.stream_primary.specs.Refusing.{refused_reply}

-- the head of the reply, which has no length
abbrev pub events_head : List ℕ
events_head = typed_head 200 (codes "application/x-ndjson") None

-- where a reader that was told this is asked for
abbrev pub place_of : Option Viewed → Pos
place_of None = record { txid = 0; sum = 0 }
place_of (Some viewed) = viewed.pos

-- what the node is, and the files behind the reader's place, to a reader that was told this: the files are none to one that was told nothing
abbrev pub told_lines : List ℕ → Option Viewed → NodeInfo → List Entry → List ℕ
told_lines name None info files = events_head ++ init_line info
told_lines name (Some viewed) info files = later_lines name viewed info files

-- what ends it: the reply where nothing was told
abbrev pub last_lines : Option Viewed → Answer → List ℕ
last_lines None given = refused_reply given
last_lines (Some viewed) given = []

-- THE BYTES that an answer is to a reader that was told this
abbrev pub event_words : List ℕ → Option Viewed → Answer → List ℕ
event_words name told (answer.Watched info files) = told_lines name told info files
event_words name told given = last_lines told given

-- it goes on with this answer
abbrev pub watch_goes_on : Option Viewed → Answer → Bool
watch_goes_on told (answer.Watched info files) = stays told info files
watch_goes_on told given = false

-- WHAT WAS TOLD behind this answer
abbrev pub next_viewed : Option Viewed → Answer → Option Viewed
next_viewed told (answer.Watched info files) = Some (viewed_of told info files)
next_viewed told given = told
