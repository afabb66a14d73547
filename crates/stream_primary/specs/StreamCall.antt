-- POST /stream: what a request for a stream asks of the node of a database, and how its session goes.
use Rattle.std.specs.Prelude.{◌≡◌, ℕ, List, [], Option, Some, None}
use Rattle.lf_base.specs.Name.{IsName}
use Rattle.lf_base.specs.declared.pos.Pos.{Pos}
use Rattle.lf_base.specs.declared.session_end.SessionEnd.{SessionEnd}
use Rattle.lf_base.specs.declared.session_end.SessionEnd.TheVariants as ends
use Rattle.link_session.specs.Stands.{Asker, IsStill, Stand}
use Rattle.stream_wire.specs.declared.last_file.LastFile.{LastFile as Said}
use Rattle.stream_wire.specs.declared.last_file.LastFile.TheVariants as wire
use Rattle.stream_wire.specs.LastFile.{TellsLastFile}
use Rattle.stream_wire.specs.StreamLine.{stream_line, IsNoStreamLine}
use Rattle.world_laws.specs.declared.last_file.LastFile.{LastFile}
use Rattle.world_laws.specs.declared.last_file.LastFile.TheVariants as last_file
use Rattle.node_core.specs.declared.whereabouts.Whereabouts.{Whereabouts}
use Rattle.http_exchange.specs.Writing.{reply}
use Rattle.stream_primary.specs.declared.stream_call.Wish.{Wish}
use Rattle.stream_primary.specs.declared.stream_call.Wish.TheVariants as wish
use Rattle.stream_primary.specs.Refusing.{AnswersUnasked}
use Rattle.stream_primary.specs.Request.{Request}
use Rattle.stream_primary.specs.Streaming.{NodeEntry, Streams}

-- the most bytes of the line that asks for a stream
abbrev pub line_max : ℕ
line_max = 99

-- WHAT IT ASKS of the node of this database: its body is the line of the database and a position; or the line of another one; or no line
abbrev pub Wants : List ℕ → Request → Wish → Type 0
Wants name request (wish.Stream pos) = request.body ≡ stream_line name pos
Wants name request wish.OtherDatabase = (other : List ℕ) × (pos : Pos) × IsName other × (other ≡ name → ⊥) × (request.body ≡ stream_line other pos)
Wants name request wish.NoLine = IsNoStreamLine request.body

-- the last file that a request's head says, as the node is asked
abbrev pub heard : Option Said → Option LastFile
heard None = None
heard (Some wire.Unknown) = Some last_file.Unknown
heard (Some (wire.File min max sum)) = Some (last_file.File min max sum)

-- a head says this of the last file
abbrev pub Says : List ℕ → Option LastFile → Type 0
Says head last = (said : Option Said) × TellsLastFile head said × (last ≡ heard said)

-- HOW ITS SESSION GOES: the stream that it asks for, of a follower that says this of its last file; or 404 or 400, and nothing is asked; or memory ran out before either
pub data ServesStream (who : Asker) (name : List ℕ) (request : Request) (old new : Stand NodeEntry) (turns : ℕ) (end : SessionEnd) : Type 0 where
  streaming : (from : Whereabouts) → Wants name request (wish.Stream from.pos) → Says request.head from.last → Streams who name from old new turns end
      → ServesStream who name request old new turns end
  other_database : Wants name request wish.OtherDatabase → AnswersUnasked (reply 404 []) old new turns end → ServesStream who name request old new turns end
  no_line : Wants name request wish.NoLine → AnswersUnasked (reply 400 []) old new turns end → ServesStream who name request old new turns end
  starving : end ≡ ends.NoMemory → IsStill old.place new.place → new.faults ≡ old.faults → ServesStream who name request old new turns end
