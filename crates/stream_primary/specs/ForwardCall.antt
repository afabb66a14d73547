-- POST /tx: a commit of a node that has a write permit of the primary, as the file that it makes.
use Rattle.std.specs.Prelude.{◌≡◌, ◌≢◌, ℕ, ◌+◌, ◌<◌, ◌^◌, IsTrue, List, [], ◌∷◌, ◌++◌, length, Option, Some, None}
use Rattle.lf_base.specs.Name.{IsName}
use Rattle.lf_base.specs.declared.session_end.SessionEnd.{SessionEnd}
use Rattle.lf_base.specs.declared.session_end.SessionEnd.TheVariants as ends
use Rattle.link_session.specs.Stands.{Asker, IsStill, Stand}
use Rattle.stream_wire.specs.NumberLines.{number_line}
use Rattle.http_exchange.specs.Writing.{reply}
use Rattle.node_core.specs.declared.ask.Ask.TheVariants as ask
use Rattle.stream_primary.specs.declared.forward_call.Forwarded.{Forwarded}
use Rattle.stream_primary.specs.declared.forward_call.Forwarded.TheVariants as said
use Rattle.stream_primary.specs.Asking.{ServesAsk}
use Rattle.stream_primary.specs.HaltCalls.{number_line_max}
use Rattle.stream_primary.specs.Refusing.{AnswersUnasked}
use Rattle.stream_primary.specs.Streaming.{NodeEntry}

-- the most bytes of the line and the file
abbrev pub forward_max : ℕ
forward_max = 2147483648

-- none of the bytes is a newline
abbrev pub IsUnbroken : List ℕ → Type 0
IsUnbroken [] = Unit {0}
IsUnbroken (byte ∷ bytes) = (byte ≢ 10) × IsUnbroken bytes

-- how many bytes the first line has, its newline with it; or no line is as short as one that names a database and a number
abbrev pub IsFirstLine : List ℕ → Option ℕ → Type 0
IsFirstLine body (Some len) = (line : List ℕ) × (rest : List ℕ) × IsUnbroken line × (body ≡ line ++ 10 ∷ rest) × (len ≡ length line + 1)
IsFirstLine body None = (line rest : List ℕ) → IsUnbroken line → length line < number_line_max → body ≡ line ++ 10 ∷ rest → ⊥

-- what a body says to the node of this database: a number, by the line of this one, and a file behind the line; or the line is of another
-- one; or it begins with no such line
abbrev pub SaysFile : List ℕ → List ℕ → Forwarded → Type 0
SaysFile name body (said.File number bytes) = body ≡ number_line name number ++ bytes
SaysFile name body said.OtherDatabase =
    (other : List ℕ) × (number : ℕ) × (bytes : List ℕ) × IsName other × (other ≡ name → ⊥) × (body ≡ number_line other number ++ bytes)
SaysFile name body said.NoLine = (other : List ℕ) (number : ℕ) (bytes : List ℕ) → IsName other → number < 2 ^ 64 → body ≡ number_line other number ++ bytes → ⊥

-- HOW POST /tx GOES: the file is forwarded under the permit of the number, at a moment that the clock may give, and it is asked once; 404,
-- 400, or memory ran out before either, and nothing is asked
pub data ServesForward (who : Asker) (name body : List ℕ) (old new : Stand NodeEntry) (turns : ℕ) (end : SessionEnd) : Type 0 where
  forwarding : (now number : ℕ) (bytes : List ℕ) → SaysFile name body (said.File number bytes) → IsTrue (who.may now)
      → ServesAsk who.caller (ask.Forward now number bytes) old new turns end → ServesForward who name body old new turns end
  forward_elsewhere : SaysFile name body said.OtherDatabase → AnswersUnasked (reply 404 []) old new turns end → ServesForward who name body old new turns end
  forward_unreadable : SaysFile name body said.NoLine → AnswersUnasked (reply 400 []) old new turns end → ServesForward who name body old new turns end
  forward_wanting : end ≡ ends.NoMemory → IsStill old.place new.place → new.faults ≡ old.faults → ServesForward who name body old new turns end
