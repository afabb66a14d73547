-- POST /halt and DELETE /halt: a write permit of the primary is asked for, and given back.
use Rattle.std.specs.Prelude.{◌≡◌, ℕ, IsTrue, Bool, true, false, List, [], ◌∷◌, ◌++◌, Option, Some, None, Err}
use Rattle.lf_base.specs.Name.{IsName}
use Rattle.lf_base.specs.declared.pos.Pos.{Pos}
use Rattle.lf_base.specs.declared.session_end.SessionEnd.{SessionEnd}
use Rattle.lf_base.specs.declared.session_end.SessionEnd.TheVariants as ends
use Rattle.link_session.specs.Asking.{EndsAsking}
use Rattle.link_session.specs.Stands.{Asker, IsStill, Stand}
use Rattle.turn_desk.specs.History.{entry}
use Rattle.halt_forward.specs.declared.halt_pass.HaltPass.{HaltPass}
use Rattle.stream_wire.specs.NumberLines.{number_line, pass_line, ReadsNamedNumber}
use Rattle.http_exchange.specs.Writing.{reply}
use Rattle.node_core.specs.declared.answer.Answer.{Answer}
use Rattle.node_core.specs.declared.answer.Answer.TheVariants as answer
use Rattle.node_core.specs.declared.ask.Ask.{Ask}
use Rattle.node_core.specs.declared.ask.Ask.TheVariants as ask
use Rattle.stream_primary.specs.declared.halt_calls.Named.{Named}
use Rattle.stream_primary.specs.declared.halt_calls.Named.TheVariants as named
use Rattle.stream_primary.specs.Asking.{answer_reply}
use Rattle.stream_primary.specs.Refusing.{AnswersUnasked, EndsReply}
use Rattle.stream_primary.specs.Streaming.{NodeEntry}

-- the most bytes of a line that names a database and a number
abbrev pub number_line_max : ℕ
number_line_max = 82

-- what a body says to the node of this database: a number, by the line of this one; or its line is of another one; or it is no such line
abbrev pub SaysNumber : List ℕ → List ℕ → Named → Type 0
SaysNumber name body (named.Number number) = body ≡ number_line name number
SaysNumber name body named.OtherDatabase = (other : List ℕ) × (number : ℕ) × IsName other × (other ≡ name → ⊥) × (body ≡ number_line other number)
SaysNumber name body named.NoLine = ReadsNamedNumber body None

-- the reply that gives a permit: its number, the moment at which it ends, and the primary's position
abbrev pub permit_reply : HaltPass → Pos → List ℕ
permit_reply pass here = reply 200 (pass_line (record { number = pass.number; until = pass.until; pos = here }))

-- the permit that an answer gives
abbrev pub pass_in : Answer → Option HaltPass
pass_in (answer.Pass pass) = Some pass
pass_in given = None

-- the position that it tells
abbrev pub place_in : Answer → Option Pos
place_in (answer.At here) = Some here.pos
place_in given = None

-- whether it says nothing
abbrev pub is_quiet : Answer → Bool
is_quiet answer.Quiet = true
is_quiet given = false

-- a session that made this entry more
abbrev pub with_entry : NodeEntry → Stand NodeEntry → Stand NodeEntry
with_entry made old = record old { place = record old.place { entries = old.place.entries ++ made ∷ [] } }

-- HOW A SESSION GOES to which this permit was given: the position is asked, and both are the reply, or the part of it that was written;
-- where it isn't asked, since no turn is left or no further step can be taken, nothing is written
pub data TellsPermit (caller : ℕ) (pass : HaltPass) (old new : Stand NodeEntry) (turns : ℕ) (end : SessionEnd) : Type 0 where
  permitted : (given : Answer) (here : Pos) → place_in given ≡ Some here → new.place.entries ≡ old.place.entries ++ entry caller ask.Where given ∷ []
      → EndsReply (permit_reply pass here) old.place.taken new.place.taken old.faults new.faults turns end → TellsPermit caller pass old new turns end
  nowhere : (given : Answer) → place_in given ≡ None → new.place.entries ≡ old.place.entries ++ entry caller ask.Where given ∷ []
      → EndsReply (answer_reply given) old.place.taken new.place.taken old.faults new.faults turns end → TellsPermit caller pass old new turns end
  unplaced : EndsAsking {T = Unit {0}} (Unit {0}) turns (Err end) → IsStill old.place new.place → new.faults ≡ old.faults → TellsPermit caller pass old new turns end

-- HOW A SESSION GOES that asks for a permit by this ask: it is given, and told; or another answer's reply ends it; or nothing is asked
pub data AsksPermit (caller : ℕ) (asked : Ask) (old new : Stand NodeEntry) (turns : ℕ) (end : SessionEnd) : Type 0 where
  granted : (given : Answer) (pass : HaltPass) → pass_in given ≡ Some pass
      → TellsPermit caller pass (with_entry (entry caller asked given) old) new turns end → AsksPermit caller asked old new turns end
  ungranted : (given : Answer) → pass_in given ≡ None → new.place.entries ≡ old.place.entries ++ entry caller asked given ∷ []
      → EndsReply (answer_reply given) old.place.taken new.place.taken old.faults new.faults turns end → AsksPermit caller asked old new turns end
  unasked : EndsAsking {T = Unit {0}} (Unit {0}) turns (Err end) → IsStill old.place new.place → new.faults ≡ old.faults → AsksPermit caller asked old new turns end

-- HOW A SESSION GOES that asks this to give a permit back: it is taken back, and the reply is empty; or another answer's reply ends it; or
-- nothing is asked
pub data GivesBack (caller : ℕ) (asked : Ask) (old new : Stand NodeEntry) (turns : ℕ) (end : SessionEnd) : Type 0 where
  taken_back : (given : Answer) → is_quiet given ≡ true → new.place.entries ≡ old.place.entries ++ entry caller asked given ∷ []
      → EndsReply (reply 200 []) old.place.taken new.place.taken old.faults new.faults turns end → GivesBack caller asked old new turns end
  not_taken : (given : Answer) → is_quiet given ≡ false → new.place.entries ≡ old.place.entries ++ entry caller asked given ∷ []
      → EndsReply (answer_reply given) old.place.taken new.place.taken old.faults new.faults turns end → GivesBack caller asked old new turns end
  not_asked : EndsAsking {T = Unit {0}} (Unit {0}) turns (Err end) → IsStill old.place new.place → new.faults ≡ old.faults → GivesBack caller asked old new turns end

-- HOW IT GOES where the body says no number to this database: 404, 400, or memory ran out before either; and nothing is asked
pub data RefusesLine (name body : List ℕ) (old new : Stand NodeEntry) (turns : ℕ) (end : SessionEnd) : Type 0 where
  elsewhere : SaysNumber name body named.OtherDatabase → AnswersUnasked (reply 404 []) old new turns end → RefusesLine name body old new turns end
  unreadable : SaysNumber name body named.NoLine → AnswersUnasked (reply 400 []) old new turns end → RefusesLine name body old new turns end
  wanting : end ≡ ends.NoMemory → IsStill old.place new.place → new.faults ≡ old.faults → RefusesLine name body old new turns end

-- HOW POST /halt GOES: the node of the number asks for a permit, at a moment that the clock may give
pub data ServesHalt (who : Asker) (name body : List ℕ) (old new : Stand NodeEntry) (turns : ℕ) (end : SessionEnd) : Type 0 where
  halting : (now node : ℕ) → SaysNumber name body (named.Number node) → IsTrue (who.may now) → AsksPermit who.caller (ask.HaltAsk now node) old new turns end
      → ServesHalt who name body old new turns end
  unhalted : RefusesLine name body old new turns end → ServesHalt who name body old new turns end

-- HOW DELETE /halt GOES: the permit of the number is given back, at such a moment
pub data ServesHaltBack (who : Asker) (name body : List ℕ) (old new : Stand NodeEntry) (turns : ℕ) (end : SessionEnd) : Type 0 where
  giving_back : (now number : ℕ) → SaysNumber name body (named.Number number) → IsTrue (who.may now) → GivesBack who.caller (ask.HaltBack now number) old new turns end
      → ServesHaltBack who name body old new turns end
  not_given_back : RefusesLine name body old new turns end → ServesHaltBack who name body old new turns end
