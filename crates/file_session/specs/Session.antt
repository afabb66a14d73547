-- A session on the files, from its first message to its end.
use Rattle.std.specs.Prelude.{◌≡◌, ℕ, false, List, [], ◌∷◌, ◌++◌, Err}
use Rattle.std.specs.Io.KnownBytes.{Consumes}
use Rattle.lf_base.specs.declared.session_end.SessionEnd.{SessionEnd}
use Rattle.lf_base.specs.declared.session_end.SessionEnd.TheVariants as ends
use Rattle.fuse_msgs.specs.Feed.{IsWholeMessage}
use Rattle.turn_desk.specs.History.{entry}
use Rattle.link_session.specs.Messages.{IsPart, IsRefused}
use Rattle.link_session.specs.Reading.{EndsReading}
use Rattle.link_session.specs.Rounds.{Place, Talked}
use Rattle.link_session.specs.Stands.{Asker, IsStill, Spends, Stand}
use Rattle.node_core.specs.declared.ask.Ask.TheVariants as ask
use Rattle.node_core.specs.declared.answer.Answer.{Answer}
use Rattle.file_session.specs.Asking.{FileEntry}
use Rattle.file_session.specs.Message.{IsRound, EndsMessage}

-- why no more messages were answered, behind this place: there was no memory to begin with, no message could be read, or the next
-- one was not answered whole
pub data Ends (who : Asker) (start place last : Stand FileEntry) (turns : ℕ) (end : SessionEnd) : Type 0 where
  starting : end ≡ ends.NoMemory → place ≡ start → last ≡ start → Ends who start place last turns end
  reading : EndsReading {T = Unit {0}} false IsPart IsRefused place.place.text last.place.text place.faults last.faults turns (Err end)
      → IsStill place.place last.place → Ends who start place last turns end
  answering : (message ahead : List ℕ) → IsWholeMessage message → Consumes place.place.text last.place.text (message ++ ahead)
      → EndsMessage {T = Unit {0}} who message place last turns (Err end) → Ends who start place last turns end

-- messages were answered, each in its turn, up to a place, where it ended so; and what became of the turns
pub record Conversation (who : Asker) (turns : ℕ) (old new : Stand FileEntry) (end : SessionEnd) : Type 0 where
  pub place : Place FileEntry
  pub left : ℕ
  pub talked : Talked (IsRound who) old.place place
  pub ending : Ends who old (record old { place = place }) new left end
  pub spent : Spends {T = Unit {0}} turns old left new (Err end)

-- the node is asked to end the session, and that is the last entry, unless no step can be taken
abbrev pub AsksEnd : ℕ → List FileEntry → List FileEntry → SessionEnd → SessionEnd → Type 0
AsksEnd caller said all end ends.Worn = all ≡ said
AsksEnd caller said all end result = (result ≡ end) × ((answer : Answer) × (all ≡ said ++ entry caller ask.EndSession answer ∷ []))

-- A SESSION: a conversation, and then its end
pub record IsSession (who : Asker) (budget : ℕ) (old new : Stand FileEntry) (result : SessionEnd) : Type 0 where
  pub said : List FileEntry
  pub end : SessionEnd
  pub conversation : Conversation who budget old (record new { place = record new.place { entries = said } }) end
  pub asked : AsksEnd who.caller said new.place.entries end result
