-- Messages that come over a link in pieces.
use Rattle.std.specs.Prelude.{Bool, true, take, None, Some, ◌≡◌, ◌≢◌, ℕ, ◌≤◌, List, [], ◌++◌, length, Option, Result, Ok, Err, IfSome}
use Rattle.std.specs.Io.KnownBytes.{Consumes, IsAtEnd, prepend_known}
use Rattle.lf_base.specs.Faults.{Rose}
use Rattle.lf_base.specs.declared.session_end.SessionEnd.{SessionEnd}
use Rattle.lf_base.specs.declared.session_end.SessionEnd.TheVariants as ends
use Rattle.link_session.specs.declared.stage.Stage.{Stage}
use Rattle.link_session.specs.declared.stage.Stage.TheVariants as stages
use Rattle.link_session.specs.declared.feed.FeedFault.{FeedFault}
use Rattle.link_session.specs.declared.feed.FeedFault.TheVariants as fault

-- what was read and is not yet used: the message that is coming or is whole, and what was read behind it; the most that a
-- message may have, and where the feed stands
pub record Held : Type 0 where
  pub message : List ℕ
  pub ahead : List ℕ
  pub limit : ℕ
  pub stage : Stage

-- the text that is still to come: what is held, and then what the link has left
abbrev pub text_of : List ℕ → List ℕ → Option (List ℕ) → Option (List ℕ)
text_of message ahead left = prepend_known (message ++ ahead) left

abbrev pub coming : Held → Option (List ℕ) → Option (List ℕ)
coming held left = text_of held.message held.ahead left

-- what a feed took of a piece, and where it stands then
abbrev pub Took : (List ℕ → Type 0) → (List ℕ → Type 0) → List ℕ → List ℕ → List ℕ → Stage → Option ℕ → Type 0
Took Message Partial old piece new stage None = Partial new × (new ≡ old ++ piece) × (stage ≡ stages.Open)
Took Message Partial old piece new stage (Some used) = Message new × (used ≤ length piece) × (new ≡ old ++ take used piece) × (stage ≡ stages.Whole)

-- why a feed took nothing: no message begins so, or it takes memory and there was none
abbrev pub Faulted : Bool → (List ℕ → Type 0) → List ℕ → FeedFault → Type 0
Faulted memory Broken text fault.Broken = Broken text
Faulted memory Broken text fault.NoMemory = memory ≡ true

-- the bytes that were read of a text are less than a message
pub record IsUnread (Partial : List ℕ → Type 0) (text left : Option (List ℕ)) : Type 0 where
  pub bytes : List ℕ
  pub part : Partial bytes
  pub read : Consumes text left bytes

-- the text ends inside a message
pub record IsCut (Partial : List ℕ → Type 0) (text left : Option (List ℕ)) : Type 0 where
  pub bytes : List ℕ
  pub some : bytes ≢ []
  pub part : Partial bytes
  pub read : Consumes text left bytes
  pub end : IsAtEnd left

-- why no message could be read: the text begins none, or ends inside one
pub data IsUnreadable (Partial Broken : List ℕ → Type 0) (text left : Option (List ℕ)) : Type 0 where
  broken : IfSome text Broken → IsUnreadable Partial Broken text left
  cut : IsCut Partial text left → IsUnreadable Partial Broken text left

-- some bytes of the text were read
abbrev pub IsReadOn : Option (List ℕ) → Option (List ℕ) → Type 0
IsReadOn text left = (bytes : List ℕ) × Consumes text left bytes

-- why reading ended without a message, of this text; and what became of the count of faults
abbrev pub EndsReading : {T : Type 0} → Bool → (List ℕ → Type 0) → (List ℕ → Type 0) → Option (List ℕ) → Option (List ℕ) → ℕ → ℕ → ℕ → Result T SessionEnd → Type 0
EndsReading memory Partial Broken text left before now turns (Ok _) = now ≡ before
EndsReading memory Partial Broken text left before now turns (Err ends.Closed) = IsAtEnd text × IsAtEnd left × (now ≡ before)
EndsReading memory Partial Broken text left before now turns (Err ends.BadMessage) = IsUnreadable Partial Broken text left × (now ≡ before)
EndsReading memory Partial Broken text left before now turns (Err ends.ReadFault) = IsUnread Partial text left × Rose before now
EndsReading memory Partial Broken text left before now turns (Err ends.Turns) = IsUnread Partial text left × (turns ≡ 0) × (now ≡ before)
EndsReading memory Partial Broken text left before now turns (Err ends.NoMemory) = (memory ≡ true) × IsReadOn text left × (now ≡ before)
EndsReading memory Partial Broken text left before now turns (Err _) = ⊥
