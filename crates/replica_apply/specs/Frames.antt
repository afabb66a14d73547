-- What becomes of one frame.
use Rattle.std.specs.Prelude.{◌≡◌, ℕ, Bool, true, false, List, [], ◌++◌, Result, Ok, Err}
use Rattle.lf_base.specs.declared.pos.Pos.{Pos}
use Rattle.link_session.specs.Asking.{AskedUntil, AskedInVain}
use Rattle.link_session.specs.Rounds.{Round}
use Rattle.link_session.specs.Stands.{Asker}
use Rattle.node_core.specs.declared.ask.Ask.{Ask}
use Rattle.node_core.specs.declared.answer.Answer.{Answer}
use Rattle.node_core.specs.declared.answer.Answer.TheVariants as answer
use Rattle.stream_wire.specs.declared.frame.Frame.{Frame}
use Rattle.stream_wire.specs.declared.frame.Frame.TheVariants as frame
use Rattle.stream_wire.specs.Frame.{frame_text, name_of}
use Rattle.replica_apply.specs.declared.follow_end.FollowEnd.{FollowEnd}
use Rattle.replica_apply.specs.declared.follow_end.FollowEnd.TheVariants as ends
use Rattle.replica_apply.specs.Asking.{IsAskOf, NodeEntry, manner}

-- A ROUND. A file or a drop was asked until no lock held it back, and was applied, or led to just where the node stands; that the
-- follower is level asks nothing. Nothing is written
pub data IsRound (who : Asker) (name : List ℕ) (round : Round NodeEntry) : Type 0 where
  applied : (asked : Ask) (pos : Pos) → IsAskOf name round.message asked → AskedUntil (manner who) asked [] round.entries (answer.Applied pos)
      → round.reply ≡ [] → IsRound who name round
  had : (asked : Ask) (pos : Pos) → IsAskOf name round.message asked → AskedUntil (manner who) asked [] round.entries (answer.Same pos)
      → round.reply ≡ [] → IsRound who name round
  level : (pos : Pos) → round.message ≡ frame_text (frame.Ready name pos) → round.entries ≡ [] → round.reply ≡ [] → IsRound who name round

-- whether an answer settles a frame: it is applied, had already, or refused
abbrev pub settles : Answer → Bool
settles (answer.Applied pos) = true
settles (answer.Same pos) = true
settles (answer.Refused refused) = true
settles _ = false

-- what an answer says of its frame
abbrev pub said_by : Answer → Result (Unit {0}) FollowEnd
said_by (answer.Applied pos) = Ok tt
said_by (answer.Same pos) = Ok tt
said_by (answer.Refused refused) = Err (ends.Refused refused)
said_by _ = Err ends.OddAnswer

-- a frame of another database
pub record IsForeign (name text : List ℕ) : Type 0 where
  pub frame : Frame
  pub is : frame_text frame ≡ text
  pub other : name_of frame ≡ name → ⊥

-- the frame was asked until it was not held back, and answered so
pub record IsAnswered (who : Asker) (name text : List ℕ) (given : Answer) (old new : List NodeEntry) : Type 0 where
  pub asked : Ask
  pub is : IsAskOf name text asked
  pub until : AskedUntil (manner who) asked old new given

-- it was held back to the end
pub record IsHeldBack (who : Asker) (name text : List ℕ) (old new : List NodeEntry) : Type 0 where
  pub asked : Ask
  pub is : IsAskOf name text asked
  pub vain : AskedInVain (manner who) asked old new

-- it was dealt with
pub record IsDone (who : Asker) (name text : List ℕ) (old new : List NodeEntry) : Type 0 where
  pub entries : List NodeEntry
  pub round : IsRound who name (record { message = text; entries = entries; reply = [] })
  pub asked : new ≡ old ++ entries

-- what became of a frame that was read. It takes no memory
abbrev pub EndsFrame : {T : Type 0} → Asker → List ℕ → List ℕ → List NodeEntry → List NodeEntry → ℕ → Result T FollowEnd → Type 0
EndsFrame who name text old new turns (Ok _) = IsDone who name text old new
EndsFrame who name text old new turns (Err ends.Ended) = (text ≡ frame_text frame.End) × (new ≡ old)
EndsFrame who name text old new turns (Err ends.BadFrame) = IsForeign name text × (new ≡ old)
EndsFrame who name text old new turns (Err (ends.Refused refused)) = IsAnswered who name text (answer.Refused refused) old new
EndsFrame who name text old new turns (Err ends.Turns) = IsHeldBack who name text old new × (turns ≡ 0)
EndsFrame who name text old new turns (Err ends.Worn) = IsHeldBack who name text old new
EndsFrame who name text old new turns (Err ends.OddAnswer) = (given : Answer) × IsAnswered who name text given old new × (settles given ≡ false)
EndsFrame who name text old new turns (Err _) = ⊥
