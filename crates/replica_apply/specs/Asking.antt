-- How a frame is asked.
use Rattle.std.specs.Prelude.{◌≡◌, ℕ, Bool, true, false, List}
use Rattle.turn_desk.specs.declared.history.Entry.{Entry}
use Rattle.link_session.specs.Asking.{Manner}
use Rattle.link_session.specs.Stands.{Asker}
use Rattle.node_core.specs.declared.ask.Ask.{Ask}
use Rattle.node_core.specs.declared.ask.Ask.TheVariants as ask
use Rattle.node_core.specs.declared.answer.Answer.{Answer}
use Rattle.node_core.specs.declared.answer.Answer.TheVariants as answer
use Rattle.node_core.specs.Moments.{ask_at}
use Rattle.stream_wire.specs.declared.frame.Frame.TheVariants as frame
use Rattle.stream_wire.specs.Frame.{frame_text}

-- what the node was asked, and what it answered
abbrev pub NodeEntry : Type 0
NodeEntry = Entry Ask Answer

-- a lock holds it back
abbrev pub is_held : Answer → Bool
is_held (answer.Held lock) = true
is_held _ = false

-- a frame is asked again while a lock holds it back
abbrev pub manner : Asker → Manner Ask Answer
manner who = record { may = who.may; at_moment = ask_at; again = is_held; caller = who.caller }

-- what a frame of this database is asked as: its file, or the drop
pub data IsAskOf (name text : List ℕ) (asked : Ask) : Type 0 where
  file : (bytes : List ℕ) → text ≡ frame_text (frame.Ltx name bytes) → asked ≡ ask.Frame 0 bytes → IsAskOf name text asked
  drop : text ≡ frame_text (frame.Drop name) → asked ≡ ask.Drop 0 → IsAskOf name text asked
