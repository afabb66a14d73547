-- A stream in the one run of its node: what the log owed at each Hello, and what the bytes are.
use Rattle.std.specs.Prelude.{◌≡◌, ◌≢◌, ◌⊎◌, ℕ, Bool, true, false, IsTrue, List, [], ◌∷◌, ◌++◌, Option, None}
use Rattle.std.specs.List.{flat_map, AllByRecursion}
use Rattle.std.specs.Io.KnownBytes.{Appends}
use Rattle.lf_base.specs.declared.pos.Pos.{Pos}
use Rattle.lf_base.specs.declared.session_end.SessionEnd.{SessionEnd}
use Rattle.lf_disk.specs.declared.disk.Disk.{Ghosts}
use Rattle.lf_disk.specs.History.{History}
use Rattle.turn_desk.specs.declared.view.SeatView.{SeatView}
use Rattle.turn_desk.specs.History.{StartsWith}
use Rattle.link_session.specs.Rounds.{Place}
use Rattle.link_session.specs.Runs.{IsInRun, MadeStep, entries_of}
use Rattle.link_session.specs.Seats.{HasGoneOn}
use Rattle.link_session.specs.Stands.{Asker, Stand}
use Rattle.txn_log.specs.declared.answering.Answer.TheVariants as owed
use Rattle.node_core.specs.declared.answer.Answer.{Answer}
use Rattle.node_core.specs.declared.answer.Answer.TheVariants as answer
use Rattle.node_core.specs.declared.ask.Ask.{Ask}
use Rattle.node_core.specs.declared.node.Node.{Node}
use Rattle.node_core.specs.declared.whereabouts.Whereabouts.{Whereabouts}
use Rattle.node_core.specs.Hello.{IsFirstFile, IsOwed, IsRunOfFiles, IsWholeDatabase}
use Rattle.node_core.specs.Nodes.{history, parts_of}
use Rattle.node_core.specs.Stores.{StoreFields, position}
use Rattle.stream_wire.specs.declared.frame.Frame.TheVariants as frame
use Rattle.stream_wire.specs.Frame.{frame_text}
use Rattle.stream_wire.specs.Writing.{reply_head}
use Rattle.stream_primary.specs.declared.standing.Standing.{Standing}
use Rattle.stream_primary.specs.Streaming.{AreHellos, IsHello, NodeEntry, Streams, behind}
use Rattle.stream_primary.specs.Telling.{goes_on, next, standing_at, words}

-- WHAT THE LOG OWES a follower that says that it stands here: nothing, where it stands where the store does; word that the database
-- was dropped; the first file that leads on, or a run from it on; or the whole database where the log does not know the position, or it
-- counts as unknown
abbrev pub Owes : History → StoreFields → Whereabouts → Answer → Type 0
Owes start store from (answer.Level here) = (here ≡ position store) × IsOwed start store from.pos from.last owed.Level
Owes start store from answer.Gone = IsOwed start store from.pos from.last owed.Gone
Owes start store from (answer.Item ltx to) =
    IsFirstFile start store from.pos from.last ltx to ⊎ IsRunOfFiles start store from.pos from.last ltx to ⊎ IsWholeDatabase start store from.pos from.last ltx to
Owes start store from _ = ⊥

module _ {D : Type 0} {G : Ghosts D} where
  -- Hellos in a run, each at the position to which the answers before it led: an answer with which the stream goes on is what the
  -- log owed there, as the node stood at that Hello
  abbrev pub AreOwed : Standing → List (MadeStep (Node D G) Ask Answer) → Type 0
  AreOwed at [] = Unit {0}
  AreOwed at (hello ∷ more) =
      (IsTrue (goes_on hello.entry.answer) → Owes (history hello.before) (parts_of hello.before).store at.here hello.entry.answer)
      × AreOwed (next at hello.entry.answer) more

-- the frame of a file or of a drop
abbrev pub change_text : List ℕ → Answer → List ℕ
change_text name (answer.Item ltx after) = frame_text (frame.Ltx name ltx)
change_text name answer.Gone = frame_text (frame.Drop name)
change_text name _ = []

-- those of these Hellos, in order
abbrev pub changes_of : List ℕ → List NodeEntry → List ℕ
changes_of name hellos = flat_map (λ one. change_text name one.answer) hellos

abbrev pub is_level : Answer → Bool
is_level (answer.Level pos) = true
is_level _ = false

-- the follower was never level
abbrev pub NeverLevel : List NodeEntry → Type 0
NeverLevel hellos = AllByRecursion (λ one. is_level one.answer ≡ false) hellos

-- the first Hello at which it was level, and those before and behind it
pub record IsLevelFirst (hellos front : List NodeEntry) (pos : Pos) (back : List NodeEntry) : Type 0 where
  pub one : NodeEntry
  pub is : hellos ≡ front ++ one ∷ back
  pub level : one.answer ≡ answer.Level pos
  pub never_before : NeverLevel front

-- THE BYTES OF A STREAM: none where nothing was told; else the head, and the files and the drops in order, and where the follower
-- was level for the first time one Ready
pub data IsMadeOf (name : List ℕ) (hellos : List NodeEntry) (bytes : List ℕ) : Type 0 where
  nothing : hellos ≡ [] → bytes ≡ [] → IsMadeOf name hellos bytes
  behind_all : hellos ≢ [] → NeverLevel hellos → bytes ≡ reply_head 200 None ++ changes_of name hellos → IsMadeOf name hellos bytes
  level_at : (front : List NodeEntry) (pos : Pos) (back : List NodeEntry) → IsLevelFirst hellos front pos back
      → bytes ≡ reply_head 200 None ++ (changes_of name front ++ (frame_text (frame.Ready name pos) ++ changes_of name back)) → IsMadeOf name hellos bytes

-- what is behind the Hellos that were told whole: nothing; or one more, at the position to which they led, of whose words a front was
-- written
pub data EndsBehind (who : Asker) (name : List ℕ) (at : Standing) (last : List NodeEntry) (part : List ℕ) : Type 0 where
  unasked : last ≡ [] → part ≡ [] → EndsBehind who name at last part
  asked : (one : NodeEntry) → last ≡ one ∷ [] → IsHello who at.here one → StartsWith (words name at.sent one.answer) part → EndsBehind who name at last part

-- WHAT A STREAM CAME TO: Hellos that were told whole, and perhaps one more; and the bytes
pub record ComesTo (who : Asker) (name : List ℕ) (from : Whereabouts) (old new : Place NodeEntry) (told last : List NodeEntry) : Type 0 where
  pub hellos : AreHellos who (standing_at from) told
  pub bytes : List ℕ
  pub made_of : IsMadeOf name told bytes
  pub part : List ℕ
  pub behind_them : EndsBehind who name (behind (standing_at from) told) last part
  pub written : Appends old.taken new.taken (bytes ++ part)

module _ {D : Type 0} {G : Ghosts D} (steps : Node D G → ℕ → Ask → Answer → Node D G → Type 0) where
  -- A STREAM IN ONE RUN of its node: these steps of the run are its Hellos, and each is told what the log owed at its place
  pub record IsInOneRun (opened : Node D G) (who : Asker) (name : List ℕ) (from : Whereabouts) (before after : SeatView (Node D G) Ask Answer) (old new : Place NodeEntry) : Type 0 where
    pub told : List (MadeStep (Node D G) Ask Answer)
    pub last : List (MadeStep (Node D G) Ask Answer)
    pub run : IsInRun steps opened who.caller before after (told ++ last)
    pub owed : AreOwed (standing_at from) (told ++ last)
    pub came_to : ComesTo who name from old new (entries_of told) (entries_of last)

  -- each stream of a seat that stands at a desk is
  abbrev pub StreamsAreInOneRun : Type 0
  StreamsAreInOneRun = (opened : Node D G) (who : Asker) (name : List ℕ) (from : Whereabouts) (old new : Stand NodeEntry) (turns : ℕ) (end : SessionEnd)
      (before after : SeatView (Node D G) Ask Answer) → Streams who name from old new turns end → HasGoneOn steps opened who.caller before after
      → old.place.entries ≡ before.mine → new.place.entries ≡ after.mine → IsInOneRun opened who name from before after old.place new.place
