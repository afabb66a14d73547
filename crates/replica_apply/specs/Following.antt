-- Following a stream, from the question where the node stands to the end.
use Rattle.std.specs.Prelude.{◌≡◌, ◌≤◌, ◌+◌, ℕ, Bool, true, false, codes, List, [], ◌∷◌, ◌++◌, length, Option, Some, None, Result, Ok, Err}
use Rattle.std.specs.Io.KnownBytes.{Appends, Consumes, Keeps}
use Rattle.lf_base.specs.Faults.{Rose}
use Rattle.lf_base.specs.declared.pos.Pos.{Pos}
use Rattle.lf_base.specs.declared.session_end.SessionEnd.{SessionEnd}
use Rattle.lf_base.specs.declared.session_end.SessionEnd.TheVariants as session
use Rattle.turn_desk.specs.History.{entry}
use Rattle.link_session.specs.declared.unread.Unread.{Unread}
use Rattle.link_session.specs.declared.unread.Unread.TheVariants as unread
use Rattle.link_session.specs.Frames.{IsBrokenFrame, IsFrame, IsFramePart}
use Rattle.link_session.specs.Reading.{IsReadOn}
use Rattle.link_session.specs.Rounds.{Place, Talked}
use Rattle.link_session.specs.Stands.{Asker, IsStill, Spent, Stand}
use Rattle.link_session.specs.Unread.{LeavesUnread}
use Rattle.link_session.specs.Writing.{AppendsPart}
use Rattle.node_core.specs.declared.ask.Ask.TheVariants as ask
use Rattle.node_core.specs.declared.answer.Answer.{Answer}
use Rattle.node_core.specs.declared.answer.Answer.TheVariants as answer
use Rattle.stream_wire.specs.Head.{NeverTakesResponse}
use Rattle.stream_wire.specs.StreamLine.{stream_line}
use Rattle.stream_wire.specs.Writing.{stream_head}
use Rattle.stream_wire.specs.declared.last_file.LastFile.{LastFile as Said}
use Rattle.stream_wire.specs.declared.last_file.LastFile.TheVariants as wire
use Rattle.world_laws.specs.declared.last_file.LastFile.{LastFile}
use Rattle.world_laws.specs.declared.last_file.LastFile.TheVariants as last_file
use Rattle.node_core.specs.declared.whereabouts.Whereabouts.{Whereabouts}
use Rattle.replica_apply.specs.declared.follow_end.FollowEnd.{FollowEnd}
use Rattle.replica_apply.specs.declared.follow_end.FollowEnd.TheVariants as ends
use Rattle.replica_apply.specs.Asking.{NodeEntry}
use Rattle.replica_apply.specs.Frames.{EndsFrame, IsDone, IsRound}
use Rattle.replica_apply.specs.Heads.{IsHead, IsHeadPart}

-- the most bytes of a frame's body: 2 GiB
abbrev pub frame_limit : ℕ
frame_limit = 2147483648

-- what the request says of the last file of the log: which it is, where there is one; or that the position is unknown
abbrev pub said : Bool → Option LastFile → Option Said
said true last = Some wire.Unknown
said false None = None
said false (Some last_file.Unknown) = Some wire.Unknown
said false (Some (last_file.File min max sum)) = Some (wire.File min max sum)

-- the request for the stream of this database from this position on, which says this of the last file
abbrev pub request_for : List ℕ → Pos → Option Said → List ℕ
request_for name pos last = stream_head (codes "localhost") (length (stream_line name pos)) last ++ stream_line name pos

-- the end where a message could not be read
abbrev pub end_of : Unread → FollowEnd
end_of unread.Ended = ends.Cut
end_of unread.Cut = ends.Cut
end_of unread.Broken = ends.BadFrame
end_of unread.ReadFault = ends.ReadFault
end_of unread.Turns = ends.Turns
end_of unread.NoMemory = ends.NoMemory

-- the node was asked where it stands, and answered so
abbrev pub asks_where : ℕ → Answer → List NodeEntry → List NodeEntry
asks_where caller given entries = entries ++ entry caller ask.Where given ∷ []

-- whether an answer says where the node stands, or refuses to
abbrev pub says_where : Answer → Bool
says_where (answer.At here) = true
says_where (answer.Refused refused) = true
says_where _ = false

-- where the node stands, as an answer says it
abbrev pub place_in : Answer → Result Whereabouts FollowEnd
place_in (answer.At here) = Ok here
place_in (answer.Refused refused) = Err (ends.Refused refused)
place_in _ = Err ends.OddAnswer

-- what asking where the node stands gives: that it says so, or no answer that does. It takes no memory
abbrev pub SaysWhere : ℕ → List NodeEntry → List NodeEntry → ℕ → Result Whereabouts FollowEnd → Type 0
SaysWhere caller old new turns (Ok here) = new ≡ asks_where caller (answer.At here) old
SaysWhere caller old new turns (Err (ends.Refused refused)) = new ≡ asks_where caller (answer.Refused refused) old
SaysWhere caller old new turns (Err ends.Turns) = (new ≡ old) × (turns ≡ 0)
SaysWhere caller old new turns (Err ends.Worn) = new ≡ old
SaysWhere caller old new turns (Err ends.OddAnswer) = (given : Answer) × (new ≡ asks_where caller given old) × (says_where given ≡ false)
SaysWhere caller old new turns (Err _) = ⊥

-- each turn that is gone was an ask, where asking went on or used up the turns
abbrev pub Asks : {T : Type 0} → ℕ → ℕ → ℕ → ℕ → Result T FollowEnd → Type 0
Asks turns asks turns_now asks_now (Ok _) = (turns_now ≤ turns) × (turns_now + asks_now ≡ turns + asks)
Asks turns asks turns_now asks_now (Err ends.Turns) = turns_now + asks_now ≡ turns + asks
Asks turns asks turns_now asks_now (Err _) = Unit {0}

-- what became of the request: it was written, or a front of it that is not all, or nothing
abbrev pub EndsRequest : {T : Type 0} → List ℕ → Option (List ℕ) → Option (List ℕ) → ℕ → ℕ → ℕ → Result T SessionEnd → Type 0
EndsRequest text old new before now turns (Ok _) = Appends old new text × (now ≡ before)
EndsRequest text old new before now turns (Err session.WriteFault) = AppendsPart old new text × Rose before now
EndsRequest text old new before now turns (Err session.Turns) = AppendsPart old new text × (turns ≡ 0) × (now ≡ before)
EndsRequest text old new before now turns (Err session.NoMemory) = Keeps old new × (now ≡ before)
EndsRequest text old new before now turns (Err _) = ⊥

-- the end where the request was not written
abbrev pub unsent_by : SessionEnd → FollowEnd
unsent_by session.WriteFault = ends.WriteFault
unsent_by session.Turns = ends.Turns
unsent_by _ = ends.NoMemory

-- the request was not written whole
pub record IsUnsent (text : List ℕ) (old new : Option (List ℕ)) (before now turns : ℕ) (end : FollowEnd) : Type 0 where
  pub why : SessionEnd
  pub cause : EndsRequest {T = Unit {0}} text old new before now turns (Err why)
  pub is : end ≡ unsent_by why

-- a head of another status than 200 was read of a text, and perhaps more
pub record IsDeclined (status : ℕ) (text left : Option (List ℕ)) : Type 0 where
  pub head : List ℕ
  pub ahead : List ℕ
  pub is : IsHead status head
  pub other : status ≡ 200 → ⊥
  pub read : Consumes text left (head ++ ahead)

-- the head of the reply could not be read
pub record IsHeadUnread (text left : Option (List ℕ)) (before now turns : ℕ) (end : FollowEnd) : Type 0 where
  pub why : Unread
  pub cause : LeavesUnread {T = Unit {0}} true IsHeadPart NeverTakesResponse text left before now turns (Err why)
  pub is : end ≡ end_of why

-- the reply is no stream: its head could not be read, or has another status; or memory ran out
pub data EndsReply (text left : Option (List ℕ)) (before now turns : ℕ) (end : FollowEnd) : Type 0 where
  reading : IsHeadUnread text left before now turns end → EndsReply text left before now turns end
  declined : (status : ℕ) → IsDeclined status text left → end ≡ ends.Status status → now ≡ before → EndsReply text left before now turns end
  no_memory : IsReadOn text left → end ≡ ends.NoMemory → now ≡ before → EndsReply text left before now turns end

-- why no more frames were followed, behind this place: none could be read, or the next one ended it
pub data StopsAt (who : Asker) (name : List ℕ) (place : Place NodeEntry) (before : ℕ) (new : Stand NodeEntry) (turns : ℕ) (end : FollowEnd) : Type 0 where
  between : (why : Unread) → LeavesUnread {T = Unit {0}} true (IsFramePart frame_limit) (IsBrokenFrame frame_limit) place.text new.place.text before new.faults turns (Err why)
      → end ≡ end_of why → IsStill place new.place → StopsAt who name place before new turns end
  at_frame : (text ahead : List ℕ) → IsFrame frame_limit text → Consumes place.text new.place.text (text ++ ahead)
      → EndsFrame {T = Unit {0}} who name text place.entries new.place.entries turns (Err end) → Keeps place.taken new.place.taken → new.faults ≡ before
      → StopsAt who name place before new turns end

-- one more frame was read and followed
pub record IsNext (who : Asker) (name : List ℕ) (old new : Place NodeEntry) : Type 0 where
  pub text : List ℕ
  pub frame : IsFrame frame_limit text
  pub read : Consumes old.text new.text text
  pub done : IsDone who name text old.entries new.entries
  pub written : Keeps old.taken new.taken

-- frames were followed, each before the next was read, up to a place, where it ended so
pub record EndsFrames (who : Asker) (name : List ℕ) (old new : Stand NodeEntry) (turns : ℕ) (end : FollowEnd) : Type 0 where
  pub place : Place NodeEntry
  pub talked : Talked (IsRound who name) old.place place
  pub stops : StopsAt who name place old.faults new turns end

-- a head of this status was read of a text
pub record HasReadHead (status : ℕ) (text left : Option (List ℕ)) : Type 0 where
  pub head : List ℕ
  pub is : IsHead status head
  pub read : Consumes text left head

-- the reply to the request: it is no stream; or frames were followed behind its head
pub data EndsAnswer (who : Asker) (name : List ℕ) (old new : Stand NodeEntry) (turns : ℕ) (end : FollowEnd) : Type 0 where
  no_stream : EndsReply old.place.text new.place.text old.faults new.faults turns end → IsStill old.place new.place → EndsAnswer who name old new turns end
  stream : (start : Stand NodeEntry) → HasReadHead 200 old.place.text start.place.text → IsStill old.place start.place → start.faults ≡ old.faults
      → EndsFrames who name start new turns end → EndsAnswer who name old new turns end

-- how far it came: the node did not say where it stands, and nothing was read or written; or the request for the stream from there on
-- was not written whole; or it was, and this became of its reply
pub data Ends (who : Asker) (name : List ℕ) (unknown : Bool) (old new : Stand NodeEntry) (turns : ℕ) (end : FollowEnd) : Type 0 where
  unplaced : SaysWhere who.caller old.place.entries new.place.entries turns (Err end) → Keeps old.place.taken new.place.taken → Keeps old.place.text new.place.text
      → new.faults ≡ old.faults → Ends who name unknown old new turns end
  unsent : (here : Whereabouts) → new.place.entries ≡ asks_where who.caller (answer.At here) old.place.entries
      → IsUnsent (request_for name here.pos (said unknown here.last)) old.place.taken new.place.taken old.faults new.faults turns end → Keeps old.place.text new.place.text
      → Ends who name unknown old new turns end
  answered : (here : Whereabouts) (sent : Stand NodeEntry) → sent.place.entries ≡ asks_where who.caller (answer.At here) old.place.entries
      → Appends old.place.taken sent.place.taken (request_for name here.pos (said unknown here.last)) → Keeps old.place.text sent.place.text → sent.faults ≡ old.faults
      → EndsAnswer who name sent new turns end → Ends who name unknown old new turns end

-- each turn that is gone was a call of the link that moved bytes, or an ask, where it went on or used up the turns
abbrev pub Uses : {T : Type 0} → ℕ → Stand NodeEntry → ℕ → Stand NodeEntry → Result T FollowEnd → Type 0
Uses turns old turns_now new (Ok _) = (turns_now ≤ turns) × Spent turns old turns_now new
Uses turns old turns_now new (Err ends.Turns) = Spent turns old turns_now new
Uses turns old turns_now new (Err _) = Unit {0}

-- FOLLOWING the stream of this database, with so many turns, by a follower whose position is unknown or not
pub record Follows (who : Asker) (name : List ℕ) (unknown : Bool) (budget : ℕ) (old new : Stand NodeEntry) (end : FollowEnd) : Type 0 where
  pub left : ℕ
  pub ends : Ends who name unknown old new left end
  pub spent : Uses {T = Unit {0}} budget old left new (Err end)
