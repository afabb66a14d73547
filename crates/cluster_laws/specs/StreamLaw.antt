-- TWO NODES ON A LINK: what the one asks of itself was sent by the other.
--
-- The one serves a stream (stream_primary `Streams`) and the other follows it (replica_apply `Follows`). The link gives the follower
-- what the stream wrote, or a front of it. So the premise that a delivery was sent (`WasSent`) is a theorem of these two.
use Rattle.std.specs.Prelude.{◌≡◌, ℕ, ◌<◌, ◌^◌, Bool, true, List, [], ◌∷◌, ◌++◌, length, Contains, Option, Some}
use Rattle.std.specs.List.{flat_map, AllByRecursion}
use Rattle.lf_base.specs.Name.{IsName}
use Rattle.lf_base.specs.declared.pos.Pos.{Pos}
use Rattle.lf_base.specs.declared.session_end.SessionEnd.{SessionEnd}
use Rattle.ltx_codec.specs.declared.file.Ltx.{Ltx}
use Rattle.turn_desk.specs.History.{StartsWith}
use Rattle.link_session.specs.Stands.{Asker, Stand}
use Rattle.world_laws.specs.declared.last_file.LastFile.{LastFile}
use Rattle.world_laws.specs.Node as laws
use Rattle.world_laws.specs.Premises.{WasSent}
use Rattle.world_laws.specs.World.{SentFrame, World, sent_by}
use Rattle.node_core.specs.declared.whereabouts.Whereabouts.{Whereabouts}
use Rattle.node_core.specs.declared.answer.Answer.{Answer}
use Rattle.node_core.specs.declared.answer.Answer.TheVariants as answer
use Rattle.node_core.specs.declared.ask.Ask.{Ask}
use Rattle.node_core.specs.declared.ask.Ask.TheVariants as ask
use Rattle.node_core.specs.Moments.{ask_at}
use Rattle.node_core.specs.Safely.{IsAskOf, law_answer}
use Rattle.stream_primary.specs.Streaming.{NodeEntry, Streams}
use Rattle.stream_primary.specs.Telling.{file_of}
use Rattle.replica_apply.specs.declared.follow_end.FollowEnd.{FollowEnd}
use Rattle.replica_apply.specs.Asking.{is_held}
use Rattle.replica_apply.specs.Following.{Follows}

-- THE LINK, from what the stream had written before and behind it to what the follower had to read: it was new; and it gave what it
-- took, or a front of that. As every text of the program, what it took has fewer than 2^64 bytes
pub record Carries (before behind heard : Option (List ℕ)) : Type 0 where
  pub sent : List ℕ
  pub got : List ℕ
  pub new : before ≡ Some []
  pub took : behind ≡ Some sent
  pub gave : heard ≡ Some got
  pub front : StartsWith sent got
  pub short : length sent < 2 ^ 64

-- and so has each file that was told
abbrev pub AreShort : List NodeEntry → Type 0
AreShort entries = AllByRecursion (λ one. length (file_of one.answer) < 2 ^ 64) entries

-- a Hello
abbrev pub IsHelloAsk : NodeEntry → Type 0
IsHelloAsk one = (now : ℕ) × (pos : Pos) × (last : Option LastFile) × (one.ask ≡ ask.Hello now pos last)

-- what an answer to a Hello sends, as a follower asks it of its node: a file, or a drop
abbrev pub asks_of : Answer → List Ask
asks_of (answer.Item ltx after) = ask.Frame 0 ltx ∷ []
asks_of answer.Gone = ask.Drop 0 ∷ []
asks_of _ = []

abbrev pub sent_asks : List NodeEntry → List Ask
sent_asks hellos = flat_map (λ one. asks_of one.answer) hellos

-- these are asked, each at some moment, and again while a lock holds it back, in their order, and perhaps not to the last
pub data AsksInOrder : List Ask → List NodeEntry → Type 0 where
  no_more : {asks : List Ask} → AsksInOrder asks []
  again : {one : Ask} {asks : List Ask} {here : NodeEntry} {more : List NodeEntry} (now : ℕ) → here.ask ≡ ask_at now one → is_held here.answer ≡ true
      → AsksInOrder (one ∷ asks) more → AsksInOrder (one ∷ asks) (here ∷ more)
  next : {one : Ask} {asks : List Ask} {here : NodeEntry} {more : List NodeEntry} (now : ℕ) → here.ask ≡ ask_at now one
      → AsksInOrder asks more → AsksInOrder (one ∷ asks) (here ∷ more)

-- each of these entries asks, as an ask of the laws that it is, what was sent in this run
abbrev pub WereSent : World → Option Ltx → List NodeEntry → Type 0
WereSent w waits entries = AllByRecursion (λ one. (law : laws.Ask) × IsAskOf one.ask law × WasSent w waits law) entries

-- what an entry sent, as an ask of the laws that it is, is in the ledger
abbrev pub IsInLedger : World → NodeEntry → Type 0
IsInLedger w one = (law : laws.Ask) → IsAskOf one.ask law → (frame : SentFrame) → Contains (sent_by law (law_answer one.answer)) frame → Contains w.sent frame

-- all that these Hellos sent is
abbrev pub HasSent : World → List NodeEntry → Type 0
HasSent w hellos = AllByRecursion (IsInLedger w) hellos

-- THE FOLLOWER ASKS WHAT WAS SENT. Behind the question where its node stands it asks just the files and the drops that the stream's
-- Hellos sent, in their order. So in a cluster whose ledger has these, each was sent
pub record AsksWhatWasSent (stream_old stream_new old new : List NodeEntry) : Type 0 where
  pub hellos : List NodeEntry
  pub told : stream_new ≡ stream_old ++ hellos
  pub each : AllByRecursion IsHelloAsk hellos
  pub place : List NodeEntry
  pub asks_where : AllByRecursion (λ one. one.ask ≡ ask.Where) place
  pub asked : List NodeEntry
  pub entries : new ≡ old ++ (place ++ asked)
  pub in_order : AsksInOrder (sent_asks hellos) asked
  pub were_sent : (w : World) (waits : Option Ltx) → HasSent w hellos → WereSent w waits asked

-- for every stream, and every follower at the other end of its link
abbrev pub FollowersAskWhatWasSent : Type 0
FollowersAskWhatWasSent = (who other : Asker) (name here : List ℕ) (from : Whereabouts) (unknown : Bool) (budget turns : ℕ)
    (stream_old stream_new old new : Stand NodeEntry) (end : SessionEnd) (how : FollowEnd)
    → IsName name → IsName here → Streams who name from stream_old stream_new turns end → Follows other here unknown budget old new how
    → Carries stream_old.place.taken stream_new.place.taken old.place.text → AreShort stream_new.place.entries
    → AsksWhatWasSent stream_old.place.entries stream_new.place.entries old.place.entries new.place.entries
