-- A session of the proxy: one request of one link.
use Rattle.std.specs.Prelude.{◌≡◌, ℕ, Bool, true, false, List, [], ◌∷◌, ◌++◌, Option, Some, None, Result, Ok, Err, IfSome}
use Rattle.std.specs.Io.KnownBytes.{Keeps}
use Rattle.lf_base.specs.Dials.{Dial}
use Rattle.lf_base.specs.declared.link.Link.{Ghosts as LinkGhosts}
use Rattle.lf_base.specs.declared.session_end.SessionEnd.{SessionEnd}
use Rattle.lf_base.specs.declared.session_end.SessionEnd.TheVariants as ends
use Rattle.link_session.specs.declared.unread.Unread.{Unread}
use Rattle.link_session.specs.declared.unread.Unread.TheVariants as unread
use Rattle.link_session.specs.Spending.{MovesFor}
use Rattle.link_session.specs.Stands.{Asker, IsStill, Spends, Spent, Stand, stand}
use Rattle.link_session.specs.Unread.{LeavesUnread, end_of}
use Rattle.turn_desk.specs.History.{entry}
use Rattle.http_exchange.specs.declared.told.Untold.{Untold}
use Rattle.http_exchange.specs.declared.told.Untold.TheVariants as untold
use Rattle.http_exchange.specs.Exchange.{FaultsBy}
use Rattle.http_exchange.specs.Writing.{reply}
use Rattle.node_core.specs.declared.answer.Answer.{Answer}
use Rattle.node_core.specs.declared.answer.Answer.TheVariants as answers
use Rattle.node_core.specs.declared.ask.Ask.TheVariants as asks
use Rattle.node_core.specs.declared.whereabouts.Whereabouts.{Whereabouts}
use Rattle.txid_proxy.specs.declared.denial.Denial.{Denial}
use Rattle.txid_proxy.specs.declared.wish.Wish.{Wish}
use Rattle.txid_proxy.specs.Asking.{AsksOwn, EndsAsks, FindsHost, NodeEntry}
use Rattle.txid_proxy.specs.Dialing.{PassesOnce}
use Rattle.txid_proxy.specs.Leave.{Grants}
use Rattle.txid_proxy.specs.Passing.{IsMarked, passed}
use Rattle.txid_proxy.specs.Replies.{denial_reply, EndsReply}
use Rattle.txid_proxy.specs.Requests.{BeginsNone, IsPart, Request, WasRead, WasTooLong}
use Rattle.txid_proxy.specs.Wishes.{IsWish}

-- where a session stands: on the client's link, with the asks of the node; and what the dialer tells of its dials, with its count of faults
pub record Post : Type 0 where
  pub client : Stand NodeEntry
  pub dials : Option (List Dial)
  pub faults : ℕ

abbrev pub post : {L : Type 0} → LinkGhosts L → L → List NodeEntry → Option (List Dial) → ℕ → Post
post l link entries dials faults = record { client = stand l link entries; dials = dials; faults = faults }

-- the same, with these asks
abbrev pub asked_on : Post → List NodeEntry → Post
asked_on p entries = record p { client = record p.client { place = record p.client.place { entries = entries } } }

-- nothing was dialed
pub record IsUndialed (old new : Post) : Type 0 where
  pub dials : new.dials ≡ old.dials
  pub faults : new.faults ≡ old.faults

-- nothing was written to the client
pub record IsSilent (old new : Post) : Type 0 where
  pub written : Keeps old.client.place.taken new.client.place.taken
  pub count : new.client.faults ≡ old.client.faults

-- this text was written to the client, which ends the session, or the part of it that was
abbrev pub Says : List ℕ → Post → Post → ℕ → SessionEnd → Type 0
Says text old new turns end = EndsReply text old.client.place.taken new.client.place.taken old.client.faults new.client.faults turns end

-- the same of a reply that is marked with this transaction
abbrev pub SaysMarked : List ℕ → ℕ → Post → Post → ℕ → SessionEnd → Type 0
SaysMarked came txid old new turns end = (text : List ℕ) × IsMarked came txid text × Says text old new turns end

-- an answer that doesn't say where the node stands
abbrev pub IsNowhere : Answer → Type 0
IsNowhere answer = (here : Whereabouts) → answer ≡ answers.At here → ⊥

-- A WRITE'S REPLY comes back marked with the transaction at which the node stands, asked behind the reply; as it is, where the node doesn't say;
-- or nothing does, since the node was not asked
pub data Marks (caller : ℕ) (came : List ℕ) (old new : Post) (turns : ℕ) (end : SessionEnd) : Type 0 where
  marked : (answer : Answer) (here : Whereabouts) → new.client.place.entries ≡ old.client.place.entries ++ entry caller asks.Where answer ∷ [] → answer ≡ answers.At here
      → SaysMarked came here.pos.txid old new turns end → Marks caller came old new turns end
  unmarked : (answer : Answer) → new.client.place.entries ≡ old.client.place.entries ++ entry caller asks.Where answer ∷ [] → IsNowhere answer
      → Says came old new turns end → Marks caller came old new turns end
  never_asked : new.client.place.entries ≡ old.client.place.entries → IsSilent old new → EndsAsks {T = Unit {0}} turns (Err end) → Marks caller came old new turns end

-- a read's reply comes back as it is
pub record ComesBack (came : List ℕ) (old new : Post) (turns : ℕ) (end : SessionEnd) : Type 0 where
  pub unasked : new.client.place.entries ≡ old.client.place.entries
  pub says : Says came old new turns end

-- by whether the request only reads
abbrev pub ReturnsReply : Bool → ℕ → List ℕ → Post → Post → ℕ → SessionEnd → Type 0
ReturnsReply true caller came old new turns end = ComesBack came old new turns end
ReturnsReply false caller came old new turns end = Marks caller came old new turns end

-- the turns ran out at the target's link, or memory did: nothing comes back
pub record IsCutOff (turns : ℕ) (end cause : SessionEnd) (old new : Post) : Type 0 where
  pub end_is : end ≡ cause
  pub unasked : new.client.place.entries ≡ old.client.place.entries
  pub silent : IsSilent old new

-- WHAT COMES BACK of a request that was passed on so: the target's reply; 502 where it was not reached, or failed, or what it wrote is no reply, or too long
abbrev pub Returns : Bool → ℕ → Result (List ℕ) Untold → Post → Post → ℕ → SessionEnd → Type 0
Returns reads caller (Ok came) old new turns end = ReturnsReply reads caller came old new turns end
Returns reads caller (Err untold.Turns) old new turns end = IsCutOff turns end ends.Turns old new × (turns ≡ 0)
Returns reads caller (Err untold.NoMemory) old new turns end = IsCutOff turns end ends.NoMemory old new
Returns reads caller (Err _) old new turns end = ComesBack (reply 502 []) old new turns end

-- the denial of a request was told, with the primary's host where it was found; or looking for it came to no end
pub data Denies (who : Asker) (why : Denial) (budget : ℕ) (old new : Post) (turns : ℕ) (end : SessionEnd) : Type 0 where
  told : (host : Option (List ℕ)) → FindsHost who old.client.place.entries new.client.place.entries host → Says (denial_reply why host) old new turns end
      → Spends {T = Unit {0}} budget old.client turns new.client (Err end) → Denies who why budget old new turns end
  unfound : AsksOwn who.caller old.client.place.entries new.client.place.entries → IsSilent old new → EndsAsks {T = Unit {0}} turns (Err end)
      → Spends {T = Unit {0}} budget old.client turns new.client (Err end) → Denies who why budget old new turns end

-- a request was passed on by one dial, and the target's reply came back; or memory ran out before
pub data PassesOn (caller : ℕ) (reads : Bool) (tell : Type 0) (text : List ℕ) (old new : Post) (turns : ℕ) (end : SessionEnd) : Type 0 where
  dialed : (result : Result (List ℕ) Untold) → PassesOnce text tell old.dials new.dials result → FaultsBy old.faults new.faults result
      → Returns reads caller result old new turns end → PassesOn caller reads tell text old new turns end
  no_memory : end ≡ ends.NoMemory → new.client.place.entries ≡ old.client.place.entries → IsSilent old new → IsUndialed old new
      → PassesOn caller reads tell text old new turns end

-- HOW A REQUEST GOES. It is denied, and the primary's host told where it is found; or the asks came to no end, and nothing was written; or it was
-- passed on by one dial, exactly as it is passed, and the target's reply came back
pub data Serves (who : Asker) (tell : Type 0) (request : Request) (budget : ℕ) (old new : Post) (turns : ℕ) (end : SessionEnd) : Type 0 where
  denied : (wish : Wish) (why : Denial) (mid : List NodeEntry) (host : Option (List ℕ)) → IsWish request.head wish
      → Grants who wish old.client.place.entries mid (Some why)
      → FindsHost who mid new.client.place.entries host → Says (denial_reply why host) old new turns end → IsUndialed old new
      → Spends {T = Unit {0}} budget old.client turns new.client (Err end) → Serves who tell request budget old new turns end
  stopped : AsksOwn who.caller old.client.place.entries new.client.place.entries → IsSilent old new → IsUndialed old new → EndsAsks {T = Unit {0}} turns (Err end)
      → Spends {T = Unit {0}} budget old.client turns new.client (Err end) → Serves who tell request budget old new turns end
  passed_on : (wish : Wish) (mid : List NodeEntry) → IsWish request.head wish → Grants who wish old.client.place.entries mid None
      → PassesOn who.caller wish.reads tell (passed request.head request.body) (asked_on old mid) new turns end → Serves who tell request budget old new turns end

-- the client's link was read, and nothing else done
pub record HasRead (budget : ℕ) (old new : Post) (turns : ℕ) : Type 0 where
  pub still : IsStill old.client.place new.client.place
  pub count : new.client.faults ≡ old.client.faults
  pub undialed : IsUndialed old new
  pub spent : Spent budget old.client turns new.client

-- this text is the reply, and nothing else was done
pub record AnswersAtOnce (text : List ℕ) (budget : ℕ) (old new : Post) (turns : ℕ) (end : SessionEnd) : Type 0 where
  pub says : Says text old new turns end
  pub unasked : new.client.place.entries ≡ old.client.place.entries
  pub undialed : IsUndialed old new
  pub spent : Spends {T = Unit {0}} budget old.client turns new.client (Err end)

-- no request was read, and nothing was done but that
pub record ReadsNone (why : Unread) (budget : ℕ) (old new : Post) (turns : ℕ) : Type 0 where
  pub cause : LeavesUnread {T = Unit {0}} true IsPart BeginsNone old.client.place.text new.client.place.text old.client.faults new.client.faults turns (Err why)
  pub still : IsStill old.client.place new.client.place
  pub undialed : IsUndialed old new
  pub spent : Spends {T = Unit {0}} budget old.client turns new.client (Err (end_of why))

-- how a session ends of which no request was read: with 400 where the input begins none, else at once
abbrev pub EndsUnread : {L : Type 0} → LinkGhosts L → Unread → L → L → ℕ → ℕ → SessionEnd → Type 0
EndsUnread l unread.Broken old new turns turns_now end =
    EndsReply (reply 400 []) (l.taken old) (l.taken new) (l.faults old) (l.faults new) turns_now end × MovesFor {T = Unit {0}} (Err end) turns (l.moves old) turns_now
    (l.moves new)
EndsUnread l why old new turns turns_now end = (end ≡ end_of why) × (new ≡ old) × (turns_now ≡ turns)

-- WHAT BECAME OF A SESSION. No request came, and nothing was done; or 400, since the input begins none; or 413, since its body is too long; or one was
-- read, and it went so
pub data Ends (who : Asker) (tell : Type 0) (budget : ℕ) (old new : Post) (turns : ℕ) (end : SessionEnd) : Type 0 where
  no_request : (why : Unread) → (why ≡ unread.Broken → ⊥) → ReadsNone why budget old new turns → end ≡ end_of why → Ends who tell budget old new turns end
  refused : (between : Post) (left : ℕ) → IfSome old.client.place.text BeginsNone → HasRead budget old between left
      → AnswersAtOnce (reply 400 []) left between new turns end
      → Ends who tell budget old new turns end
  too_long : (between : Post) (left : ℕ) → WasTooLong old.client.place.text between.client.place.text → HasRead budget old between left
      → AnswersAtOnce (reply 413 []) left between new turns end → Ends who tell budget old new turns end
  served : (request : Request) (between : Post) (left : ℕ) → WasRead old.client.place.text between.client.place.text request → HasRead budget old between left
      → Serves who tell request left between new turns end → Ends who tell budget old new turns end

-- A SESSION with so many turns
pub record IsSession (who : Asker) (tell : Type 0) (budget : ℕ) (old new : Post) (end : SessionEnd) : Type 0 where
  pub left : ℕ
  pub ends : Ends who tell budget old new left end
