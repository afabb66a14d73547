-- What the node is asked for a request, and what it answers.
use Rattle.std.specs.Prelude.{◌≡◌, ℕ, ◌+◌, ◌≤◌, nat_lt, IsTrue, List, [], ◌∷◌, ◌++◌, length, codes, Option, Some, None, Result, Ok, Err}
use Rattle.std.specs.List.{AllByRecursion}
use Rattle.lf_base.specs.declared.session_end.SessionEnd.{SessionEnd}
use Rattle.lf_base.specs.declared.session_end.SessionEnd.TheVariants as ends
use Rattle.fuse_msgs.specs.declared.reply.Reply.TheVariants as replies
use Rattle.fuse_msgs.specs.declared.request.Op.{Op}
use Rattle.fuse_msgs.specs.declared.request.Op.TheVariants as ops
use Rattle.fuse_msgs.specs.declared.request.Request.{Request}
use Rattle.httparse.specs.Grammar.{AllPass, is_value_byte}
use Rattle.link_session.specs.Asking.{AskedInVain, AskedUntil, Manner}
use Rattle.link_session.specs.Stands.{Asker}
use Rattle.turn_desk.specs.declared.history.Entry.{Entry}
use Rattle.turn_desk.specs.History.{entry}
use Rattle.node_core.specs.declared.answer.Answer.{Answer}
use Rattle.node_core.specs.declared.answer.Answer.TheVariants as answers
use Rattle.node_core.specs.declared.ask.Ask.{Ask}
use Rattle.node_core.specs.declared.ask.Ask.TheVariants as asks
use Rattle.node_core.specs.Moments.{ask_at}
use Rattle.txid_proxy.specs.declared.waiting.Waited.{Waited}
use Rattle.txid_proxy.specs.declared.waiting.Waited.TheVariants as waited

abbrev pub NodeEntry : Type 0
NodeEntry = Entry Ask Answer

-- ---- a read

-- the transaction at which an answer says that the node stands: 0 where it says none
abbrev pub txid_told : Answer → ℕ
txid_told (answers.At here) = here.pos.txid
txid_told _ = 0

-- how often Where is asked at most
abbrev pub asks_max : ℕ
asks_max = 100

-- Where is asked again while the node stands below the floor
abbrev pub below : Asker → ℕ → Manner Ask Answer
below who floor = record { may = who.may; at_moment = ask_at; again = λ answer. nat_lt (txid_told answer) floor; caller = who.caller }

-- how a read waited: it was asked until an answer had the floor, or so often as is asked at most, and none had it
abbrev pub Waits : Asker → ℕ → List NodeEntry → List NodeEntry → Waited → Type 0
Waits who floor old new waited.Reached = (answer : Answer) × AskedUntil (below who floor) asks.Where old new answer × (length new ≤ length old + asks_max)
Waits who floor old new waited.Behind = AskedInVain (below who floor) asks.Where old new × (length new ≡ length old + asks_max)

-- ---- a request on the served files

abbrev pub file_request : ℕ → Op → Request
file_request node op = record { unique = 0; node = node; pid = 0; op = op }

-- it was asked, at a moment that the clock may give
pub record IsFileAsked (who : Asker) (node : ℕ) (op : Op) (old new : List NodeEntry) (answer : Answer) : Type 0 where
  pub now : ℕ
  pub given : IsTrue (who.may now)
  pub entries : new ≡ old ++ entry who.caller (asks.File now (file_request node op)) answer ∷ []

-- the database file would be cut to one byte, by nobody who has a lock: a node that takes writes refuses it as a wrong size
abbrev pub probe : Op
probe = ops.Setattr (Some 1) None

-- the node of the database file
abbrev pub database_node : ℕ
database_node = 2

-- ---- the primary's host

abbrev pub primary_name : List ℕ
primary_name = codes ".primary"

-- the bytes are a line that names a host
pub record IsHostLine (bytes host : List ℕ) : Type 0 where
  pub values : AllPass is_value_byte host
  pub line : bytes ≡ host ++ 10 ∷ []

-- what the answers to READ and RELEASE name
abbrev pub NamesHost : Answer → Answer → Option (List ℕ) → Type 0
NamesHost read released (Some host) = (bytes : List ℕ) × (read ≡ answers.Done (replies.Bytes bytes)) × (released ≡ answers.Done replies.Empty) × IsHostLine bytes host
NamesHost read released None = (bytes host : List ℕ) → read ≡ answers.Done (replies.Bytes bytes) → released ≡ answers.Done replies.Empty → IsHostLine bytes host → ⊥

-- READ and RELEASE were asked of this node and handle
pub record ReadsHost (who : Asker) (node fh : ℕ) (old new : List NodeEntry) (host : Option (List ℕ)) : Type 0 where
  pub mid : List NodeEntry
  pub read : Answer
  pub released : Answer
  pub reads : IsFileAsked who node (ops.Read fh 0 4096 None) old mid read
  pub releases : IsFileAsked who node (ops.Release fh 0) mid new released
  pub names : NamesHost read released host

-- the node that LOOKUP found, and the handle that OPEN gave
abbrev pub FindsNode : Answer → ℕ → Type 0
FindsNode answer node = (size : ℕ) × (answer ≡ answers.Done (replies.Entry node size))

abbrev pub FindsNoNode : Answer → Type 0
FindsNoNode answer = (node : ℕ) → FindsNode answer node → ⊥

abbrev pub GivesHandle : Answer → ℕ → Type 0
GivesHandle answer fh = answer ≡ answers.Done (replies.Opened fh)

abbrev pub GivesNoHandle : Answer → Type 0
GivesNoHandle answer = (fh : ℕ) → GivesHandle answer fh → ⊥

-- OPEN was asked of this node, and behind it the others
pub data OpensHost (who : Asker) (node : ℕ) (old new : List NodeEntry) (host : Option (List ℕ)) : Type 0 where
  unopened : (answer : Answer) → IsFileAsked who node ops.Open old new answer → GivesNoHandle answer → host ≡ None → OpensHost who node old new host
  opened : (answer : Answer) (fh : ℕ) (mid : List NodeEntry) → IsFileAsked who node ops.Open old mid answer → GivesHandle answer fh → ReadsHost who node fh mid new host
      → OpensHost who node old new host

-- THE PRIMARY'S HOST was looked for by LOOKUP, OPEN, READ and RELEASE: a refusal of one names none
pub data FindsHost (who : Asker) (old new : List NodeEntry) (host : Option (List ℕ)) : Type 0 where
  unknown : (answer : Answer) → IsFileAsked who 1 (ops.Lookup primary_name) old new answer → FindsNoNode answer → host ≡ None → FindsHost who old new host
  known : (answer : Answer) (node : ℕ) (mid : List NodeEntry) → IsFileAsked who 1 (ops.Lookup primary_name) old mid answer → FindsNode answer node
      → OpensHost who node mid new host → FindsHost who old new host

-- ---- asks that came to no end

-- asked for a request's sake: where the node stands, the probe, or one of the four requests for the host
abbrev pub IsOwnOp : ℕ → Op → Type 0
IsOwnOp node (ops.Lookup name) = name ≡ primary_name
IsOwnOp node ops.Open = Unit {0}
IsOwnOp node (ops.Read fh at size owner) = Unit {0}
IsOwnOp node (ops.Release fh owner) = Unit {0}
IsOwnOp node op = (node ≡ database_node) × (op ≡ probe)

abbrev pub IsOwnAsk : Ask → Type 0
IsOwnAsk asks.Where = Unit {0}
IsOwnAsk (asks.File now request) = IsOwnOp request.node request.op
IsOwnAsk asked = ⊥

-- only such were asked
pub record AsksOwn (caller : ℕ) (old new : List NodeEntry) : Type 0 where
  pub more : List NodeEntry
  pub own : AllByRecursion (λ one. (one.caller ≡ caller) × IsOwnAsk one.ask) more
  pub are : new ≡ old ++ more

-- why asks came to no end
abbrev pub EndsAsks : {T : Type 0} → ℕ → Result T SessionEnd → Type 0
EndsAsks turns (Ok _) = Unit {0}
EndsAsks turns (Err ends.Turns) = turns ≡ 0
EndsAsks turns (Err ends.Worn) = Unit {0}
EndsAsks turns (Err ends.NoMemory) = Unit {0}
EndsAsks turns (Err _) = ⊥
