-- THE STEPS OF A NODE, one row for each ask.
use Rattle.std.specs.Prelude.{◌≡◌, ℕ, Bool, true, false, ◌||◌, IsTrue, Option, max}
use Rattle.lf_base.specs.declared.errno.Errno.{Errno}
use Rattle.lf_disk.specs.History.{History}
use Rattle.fuse_msgs.specs.declared.request.Request.{Request}
use Rattle.file_view.specs.Endings.{ended}
use Rattle.file_view.specs.Errno.{EAGAIN}
use Rattle.lease_core.specs.Belief.{LeaseBelief}
use Rattle.world_laws.specs.Node as laws
use Rattle.node_core.specs.declared.answer.Answer.{Answer}
use Rattle.node_core.specs.declared.answer.Answer.TheVariants as answers
use Rattle.node_core.specs.declared.ask.Ask.{Ask}
use Rattle.node_core.specs.declared.ask.Ask.TheVariants as asks
use Rattle.node_core.specs.Dropping.{AnswersDrop, IsUntouched}
use Rattle.node_core.specs.Exporting.{AnswersExport}
use Rattle.node_core.specs.Forwarding.{AnswersForward}
use Rattle.node_core.specs.Framing.{AnswersFrame}
use Rattle.node_core.specs.Hello.{AnswersHello}
use Rattle.node_core.specs.HoldingBack.{is_kept_out, noted}
use Rattle.node_core.specs.Importing.{AnswersImport}
use Rattle.node_core.specs.Leasing.{AnswersLease, believes}
use Rattle.node_core.specs.Locking.{is_barred}
use Rattle.node_core.specs.Nodes.{NodeParts, at_moment, role_in, seen}
use Rattle.node_core.specs.Permitting.{AnswersHaltAsk, AnswersHaltBack, GetsPermit, LosesPermit}
use Rattle.node_core.specs.Pruning.{AnswersPrune}
use Rattle.node_core.specs.Replying.{AnswersForwarded, without_session}
use Rattle.node_core.specs.Roles.{law_role}
use Rattle.node_core.specs.Safely.{IsAskOf, StepsSafely, law_answer}
use Rattle.node_core.specs.Serving.{ServesFiles}
use Rattle.node_core.specs.Stores.{OnlyRead}
use Rattle.node_core.specs.Telling.{AnswersInfo}
use Rattle.node_core.specs.Unlinking.{UnlinksDatabase, unlinks_database}
use Rattle.node_core.specs.Watching.{AnswersWatch}
use Rattle.node_core.specs.Where.{TellsPosition}

-- a request of the files: who is kept out at a replica, and who asks for a writer's lock while a permit is out, is refused, before the
-- files' own rules
abbrev pub AnswersServed : Bool → History → NodeParts → ℕ → Request → Answer → History → NodeParts → Option Errno → Type 0
AnswersServed true start old caller request answer end new said = (answer ≡ answers.Refuse EAGAIN) × IsUntouched start old end new
AnswersServed false start old caller request answer end new said = ServesFiles start old caller request answer end new said

-- a request: UNLINK of the database file is answered by the node itself
abbrev pub AnswersFile : Bool → History → NodeParts → ℕ → Request → Answer → History → NodeParts → Option Errno → Type 0
AnswersFile true start old caller request answer end new said = UnlinksDatabase start old answer end new said
AnswersFile false start old caller request answer end new said = AnswersServed (is_kept_out old caller request || is_barred old request) start old caller request answer end new said

-- a frame or a drop: it is answered so, and then what the answer says of frames that are held back is noted. Nothing that the cluster
-- sees looks at that (`seen`), so the step tells what the answer tells
pub record AnswersNoted (Answers : NodeParts → Type 0) (answer : Answer) (new : NodeParts) : Type 0 where
  pub between : NodeParts
  pub answers : Answers between
  pub noted : new ≡ noted answer between

-- the served files of a node where a session ends
abbrev pub ended_in : ℕ → NodeParts → NodeParts
ended_in caller n = record n { files = ended n.files caller }

-- a session's end takes its handles and its locks, and what goes with these. What was sent of it is given up first
pub record EndsSession (start : History) (old : NodeParts) (caller : ℕ) (answer : Answer) (end : History) (new : NodeParts) : Type 0 where
  pub quiet : answer ≡ answers.Quiet
  pub files : new ≡ ended_in caller (without_session caller old)
  pub rests : OnlyRead start end

-- what each ask does, over any disk, where the system said this at the disk's call that failed last
abbrev pub Does : History → NodeParts → ℕ → Ask → Answer → History → NodeParts → Option Errno → Type 0
Does start old caller (asks.File now request) answer end new said = AnswersFile (unlinks_database old.config request) start (at_moment old now) caller request answer end new said
Does start old caller asks.EndSession answer end new said = EndsSession start old caller answer end new
Does start old caller asks.Where answer end new said = TellsPosition start old answer end new
Does start old caller (asks.Hello now from last) answer end new said = AnswersHello start (at_moment old now) from last answer end new
Does start old caller (asks.Frame now bytes) answer end new said = AnswersNoted (AnswersFrame start (at_moment old now) bytes answer end) answer new
Does start old caller (asks.Drop now) answer end new said = AnswersNoted (AnswersDrop start (at_moment old now) answer end) answer new
Does start old caller asks.Export answer end new said = AnswersExport start old answer end new
Does start old caller (asks.Import now bytes) answer end new said = AnswersImport start (at_moment old now) bytes answer end new
Does start old caller (asks.Prune keep) answer end new said = AnswersPrune start old keep answer end new
Does start old caller (asks.Info now) answer end new said = AnswersInfo start (at_moment old now) answer end new
Does start old caller (asks.Watch now from) answer end new said = AnswersWatch start (at_moment old now) from answer end new
Does start old caller (asks.Lease now news) answer end new said = AnswersLease start (at_moment old now) now news answer end new
Does start old caller (asks.HaltAsk now node) answer end new said = AnswersHaltAsk start (at_moment old now) answer end new
Does start old caller (asks.HaltBack now number) answer end new said = AnswersHaltBack start (at_moment old now) number answer end new
Does start old caller (asks.Forward now number bytes) answer end new said = AnswersForward start (at_moment old now) number bytes answer end new
Does start old caller (asks.HaltGot now pass) answer end new said = GetsPermit start (at_moment old now) pass answer end new
Does start old caller (asks.HaltLost number) answer end new said = LosesPermit start old number answer end new
Does start old caller (asks.Forwarded ok) answer end new said = AnswersForwarded old.sent ok start old answer end new said

-- the node at the moment of an ask, where one comes with it
abbrev pub at_ask : NodeParts → Ask → NodeParts
at_ask old (asks.File now request) = at_moment old now
at_ask old (asks.Hello now from last) = at_moment old now
at_ask old (asks.Frame now bytes) = at_moment old now
at_ask old (asks.Drop now) = at_moment old now
at_ask old (asks.Import now bytes) = at_moment old now
at_ask old (asks.Info now) = at_moment old now
at_ask old (asks.Watch now from) = at_moment old now
at_ask old (asks.Lease now news) = at_moment old now
at_ask old (asks.HaltAsk now node) = at_moment old now
at_ask old (asks.HaltBack now number) = at_moment old now
at_ask old (asks.Forward now number bytes) = at_moment old now
at_ask old (asks.HaltGot now pass) = at_moment old now
at_ask old ask = old

-- the greatest moment that a node was given, once it was asked
abbrev pub moment_by : Ask → ℕ → ℕ
moment_by (asks.File now request) moment = max moment now
moment_by (asks.Hello now from last) moment = max moment now
moment_by (asks.Frame now bytes) moment = max moment now
moment_by (asks.Drop now) moment = max moment now
moment_by (asks.Import now bytes) moment = max moment now
moment_by (asks.Info now) moment = max moment now
moment_by (asks.Watch now from) moment = max moment now
moment_by (asks.Lease now news) moment = max moment now
moment_by (asks.HaltAsk now node) moment = max moment now
moment_by (asks.HaltBack now number) moment = max moment now
moment_by (asks.Forward now number bytes) moment = max moment now
moment_by (asks.HaltGot now pass) moment = max moment now
moment_by ask moment = moment

-- what it believes of its lease then: only news change it
abbrev pub belief_by : Ask → LeaseBelief → LeaseBelief
belief_by (asks.Lease now news) belief = believes now news belief
belief_by ask belief = belief

-- ONE STEP: what it does; over an honest disk what it tells the cluster, as each ask of the laws that its ask is, and what a crash leaves
-- at each of its moments, in the role that the node has at its moment; and what it believes of its lease
pub record IsStep (start : History) (old : NodeParts) (caller : ℕ) (ask : Ask) (answer : Answer) (end : History) (new : NodeParts) (said : Option Errno) : Type 0 where
  pub does : Does start old caller ask answer end new said
  pub safe : IsTrue old.store.honest → (law : laws.Ask) → IsAskOf ask law → StepsSafely (seen start old) law (law_answer answer) (seen end new) start end
  pub role : (disk : IsTrue old.store.honest) (law : laws.Ask) (is : IsAskOf ask law) → (safe disk law is).facts.role ≡ law_role (role_in (at_ask old ask))
  pub lease : (new.standing.belief ≡ belief_by ask old.standing.belief) × (new.standing.moment ≡ moment_by ask old.standing.moment)
  pub honest : new.store.honest ≡ old.store.honest
