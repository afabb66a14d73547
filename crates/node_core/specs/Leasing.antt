-- LEASE: news of the node's own lease, and of who is primary.
use Rattle.std.specs.Prelude.{◌≡◌, ℕ, List}
use Rattle.lf_disk.specs.History.{History}
use Rattle.lease_core.specs.Belief.{LeaseBelief, asked_at, no_belief}
use Rattle.lease_core.specs.LeaseRun.{told_for}
use Rattle.world_laws.specs.Node as laws
use Rattle.world_laws.specs.Node.{NodeState}
use Rattle.node_core.specs.declared.answer.Answer.{Answer}
use Rattle.node_core.specs.declared.answer.Answer.TheVariants as answers
use Rattle.node_core.specs.declared.news.LeaseNews.{LeaseNews}
use Rattle.node_core.specs.declared.news.LeaseNews.TheVariants as news
use Rattle.node_core.specs.declared.refusal.Refusal.{Refusal}
use Rattle.node_core.specs.declared.refusal.Refusal.TheVariants as refusals
use Rattle.node_core.specs.Dropping.{IsUntouched}
use Rattle.node_core.specs.HoldingBack.{held_after}
use Rattle.node_core.specs.Nodes.{NodeParts, stands}
use Rattle.node_core.specs.Opening.{host_in}
use Rattle.node_core.specs.Safely.{StepsSafely}
use Rattle.node_core.specs.Stores.{OnlyRead}

-- what a node believes after news. It asked at the moment that comes with the ask, and not at its own, which may be a later one; what
-- it has not asked for it does not believe
abbrev pub believes : ℕ → LeaseNews → LeaseBelief → LeaseBelief
believes now news.Asked belief = asked_at now belief
believes now (news.Granted term ttl) belief = told_for ttl belief
believes now news.Lost belief = no_belief
believes now (news.Primary host) belief = belief

-- it believes this, and what has ended then ends
pub record Believes (start : History) (old : NodeParts) (belief : LeaseBelief) (answer : Answer) (end : History) (new : NodeParts) : Type 0 where
  pub quiet : answer ≡ answers.Quiet
  pub same : new ≡ stands (record old.standing { belief = belief }) old
  pub rests : OnlyRead start end

-- the host that `.primary` names where the node isn't primary itself; want of memory alone is a refusal
abbrev pub NamesPrimary : History → NodeParts → List ℕ → Answer → History → NodeParts → Type 0
NamesPrimary start old host answers.Quiet end new = (new ≡ record old { files = record old.files { host = host_in host } }) × OnlyRead start end
NamesPrimary start old host (answers.Refused refusals.NoMemory) end new = IsUntouched start old end new
NamesPrimary start old host answer end new = ⊥

-- what it answers, over the node as it is where the news leave this of frames that are held back
abbrev pub AnswersLease : History → NodeParts → ℕ → LeaseNews → Answer → History → NodeParts → Type 0
AnswersLease start old now (news.Primary host) answer end new = NamesPrimary start old host answer end new
AnswersLease start old now told answer end new = Believes start (record old { held = held_after told old.held }) (believes now told old.standing.belief) answer end new

-- a step in the role that the node had before it
abbrev pub StepsAs : NodeState → laws.Ask → laws.Answer → NodeState → History → History → Type 0
StepsAs old ask answer new start end = (safe : StepsSafely old ask answer new start end) × (safe.facts.role ≡ old.role)
