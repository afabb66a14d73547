-- Forwarded commits of a cluster's nodes, by the laws.
use Rattle.std.proofs.Common.{◌≡◌, ◌≢◌, ℕ, Bool, true, subst}
use Rattle.world_laws.specs.Events.{Turns}
use Rattle.world_laws.specs.ForwardLaw.{ForwardedStands, RefusalLeaves, SendLeaves}
use Rattle.world_laws.specs.Node as laws
use Rattle.world_laws.specs.Step.{StepFacts}
use Rattle.world_laws.specs.World.{World}
use Rattle.node_core.specs.declared.answer.Answer.{Answer}
use Rattle.node_core.specs.declared.ask.Ask.{Ask}
use Rattle.node_core.specs.Safely.{law_answer}
use Rattle.cluster_laws.specs.Cluster.{Cluster, Program, TakesStep, world}
use Rattle.cluster_laws.specs.Forwarding.{FailingLeaves, ForwardedIsOnce, SendingLeaves}
use Rattle.cluster_laws.proofs.Clusters.{moves-run, step-turns}

module _ {M : Type 0} (p : Program M) where
  abbrev world_of : Cluster p → World
  world_of c = world p c

  -- such a step is the turn that the law speaks of
  done-turn : (d e : Cluster p) (k caller : ℕ) (ask : Ask) (answer : Answer) → (taken : TakesStep p d k caller ask answer e) → taken.law ≡ laws.Forwarded true → law_answer answer ≡ laws.Done →
      Turns (world_of d) k (laws.Forwarded true) laws.Done (world_of e)
  done-turn d e k caller ask answer taken asks done =
      let asked : Turns (world_of d) k (laws.Forwarded true) (law_answer answer) (world_of e) =
      subst (λ (a : laws.Ask). Turns (world_of d) k a (law_answer answer) (world_of e)) asks (step-turns p d e k caller ask answer taken) in
      subst (λ (a : laws.Answer). Turns (world_of d) k (laws.Forwarded true) a (world_of e)) done asked

  pub forwarded-is-once : ForwardedStands → ForwardedIsOnce p
  forwarded-is-once law c d e k caller ask answer start moves taken asks done one =
      let run = moves-run p moves in
      law (world_of c) (world_of d) (world_of e) run.0 k start run.1 (done-turn d e k caller ask answer taken asks done) one

  pub sending-leaves : SendLeaves → SendingLeaves p
  sending-leaves law old new caller ask answer file disk step is sent =
      law (p.seen old) (p.seen new) file (subst (λ (a : laws.Answer). StepFacts (p.seen old) laws.File a (p.seen new)) sent (p.tells step disk laws.File is).facts)

  pub failing-leaves : RefusalLeaves → FailingLeaves p
  failing-leaves law old new caller ask answer ok disk step is other =
      law (p.seen old) (p.seen new) ok (law_answer answer) (p.tells step disk (laws.Forwarded ok) is).facts other
