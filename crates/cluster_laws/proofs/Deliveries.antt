-- A reader of a node, and deliveries to it, by the laws of the cluster.
use Rattle.std.proofs.Common.{◌≡◌, ◌⊎◌, ℕ, IsTrue, List, Option, inl, inr, sym, ap, subst, ◌∙◌}
use Rattle.std.specs.List.{concat}
use Rattle.byte_locks.specs.declared.owner.Owner.{Owner}
use Rattle.lf_sqlite_pages.specs.Change.{PageChange}
use Rattle.lf_sqlite_pages.specs.Image.{DatabaseImage, SameImage, image_bytes}
use Rattle.world_laws.specs.CatchUpLaw.{AnswersByWhole, DropInstalls, SentFileApplies, SnapshotInstalls}
use Rattle.world_laws.specs.Events.{Turns}
use Rattle.world_laws.specs.Node as laws
use Rattle.world_laws.specs.Node.{IsSoundNode}
use Rattle.world_laws.specs.ReaderLaw.{ReadRuns, ReaderSteady, reads}
use Rattle.world_laws.specs.ReaderLaw as reader
use Rattle.world_laws.specs.Served.{over}
use Rattle.world_laws.specs.World.{World}
use Rattle.node_core.specs.declared.answer.Answer.{Answer}
use Rattle.node_core.specs.declared.ask.Ask.{Ask}
use Rattle.cluster_laws.specs.Bytes.{GivesBytes}
use Rattle.cluster_laws.specs.Cluster.{Cluster, Program, world}
use Rattle.cluster_laws.specs.ClusterLaws.{DeliveredDropInstalls, DeliveredFileApplies, DeliveredSnapshotInstalls, Delivers, EachReadGives, ReaderIsSteady, ReadsOn, StepAnswersByWhole, goes_on, rests}
use Rattle.node_core.specs.Safely.{law_answer}
use Rattle.node_core.proofs.Deciding.{each-is-an-ask}
use Rattle.cluster_laws.proofs.Clusters.{step-turns}

waits-or : {A B C : Type 0} → A ⊎ B ⊎ C → (A ⊎ C) ⊎ B
waits-or (inl held) = inl (inl held)
waits-or (inr (inl applied)) = inr applied
waits-or (inr (inr refused)) = inl (inr refused)

module _ {M : Type 0} (p : Program M) where
  abbrev world_of : Cluster p → World
  world_of c = world p c

  module _ (stays : (old new : M) (caller : ℕ) (ask : Ask) (answer : Answer) → p.steps old caller ask answer new → p.honest new ≡ p.honest old) where
    reads-run : {owner : Owner} {old new : M} → IsTrue (p.honest old) → ReadsOn p owner old new → ReadRuns owner (p.seen old) (p.seen new)
    reads-run disk (rests is) = reads is
    reads-run disk (goes_on {n = n} {m = m} {caller = caller} {ask = ask} {answer = answer} is step rest) =
        let one = each-is-an-ask ask in
        reader.steps is (p.tells step disk one.0 one.1).facts (reads-run (stays n m caller ask answer step ∙ disk) rest)

    module _ (sound : (n : M) → IsTrue (p.honest n) → IsSoundNode (p.seen n)) (law : ReaderSteady)
        (gives : (old new : M) (caller : ℕ) (ask : Ask) (answer : Answer) → IsTrue (p.honest old) → (p.seen old).role ≡ laws.Replica → p.steps old caller ask answer new → GivesBytes (image_bytes (p.seen old).served.file) ask answer) where
      -- the file that the last node serves is that of each before it
      each-gives : {owner : Owner} {old new : M} → IsTrue (p.honest old) → (runs : ReadsOn p owner old new) → EachReadGives p (image_bytes (p.seen new).served.file) runs
      each-gives disk (rests is) = tt
      each-gives {owner = o} disk (goes_on {n = n} {m = m} {u = u} {caller = caller} {ask = ask} {answer = answer} is step rest) =
          let all : ReadsOn p o n u = goes_on {n = n} {m = m} {u = u} {caller = caller} {ask = ask} {answer = answer} is step rest in
          let steady = (law o (p.seen n) (p.seen u) (sound n disk) (reads-run disk all)).0 in (
            subst (λ (file : DatabaseImage). GivesBytes (image_bytes file) ask answer) (sym steady.file) (gives n m caller ask answer disk is.plain.role step),
            each-gives (stays n m caller ask answer step ∙ disk) rest,
          )

      pub reader-is-steady : ReaderIsSteady p
      reader-is-steady owner old new disk runs =
          let is = law owner (p.seen old) (p.seen new) (sound old disk) (reads-run disk runs) in
          let each = each-gives disk runs in (
            is.0,
            is.1,
            each,
            λ none.
                let same : SameImage (p.seen new).served.file (p.seen new).store.image =
                subst (λ (frames : Option PageChange). SameImage (over (p.seen new).served.file frames) (p.seen new).store.image) none is.1 in
                subst (λ (contents : List ℕ). EachReadGives p contents runs) (ap (λ (pages : List (List ℕ)). concat pages) same) each,
          )

  pub step-answers-by-whole : AnswersByWhole → StepAnswersByWhole p
  step-answers-by-whole law old new caller ask answer position last asks disk step role lacks =
      law (p.seen old) (p.seen new) position last (law_answer answer) (p.tells step disk (laws.Hello position last) asks).facts role lacks

  -- a delivery is a step of the laws
  delivered : {c d : Cluster p} {k : ℕ} {frame : laws.Ask} {answer : Answer} → Delivers p c k frame answer d → Turns (world_of c) k frame (law_answer answer) (world_of d)
  delivered {c = c} {d = d} {k = k} {answer = answer} x =
      subst (λ (a : laws.Ask). Turns (world_of c) k a (law_answer answer) (world_of d)) x.asks (step-turns p c d k x.caller x.ask answer x.takes)

  pub snapshot-installs : SnapshotInstalls → DeliveredSnapshotInstalls p
  snapshot-installs law c d k from answer image x = waits-or (law (world_of c) (world_of d) k from (law_answer answer) x.safe image (delivered x) x.role)

  pub drop-installs : DropInstalls → DeliveredDropInstalls p
  drop-installs law c d k answer x = waits-or (law (world_of c) (world_of d) k (law_answer answer) x.safe (delivered x) x.role)

  pub file-applies : SentFileApplies → DeliveredFileApplies p
  file-applies law c d k file answer one follows x = waits-or (law (world_of c) (world_of d) k file (law_answer answer) x.safe one (delivered x) x.role follows)
