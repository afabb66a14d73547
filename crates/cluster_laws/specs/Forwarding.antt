-- THE LAWS OF FORWARDED COMMITS, of nodes that run this program.
use Rattle.std.specs.Prelude.{◌≡◌, ◌≢◌, ℕ, Bool, true, IsTrue, None, Some}
use Rattle.ltx_codec.specs.declared.file.Ltx.{Ltx}
use Rattle.world_laws.specs.Events.{IsStart}
use Rattle.world_laws.specs.ForwardLaw.{IsAtCommit, LeavesFiles, WasAccepted}
use Rattle.world_laws.specs.Node as laws
use Rattle.world_laws.specs.Premises.{OneImagePerPosition}
use Rattle.world_laws.specs.Store.{at}
use Rattle.node_core.specs.declared.answer.Answer.{Answer}
use Rattle.node_core.specs.declared.ask.Ask.{Ask}
use Rattle.node_core.specs.Safely.{IsAskOf, law_answer}
use Rattle.cluster_laws.specs.Cluster.{Cluster, Moves, Program, TakesStep, world}

module _ {M : Type 0} (p : Program M) where
  -- a node is told that the commit it sent was accepted, and does it. Then a primary had taken the file that waited: right after, a lineage
  -- that its position named went on by this one change; and the node has the position and the pages of that lineage
  abbrev pub ForwardedIsOnce : Type 0
  ForwardedIsOnce = (c d e : Cluster p) (k caller : ℕ) (ask : Ask) (answer : Answer) → IsStart (world p c) → Moves p c d → (taken : TakesStep p d k caller ask answer e) →
      taken.law ≡ laws.Forwarded true → law_answer answer ≡ laws.Done → OneImagePerPosition e.tree →
      (file : Ltx) × ((p.seen (d.nodes k)).waits ≡ Some file) × ((was : WasAccepted (world p c) (world p d) file) × IsAtCommit (world p e) k was.lineage file)

  -- a commit that is sent leaves position and files as they are
  abbrev pub SendingLeaves : Type 0
  SendingLeaves = (old new : M) (caller : ℕ) (ask : Ask) (answer : Answer) (file : Ltx) → IsTrue (p.honest old) → p.steps old caller ask answer new → IsAskOf ask laws.File →
      law_answer answer ≡ laws.Send file → LeavesFiles (p.seen old) (p.seen new)

  -- and so does one that fails: the position stays; and so do the files, where no call failed and the moment of the step ended no permit
  abbrev pub FailingLeaves : Type 0
  FailingLeaves = (old new : M) (caller : ℕ) (ask : Ask) (answer : Answer) (ok : Bool) → (disk : IsTrue (p.honest old)) → (step : p.steps old caller ask answer new) →
      (is : IsAskOf ask (laws.Forwarded ok)) → law_answer answer ≢ laws.Done →
      (at (p.seen new).store ≡ at (p.seen old).store)
      × ((p.tells step disk (laws.Forwarded ok) is).facts.failed ≡ None → (p.seen new).role ≡ (p.seen old).role → LeavesFiles (p.seen old) (p.seen new))
