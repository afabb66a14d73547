-- A step before which the store was looked into.
use Rattle.std.proofs.Common.{◌≡◌, ◌∙◌, ◌≤◌, ℕ, Bool, List, Option, None, inl, inr, refl, sym, ap, subst, arith}
use Rattle.std.proofs.Math.Logic.{∥∥₁_map}
use Rattle.lf_base.specs.declared.pos.Pos.{Pos}
use Rattle.lf_disk.specs.Folder.{Folder}
use Rattle.lf_disk.specs.History.{History, KeepsPast}
use Rattle.lf_disk.proofs.Moments.{past_joins}
use Rattle.ltx_codec.specs.Format.{file_encoding, no_meaning}
use Rattle.file_view.specs.declared.view.Role.TheVariants as role
use Rattle.file_view.specs.Overlay.{IsOverImage}
use Rattle.txn_log.specs.Giving.{IsEncodingAt}
use Rattle.txn_log.specs.LastFile.{Doubts}
use Rattle.txn_log.specs.Looking.{IsLookedAt}
use Rattle.txn_log.specs.declared.answering.Answer.{Answer as OwedAnswer}
use Rattle.txn_log.specs.declared.answering.Answer.TheVariants as owed
use Rattle.txn_log.specs.declared.entry.Entry.{Entry}
use Rattle.txn_log.proofs.Resting.{same_now}
use Rattle.world_laws.specs.declared.last_file.LastFile.{LastFile}
use Rattle.world_laws.specs.Answers.{snapshot_of}
use Rattle.world_laws.specs.Node as laws
use Rattle.world_laws.specs.Node.{IsSoundNode, NodeState}
use Rattle.world_laws.specs.Served.{ShareForReading}
use Rattle.world_laws.specs.Store.{StoreState}
use Rattle.node_core.specs.declared.answer.Answer.{Answer}
use Rattle.node_core.specs.declared.answer.Answer.TheVariants as answers
use Rattle.node_core.specs.Hello.{AnswersHello, IsFirstFile, IsLookedInto, IsOwed, IsRunOfFiles, IsWholeDatabase, TellsFollower}
use Rattle.node_core.specs.Nodes.{NodeParts, role_in, seen, served_over}
use Rattle.node_core.specs.Roles.{law_role}
use Rattle.node_core.specs.Running.{IsEncodingOfAll, files_at}
use Rattle.node_core.specs.Safely.{StepsSafely}
use Rattle.node_core.specs.Stores.{StoreFields, failed, state}
use Rattle.node_core.specs.Waiting.{file_sent}
use Rattle.node_core.proofs.Sound.{sound}

-- what the store's fields and its disk say of how it was looked into
pub looked-into : (start end : History) (old new : StoreFields) → IsLookedAt start old end new → old.faults ≤ new.faults → IsLookedInto start old end new
looked-into start end old new looked faults = record { same = looked.same; faults = faults; state = looked.state; failed = looked.failed }

-- and where it was not
pub looked-at-nothing : (h : History) (s : StoreFields) → IsLookedInto h s h s
looked-at-nothing h s = record {
  same = refl;
  faults = omega arith;
  state = λ honest. refl;
  failed = λ honest. refl;
}

-- it was looked into twice
pub looked-on : (start mid end : History) (old between new : StoreFields) → IsLookedInto start old mid between → IsLookedInto mid between end new → IsLookedInto start old end new
looked-on start mid end old between new first second = record {
  same = second.same ∙ ap (λ (s : StoreFields). record s { faults = new.faults }) first.same;
  faults = omega (arith, first.faults, second.faults);
  state = λ honest. second.state (ap (λ (s : StoreFields). s.honest) first.same ∙ honest) ∙ first.state honest;
  failed = λ honest. second.failed (ap (λ (s : StoreFields). s.honest) first.same ∙ honest) ∙ first.failed honest;
}

-- nothing is changed where the count of faults is as before
pub same-fields : (start end : History) (old new : StoreFields) → IsLookedAt start old end new → new.faults ≡ old.faults → new ≡ old
same-fields start end old new looked faults = looked.same ∙ ap (λ (n : ℕ). record old { faults = n }) faults

-- what is said of the last file is judged alike
pub doubts-since : (start mid : History) (old between : StoreFields) (last : Option LastFile) (doubted : Bool) → IsLookedAt start old mid between
    → Doubts old.honest (start.seen start.moment) old.entries last doubted → Doubts between.honest (mid.seen mid.moment) between.entries last doubted
doubts-since start mid old between last doubted looked holds =
    let folder : mid.seen mid.moment ≡ start.seen start.moment = same_now start mid looked.rests in
    let honest : Doubts between.honest (start.seen start.moment) old.entries last doubted =
    subst (λ (b : Bool). Doubts b (start.seen start.moment) old.entries last doubted) (sym (ap (λ (s : StoreFields). s.honest) looked.same)) holds in
    let there : Doubts between.honest (mid.seen mid.moment) old.entries last doubted = subst (λ (f : Folder). Doubts between.honest f old.entries last doubted) (sym folder) honest in
    subst (λ (es : List Entry). Doubts between.honest (mid.seen mid.moment) es last doubted) (sym (ap (λ (s : StoreFields). s.entries) looked.same)) there

module _ (start mid : History) (old : NodeParts) (looked : IsLookedAt start old.store mid old.store) (from : Pos) (last : Option LastFile) where
  owed-since : (answer : OwedAnswer) → IsOwed mid old.store from last answer → IsOwed start old.store from last answer
  owed-since answer is = record {
    doubted = is.doubted;
    doubts = subst (λ (f : Folder). Doubts old.store.honest f old.store.entries last is.doubted) (same_now start mid looked.rests) is.doubts;
    answers = is.answers;
  }

  file-since : (ltx : List ℕ) (to : Pos) → IsFirstFile mid old.store from last ltx to → IsFirstFile start old.store from last ltx to
  file-since ltx to is = record {
    first = is.first;
    owed = owed-since (owed.Files is.first) is.owed;
    leads = is.leads;
    encoding = λ honest. subst (λ (s : StoreState). IsEncodingAt s.log is.first ltx) (looked.state honest) (is.encoding honest);
  }

  run-since : (ltx : List ℕ) (to : Pos) → IsRunOfFiles mid old.store from last ltx to → IsRunOfFiles start old.store from last ltx to
  run-since ltx to is = record {
    first = is.first;
    owed = owed-since (owed.Files is.first) is.owed;
    run = record {
      count = is.run.count;
      several = is.run.several;
      at_most = is.run.at_most;
      before_last = is.run.before_last;
      later = is.run.later;
      leads = is.run.leads;
      encoding = λ honest. subst (λ (s : StoreState). IsEncodingOfAll (files_at s.log is.first is.run.count) ltx) (looked.state honest) (is.run.encoding honest);
    };
  }

  whole-since : (ltx : List ℕ) (to : Pos) → IsWholeDatabase mid old.store from last ltx to → IsWholeDatabase start old.store from last ltx to
  whole-since ltx to is = record {
    owed = owed-since owed.Snapshot is.owed;
    written = is.written;
    leads = is.leads;
    encoding = λ honest. subst (λ (s : StoreState). ltx ≡ file_encoding (snapshot_of s) no_meaning) (looked.state honest) (is.encoding honest);
  }

  tells-since : (answer : Answer) (new : StoreFields) → TellsFollower mid old from last answer new → TellsFollower start old from last answer new
  tells-since (answers.Level here) new tells = (tells.0, tells.1, owed-since owed.Level tells.2)
  tells-since (answers.Item ltx to) new (primary, inl is) = (primary, inl (file-since ltx to is))
  tells-since (answers.Item ltx to) new (primary, inr (inl is)) = (primary, inr (inl (run-since ltx to is)))
  tells-since (answers.Item ltx to) new (primary, inr (inr is)) = (primary, inr (inr (whole-since ltx to is)))
  tells-since answers.Gone new tells = (tells.0, owed-since owed.Gone tells.1)
  tells-since (answers.Refused why) new tells = tells
  tells-since (answers.Done reply) new tells = tells
  tells-since answers.Quiet new tells = tells
  tells-since (answers.Pass pass) new tells = tells
  tells-since (answers.Send number ltx) new tells = tells
  tells-since (answers.Refuse number) new tells = tells
  tells-since (answers.At here) new tells = tells
  tells-since (answers.Applied here) new tells = tells
  tells-since (answers.Same here) new tells = tells
  tells-since (answers.Held lock) new tells = tells
  tells-since (answers.Pruned count) new tells = tells
  tells-since (answers.Bytes bytes) new tells = tells
  tells-since (answers.Info info) new tells = tells
  tells-since (answers.Watched info files) new tells = tells

-- what a follower is told since
pub hello-since : (start mid end : History) (old between new : NodeParts) (from : Pos) (last : Option LastFile) (answer : Answer) → IsLookedAt start old.store mid old.store → between ≡ old
    → AnswersHello mid between from last answer end new → AnswersHello start old from last answer end new
hello-since start mid end old between new from last answer looked is answered =
    let a : AnswersHello mid old from last answer end new = subst (λ (b : NodeParts). AnswersHello mid b from last answer end new) is answered in
    record {
      tells = tells-since start mid old looked from last answer new.store a.tells;
      read = record {
        same = a.read.same;
        faults = a.read.faults;
        state = λ honest. a.read.state honest ∙ looked.state honest;
        failed = λ honest. a.read.failed honest ∙ looked.failed honest;
      };
      same = a.same;
    }

-- the node is seen as before
pub seen-since : (start mid : History) (old between : NodeParts) → state mid between.store ≡ state start old.store → failed mid between.store ≡ failed start old.store → between ≡ old
    → seen mid between ≡ seen start old
seen-since start mid old between same broken is = λ i. record {
  store = same i;
  failed = broken i;
  faults = (is i).store.faults;
  role = law_role (role_in (is i));
  waits = file_sent (is i).sent;
  served = served_over (is i).files (same i).image;
}

-- a step since is one from there on
pub safely-since : (start mid end : History) (old between new : NodeState) (ask : laws.Ask) (answer : laws.Answer) → mid.moment ≡ start.moment → KeepsPast start mid → between ≡ old
    → StepsSafely between ask answer new mid end → StepsSafely old ask answer new start end
safely-since start mid end old between new ask answer looked past is step =
    let s : StepsSafely old ask answer new mid end = subst (λ (b : NodeState). StepsSafely b ask answer new mid end) is step in
    record {
      facts = s.facts;
      later = omega (arith, looked, s.later);
      past = ∥∥₁_map s.past (past_joins start mid end (omega (arith, looked)) past);
      moments = λ t c early late left. s.moments t c (omega (arith, looked, early)) late left;
      rests = s.rests;
    }

-- and it stays sound
pub looked-sound : (start end : History) (old : NodeParts) (new : StoreFields) → state end new ≡ state start old.store → IsOverImage old.files (state start old.store).image → ShareForReading old.files.locks
    → (role_in old ≡ role.Replica → old.files.writer ≡ None) → IsSoundNode (seen end (record old { store = new }))
looked-sound start end old new same over locks replica =
    sound end (record old { store = new }) (subst (λ (t : StoreState). IsOverImage old.files t.image) (sym same) over) locks replica
