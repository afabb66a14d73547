use Rattle.std.proofs.Common.{◌≡◌, ◌∙◌, ℕ, IsTrue, Option, None, Result, Ok, Err, inl, inr, refl, sym, ap, subst}
use Rattle.std.specs.Prelude.{is_some}
use Rattle.file_view.specs.Steady.{CommitsNothing}
use Rattle.lf_base.specs.declared.pos.Pos.{Pos}
use Rattle.lf_sqlite_pages.specs.Apply.{apply}
use Rattle.lf_sqlite_pages.specs.Image.{DatabaseImage}
use Rattle.file_view.specs.declared.requests.Plan.{Plan}
use Rattle.file_view.specs.declared.requests.Plan.TheVariants as plan
use Rattle.file_view.specs.declared.view.Role.TheVariants as role
use Rattle.file_view.specs.Done.{IsDone}
use Rattle.file_view.specs.Endings.{committed}
use Rattle.file_view.specs.Overlay.{AwaitsOver, FitsImage, IsOverImage}
use Rattle.file_view.specs.Served.{Served, waits}
use Rattle.txn_log.specs.declared.fault.StoreFault.{StoreFault}
use Rattle.txn_log.specs.Calls.{WentPruned}
use Rattle.txn_log.specs.Draft.{drafted}
use Rattle.txn_log.specs.Store.{end_of_entries}
use Rattle.world_laws.specs.Node as laws
use Rattle.byte_locks.specs.LockList.{IsLockList}
use Rattle.world_laws.specs.Store.{Commit, StoreState}
use Rattle.node_core.specs.Committing.{kept_files}
use Rattle.node_core.specs.Files.{scene, told}
use Rattle.node_core.specs.Nodes.{NodeParts, parts_of, role_in, seen}
use Rattle.node_core.specs.Safely.{StepsSafely}
use Rattle.node_core.specs.Stores.{StoreFields, failed, fields_of, history_of, position, state}
use Rattle.node_core.specs.declared.sent.Sent.{Sent}
use Rattle.node_core.specs.Waiting.{Waits}
use Rattle.node_core.proofs.Answering.{Prepared, awaits-before, awaits-read, image-read, left, plan-safely, position-read, primary, reads-safely, replica-read, shape-read, told-after, unsent}
use Rattle.node_core.proofs.Waiting.{waits-kept}
use Rattle.node_core.proofs.Calls.{err-same}
use Rattle.node_core.proofs.Committed.{comes, commits-safely, commits-store, committed-fits, committed-locks, committed-name, committed-over, image-after, store-changes}
use Rattle.node_core.proofs.Leaving.{Rests}
use Rattle.node_core.proofs.Sound.{apart, leads, sound}
use Rattle.node_core.proofs.node.Node.serve.Goals as goal

pub invariant_of-self : goal.invariant_of-self
invariant_of-self g c =
    let n = c.args.self.now in
    let old = parts_of n in
    let h = history_of n.store in
    let m = c.prepare.new.store in
    let hm = history_of m in
    let fm = fields_of m in
    let w = c.prepare.new.view in
    let request = c.args.request.now in
    let law = c.replica_requests_leave_the_database.ensures.request in
    let p : Plan = c.in-Ok-Reply.field-0 in
    let prepared : Prepared h old c.args.caller request p w hm fm = record {
      read = c.prepare.ensures.read;
      planned = record { done = c.in-Ok-Reply.ensures.done; allowed = c.in-Ok-Reply.ensures.allowed };
      stands = c.prepare.ensures.stands;
      told_position = n.told;
      replica = n.replica;
      idle = n.idle;
      awaits = n.awaits;
      sound = c.sound.ensures;
      sized = n.store.sized.pages;
    } in
    record {
      shape = shape-read law h hm old fm w c.args.caller request p prepared;
      image = image-read law h hm old fm w c.args.caller request p prepared;
      named = c.prepare.ensures.name ∙ n.named;
      told = position-read law h hm old fm w c.args.caller request p prepared;
      replica = replica-read law h hm old fm w c.args.caller request p prepared;
      alone = n.alone;
      idle = subst (λ (q : Plan). Rests n.store.page_size n.store.commit n.view q w) c.in-Ok-Reply.field-0-is (left law h hm old fm w c.args.caller request p prepared).rests ∙ n.idle;
      awaits = awaits-read law h hm old fm w c.args.caller request p prepared;
      locked = (left law h hm old fm w c.args.caller request p prepared).locks n.locked;
    }

pub invariant_of-self-in-Ok-Silent : goal.invariant_of-self-in-Ok-Silent
invariant_of-self-in-Ok-Silent g c =
    let n = c.args.self.now in
    let old = parts_of n in
    let h = history_of n.store in
    let m = c.prepare.new.store in
    let hm = history_of m in
    let fm = fields_of m in
    let w = c.prepare.new.view in
    let request = c.args.request.now in
    let law = c.replica_requests_leave_the_database.ensures.request in
    let p : Plan = c.in-Ok-Silent.field-0 in
    let prepared : Prepared h old c.args.caller request p w hm fm = record {
      read = c.prepare.ensures.read;
      planned = record { done = c.in-Ok-Silent.ensures.done; allowed = c.in-Ok-Silent.ensures.allowed };
      stands = c.prepare.ensures.stands;
      told_position = n.told;
      replica = n.replica;
      idle = n.idle;
      awaits = n.awaits;
      sound = c.sound.ensures;
      sized = n.store.sized.pages;
    } in
    record {
      shape = shape-read law h hm old fm w c.args.caller request p prepared;
      image = image-read law h hm old fm w c.args.caller request p prepared;
      named = c.prepare.ensures.name ∙ n.named;
      told = position-read law h hm old fm w c.args.caller request p prepared;
      replica = replica-read law h hm old fm w c.args.caller request p prepared;
      alone = n.alone;
      idle = subst (λ (q : Plan). Rests n.store.page_size n.store.commit n.view q w) c.in-Ok-Silent.field-0-is (left law h hm old fm w c.args.caller request p prepared).rests ∙ n.idle;
      awaits = awaits-read law h hm old fm w c.args.caller request p prepared;
      locked = (left law h hm old fm w c.args.caller request p prepared).locks n.locked;
    }

pub returns-in-Ok-Reply-clause-safe : goal.returns-in-Ok-Reply-clause-safe
returns-in-Ok-Reply-clause-safe g c honest =
    let n = c.args.self.now in
    let old = parts_of n in
    let h = history_of n.store in
    let m = c.prepare.new.store in
    let hm = history_of m in
    let fm = fields_of m in
    let w = c.prepare.new.view in
    let request = c.args.request.now in
    let law = c.replica_requests_leave_the_database.ensures.request in
    let p : Plan = c.in-Ok-Reply.field-0 in
    let prepared : Prepared h old c.args.caller request p w hm fm = record {
      read = c.prepare.ensures.read;
      planned = record { done = c.in-Ok-Reply.ensures.done; allowed = c.in-Ok-Reply.ensures.allowed };
      stands = c.prepare.ensures.stands;
      told_position = n.told;
      replica = n.replica;
      idle = n.idle;
      awaits = n.awaits;
      sound = c.sound.ensures;
      sized = n.store.sized.pages;
    } in
    plan-safely law h hm old fm w c.args.caller request p prepared laws.Done honest (m.left (ap (λ (s : StoreFields). s.honest) c.prepare.ensures.read.same ∙ honest)) ((left law h hm old fm w c.args.caller request p prepared).locks n.locked).together tt tt

pub returns-in-Ok-Silent-clause-safe : goal.returns-in-Ok-Silent-clause-safe
returns-in-Ok-Silent-clause-safe g c honest =
    let n = c.args.self.now in
    let old = parts_of n in
    let h = history_of n.store in
    let m = c.prepare.new.store in
    let hm = history_of m in
    let fm = fields_of m in
    let w = c.prepare.new.view in
    let request = c.args.request.now in
    let law = c.replica_requests_leave_the_database.ensures.request in
    let p : Plan = c.in-Ok-Silent.field-0 in
    let prepared : Prepared h old c.args.caller request p w hm fm = record {
      read = c.prepare.ensures.read;
      planned = record { done = c.in-Ok-Silent.ensures.done; allowed = c.in-Ok-Silent.ensures.allowed };
      stands = c.prepare.ensures.stands;
      told_position = n.told;
      replica = n.replica;
      idle = n.idle;
      awaits = n.awaits;
      sound = c.sound.ensures;
      sized = n.store.sized.pages;
    } in
    plan-safely law h hm old fm w c.args.caller request p prepared laws.Done honest (m.left (ap (λ (s : StoreFields). s.honest) c.prepare.ensures.read.same ∙ honest)) ((left law h hm old fm w c.args.caller request p prepared).locks n.locked).together tt tt

pub returns-in-Err-clause-safe : goal.returns-in-Err-clause-safe
returns-in-Err-clause-safe g c honest =
    let n = c.args.self.now in
    let old = parts_of n in
    let h = history_of n.store in
    let m = c.prepare.new.store in
    let hm = history_of m in
    let fm = fields_of m in
    let read = c.prepare.ensures.read in
    let is : c.prepare.new.view ≡ n.view = c.in-Err.ensures.err in
    subst (λ (s : Served). StepsSafely (seen h old) laws.File (laws.Refused laws.Other) (seen hm (record old { store = fm; files = s })) h hm) (sym is)
    (reads-safely h hm old fm n.view (laws.Refused laws.Other) honest read (m.left (ap (λ (s : StoreFields). s.honest) read.same ∙ honest))
    (subst (λ (s : StoreState). IsOverImage n.view s.image) (sym (read.state honest)) (n.image honest)) n.locked.together n.replica (λ not none. (refl, refl)) tt refl)

pub invariant_of-self-in-Ok : goal.invariant_of-self-in-Ok
invariant_of-self-in-Ok g c =
    let n = c.args.self.now in
    let old = parts_of n in
    let h = history_of n.store in
    let m = c.prepare.new.store in
    let hm = history_of m in
    let fm = fields_of m in
    let w = c.prepare.new.view in
    let request = c.args.request.now in
    let law = c.replica_requests_leave_the_database.ensures.request in
    let p : Plan = c.in-Ok-Commit.field-0 in
    let prepared : Prepared h old c.args.caller request p w hm fm = record {
      read = c.prepare.ensures.read;
      planned = record { done = c.in-Ok-Commit.ensures.done; allowed = c.in-Ok-Commit.ensures.allowed };
      stands = c.prepare.ensures.stands;
      told_position = n.told;
      replica = n.replica;
      idle = n.idle;
      awaits = n.awaits;
      sound = c.sound.ensures;
      sized = n.store.sized.pages;
    } in
    let t = c.commit_and_prune.new.self in
    let ht = history_of t in
    let ft = fields_of t in
    let change = c.in-Ok-Commit.change in
    let is_plan : p ≡ plan.Commit c.in-Ok-Commit.reply change = c.in-Ok-Commit.field-0-is in
    let result : Result Pos StoreFault = Ok c.in-Ok.position in
    let went : IsTrue fm.honest → WentPruned (state hm fm) (failed hm fm) hm (Commit (drafted (position fm) fm.commit fm.sums change n.standing.moment n.config.node)) (kept_files n.config) result (state ht ft) (failed ht ft) ht =
    subst (λ (k : ℕ). IsTrue fm.honest → WentPruned (state hm fm) (failed hm fm) hm (Commit (drafted (position fm) fm.commit fm.sums change n.standing.moment n.config.node)) k result (state ht ft) (failed ht ft) ht) c.max-kept.ensures c.in-Ok.ensures.went in
    let files : Served = record (committed w) { position = c.in-Ok.position } in
    let is : c.told_position.new.self ≡ files = c.told_position.ensures ∙ ap (λ (s : Served). record s { position = c.in-Ok.position }) c.commit_done.ensures.done in
    let awaits : AwaitsOver (told h old.store) w (plan.Commit c.in-Ok-Commit.reply change) = subst (λ (q : Plan). AwaitsOver (told h old.store) w q) is_plan c.in-Ok-Commit.ensures.awaits in
    let over : IsTrue old.store.honest → IsOverImage c.told_position.new.self (state ht ft).image = λ honest.
    subst (λ (s : Served). IsOverImage s (state ht ft).image) (sym is)
    (subst (λ (i : DatabaseImage). IsOverImage files i) (sym (image-after h old change c.in-Ok.position (state ht ft) (failed ht ft) (store-changes h hm ht old fm ft change result c.prepare.ensures.read c.in-Ok.ensures.commits went c.in-Ok.ensures.cause c.in-Ok.ensures.honest honest)))
    (committed-over w c.in-Ok.position (apply (state h old.store).image change) (told-after h old.store change (λ i. IsOverImage (committed w) i) honest awaits.image))) in
    let primary_is : role_in old ≡ role.Primary = primary old (sym c.commit_refusal.ensures ∙ c.in_default.is) in
    let rests = subst (λ (q : Plan). Rests n.store.page_size n.store.commit n.view q w) is_plan (left law h hm old fm w c.args.caller request p prepared).rests in
    let shape = c.in-Ok.ensures.shape in
    let none : n.sent ≡ None = unsent law h hm old fm w c.args.caller request p prepared (λ nothing. subst CommitsNothing is_plan nothing) in
    record {
      shape = subst (λ (s : Served). FitsImage s t.page_size t.commit) (sym is)
          (subst (λ (k : ℕ). FitsImage files k t.commit) (sym shape.0) (subst (λ (k : ℕ). FitsImage files change.page_size k) (sym shape.1) (committed-fits w c.in-Ok.position change.page_size change.commit awaits.shape)));
      image = λ still. over (sym (ap (λ (s : StoreFields). s.honest) c.prepare.ensures.read.same) ∙ sym c.in-Ok.ensures.honest ∙ still);
      named = ap (λ (s : Served). s.name) is ∙ committed-name w ∙ c.prepare.ensures.name ∙ n.named;
      told = ap (λ (s : Served). s.position) is ∙ sym c.in-Ok.ensures.position;
      replica = λ not. absurd (apart (sym primary_is ∙ not));
      alone = n.alone;
      idle = ap waits is ∙ rests.1 ∙ sym (ap is_some none);
      awaits = subst (λ (o : Option Sent). Waits (told ht ft) ft c.told_position.new.self o) (sym none) tt;
      locked = subst (λ (s : Served). IsLockList s.locks) (sym is) (subst IsLockList (sym (committed-locks w)) ((left law h hm old fm w c.args.caller request p prepared).locks n.locked));
    }

pub returns-in-Ok-clause-does : goal.returns-in-Ok-clause-does
returns-in-Ok-clause-does g c =
    let n = c.args.self.now in
    let old = parts_of n in
    let h = history_of n.store in
    let m = c.prepare.new.store in
    let hm = history_of m in
    let fm = fields_of m in
    let w = c.prepare.new.view in
    let request = c.args.request.now in
    let law = c.replica_requests_leave_the_database.ensures.request in
    let p : Plan = c.in-Ok-Commit.field-0 in
    let prepared : Prepared h old c.args.caller request p w hm fm = record {
      read = c.prepare.ensures.read;
      planned = record { done = c.in-Ok-Commit.ensures.done; allowed = c.in-Ok-Commit.ensures.allowed };
      stands = c.prepare.ensures.stands;
      told_position = n.told;
      replica = n.replica;
      idle = n.idle;
      awaits = n.awaits;
      sound = c.sound.ensures;
      sized = n.store.sized.pages;
    } in
    let t = c.commit_and_prune.new.self in
    let ht = history_of t in
    let ft = fields_of t in
    let change = c.in-Ok-Commit.change in
    let is_plan : p ≡ plan.Commit c.in-Ok-Commit.reply change = c.in-Ok-Commit.field-0-is in
    let result : Result Pos StoreFault = Ok c.in-Ok.position in
    let went : IsTrue fm.honest → WentPruned (state hm fm) (failed hm fm) hm (Commit (drafted (position fm) fm.commit fm.sums change n.standing.moment n.config.node)) (kept_files n.config) result (state ht ft) (failed ht ft) ht =
    subst (λ (k : ℕ). IsTrue fm.honest → WentPruned (state hm fm) (failed hm fm) hm (Commit (drafted (position fm) fm.commit fm.sums change n.standing.moment n.config.node)) k result (state ht ft) (failed ht ft) ht) c.max-kept.ensures c.in-Ok.ensures.went in
    let files : Served = record (committed w) { position = c.in-Ok.position } in
    let is : c.told_position.new.self ≡ files = c.told_position.ensures ∙ ap (λ (s : Served). record s { position = c.in-Ok.position }) c.commit_done.ensures.done in
    let awaits : AwaitsOver (told h old.store) w (plan.Commit c.in-Ok-Commit.reply change) = subst (λ (q : Plan). AwaitsOver (told h old.store) w q) is_plan c.in-Ok-Commit.ensures.awaits in
    inr record {
      change = change;
      waiting = w;
      told = c.in-Ok.position;
      leave = sym c.commit_refusal.ensures ∙ c.in_default.is;
      planned = record {
        done = subst (λ (q : Plan). IsDone (told h old.store) n.view (scene old c.args.caller) request q w) is_plan c.in-Ok-Commit.ensures.done;
        allowed = c.in-Ok-Commit.ensures.allowed;
      };
      store = commits-store h hm ht old fm ft change result c.prepare.ensures.read c.in-Ok.ensures.commits went c.in-Ok.ensures.cause c.in-Ok.ensures.honest;
      shape = (c.in-Ok.ensures.shape.0, c.in-Ok.ensures.shape.1, c.in-Ok.ensures.position);
      same = ap (λ (s : Served). record old { store = ft; files = s }) is;
    }

pub returns-in-Ok-clause-safe : goal.returns-in-Ok-clause-safe
returns-in-Ok-clause-safe g c honest =
    let n = c.args.self.now in
    let old = parts_of n in
    let h = history_of n.store in
    let m = c.prepare.new.store in
    let hm = history_of m in
    let fm = fields_of m in
    let w = c.prepare.new.view in
    let request = c.args.request.now in
    let law = c.replica_requests_leave_the_database.ensures.request in
    let p : Plan = c.in-Ok-Commit.field-0 in
    let prepared : Prepared h old c.args.caller request p w hm fm = record {
      read = c.prepare.ensures.read;
      planned = record { done = c.in-Ok-Commit.ensures.done; allowed = c.in-Ok-Commit.ensures.allowed };
      stands = c.prepare.ensures.stands;
      told_position = n.told;
      replica = n.replica;
      idle = n.idle;
      awaits = n.awaits;
      sound = c.sound.ensures;
      sized = n.store.sized.pages;
    } in
    let t = c.commit_and_prune.new.self in
    let ht = history_of t in
    let ft = fields_of t in
    let change = c.in-Ok-Commit.change in
    let is_plan : p ≡ plan.Commit c.in-Ok-Commit.reply change = c.in-Ok-Commit.field-0-is in
    let result : Result Pos StoreFault = Ok c.in-Ok.position in
    let went : IsTrue fm.honest → WentPruned (state hm fm) (failed hm fm) hm (Commit (drafted (position fm) fm.commit fm.sums change n.standing.moment n.config.node)) (kept_files n.config) result (state ht ft) (failed ht ft) ht =
    subst (λ (k : ℕ). IsTrue fm.honest → WentPruned (state hm fm) (failed hm fm) hm (Commit (drafted (position fm) fm.commit fm.sums change n.standing.moment n.config.node)) k result (state ht ft) (failed ht ft) ht) c.max-kept.ensures c.in-Ok.ensures.went in
    let files : Served = record (committed w) { position = c.in-Ok.position } in
    let is : c.told_position.new.self ≡ files = c.told_position.ensures ∙ ap (λ (s : Served). record s { position = c.in-Ok.position }) c.commit_done.ensures.done in
    let awaits : AwaitsOver (told h old.store) w (plan.Commit c.in-Ok-Commit.reply change) = subst (λ (q : Plan). AwaitsOver (told h old.store) w q) is_plan c.in-Ok-Commit.ensures.awaits in
    let over : IsTrue old.store.honest → IsOverImage c.told_position.new.self (state ht ft).image = λ honest.
    subst (λ (s : Served). IsOverImage s (state ht ft).image) (sym is)
    (subst (λ (i : DatabaseImage). IsOverImage files i) (sym (image-after h old change c.in-Ok.position (state ht ft) (failed ht ft) (store-changes h hm ht old fm ft change result c.prepare.ensures.read c.in-Ok.ensures.commits went c.in-Ok.ensures.cause c.in-Ok.ensures.honest honest)))
    (committed-over w c.in-Ok.position (apply (state h old.store).image change) (told-after h old.store change (λ i. IsOverImage (committed w) i) honest awaits.image))) in
    let primary_is : role_in old ≡ role.Primary = primary old (sym c.commit_refusal.ensures ∙ c.in_default.is) in
    let new : NodeParts = record old { store = ft; files = c.told_position.new.self } in
    commits-safely h hm ht old fm ft change result c.prepare.ensures.read c.in-Ok.ensures.commits went c.in-Ok.ensures.cause c.in-Ok.ensures.honest c.told_position.new.self honest (leads (role_in old) primary_is)
    (sound ht new (over honest)
    (subst (λ (s : Served). IsLockList s.locks) (sym is) (subst IsLockList (sym (committed-locks w)) ((left law h hm old fm w c.args.caller request p prepared).locks n.locked))).together
    (λ not. absurd (apart (sym primary_is ∙ not))))

pub invariant_of-self-in-Err-commit_and_prune : goal.invariant_of-self-in-Err-commit_and_prune
invariant_of-self-in-Err-commit_and_prune g c =
    let n = c.args.self.now in
    let old = parts_of n in
    let h = history_of n.store in
    let m = c.prepare.new.store in
    let hm = history_of m in
    let fm = fields_of m in
    let w = c.prepare.new.view in
    let request = c.args.request.now in
    let law = c.replica_requests_leave_the_database.ensures.request in
    let p : Plan = c.in-Ok-Commit.field-0 in
    let prepared : Prepared h old c.args.caller request p w hm fm = record {
      read = c.prepare.ensures.read;
      planned = record { done = c.in-Ok-Commit.ensures.done; allowed = c.in-Ok-Commit.ensures.allowed };
      stands = c.prepare.ensures.stands;
      told_position = n.told;
      replica = n.replica;
      idle = n.idle;
      awaits = n.awaits;
      sound = c.sound.ensures;
      sized = n.store.sized.pages;
    } in
    let t = c.commit_and_prune.new.self in
    let ht = history_of t in
    let ft = fields_of t in
    let change = c.in-Ok-Commit.change in
    let is_plan : p ≡ plan.Commit c.in-Ok-Commit.reply change = c.in-Ok-Commit.field-0-is in
    let result : Result Pos StoreFault = Err c.in-Err-commit_and_prune.fault in
    let went : IsTrue fm.honest → WentPruned (state hm fm) (failed hm fm) hm (Commit (drafted (position fm) fm.commit fm.sums change n.standing.moment n.config.node)) (kept_files n.config) result (state ht ft) (failed ht ft) ht =
    subst (λ (k : ℕ). IsTrue fm.honest → WentPruned (state hm fm) (failed hm fm) hm (Commit (drafted (position fm) fm.commit fm.sums change n.standing.moment n.config.node)) k result (state ht ft) (failed ht ft) ht) c.max-kept.ensures c.in-Err-commit_and_prune.ensures.went in
    let rests = subst (λ (q : Plan). Rests n.store.page_size n.store.commit n.view q w) is_plan (left law h hm old fm w c.args.caller request p prepared).rests in
    let is : c.abandon-in-Err-commit_and_prune.new.self ≡ n.view = c.abandon-in-Err-commit_and_prune.ensures ∙ rests.0 in
    let same = c.in-Err-commit_and_prune.ensures.same in
    let read = c.prepare.ensures.read in
    let still : IsTrue old.store.honest → state ht ft ≡ state h old.store = λ honest.
    err-same Pos (state h old.store) (state ht ft) (failed h old.store) (failed ht ft) _ c.in-Err-commit_and_prune.fault (store-changes h hm ht old fm ft change result c.prepare.ensures.read c.in-Err-commit_and_prune.ensures.commits went c.in-Err-commit_and_prune.ensures.cause c.in-Err-commit_and_prune.ensures.honest honest) in
    record {
      shape = subst (λ (s : Served). FitsImage s t.page_size t.commit) (sym is)
          (subst (λ (k : ℕ). FitsImage n.view k t.commit) (sym (same.0 ∙ ap (λ (s : StoreFields). s.page_size) read.same))
          (subst (λ (k : ℕ). FitsImage n.view n.store.page_size k) (sym (same.1 ∙ ap (λ (s : StoreFields). s.commit) read.same)) n.shape));
      image = λ now.
          let honest = sym (ap (λ (s : StoreFields). s.honest) read.same) ∙ sym c.in-Err-commit_and_prune.ensures.honest ∙ now in
          subst (λ (s : Served). IsOverImage s (state ht ft).image) (sym is) (subst (λ (s : StoreState). IsOverImage n.view s.image) (sym (still honest)) (n.image honest));
      named = ap (λ (s : Served). s.name) is ∙ n.named;
      told = ap (λ (s : Served). s.position) is ∙ n.told ∙ sym (ap end_of_entries same.2 ∙ ap position read.same);
      replica = λ not. ap (λ (s : Served). s.writer) is ∙ n.replica not;
      alone = n.alone;
      idle = ap waits is ∙ n.idle;
      awaits =
          subst (λ (v : Served). Waits (told ht ft) ft v n.sent) (sym is)
          (waits-kept h ht old.store ft n.view n.sent (c.in-Err-commit_and_prune.ensures.honest ∙ ap (λ (s : StoreFields). s.honest) read.same) (λ honest. ap (λ (s : StoreState). s.image) (still honest))
          (ap end_of_entries same.2 ∙ ap position read.same) n.awaits);
      locked = subst (λ (s : Served). IsLockList s.locks) (sym is) n.locked;
    }

pub returns-in-Err-commit_and_prune-clause-does : goal.returns-in-Err-commit_and_prune-clause-does
returns-in-Err-commit_and_prune-clause-does g c =
    let n = c.args.self.now in
    let old = parts_of n in
    let h = history_of n.store in
    let m = c.prepare.new.store in
    let hm = history_of m in
    let fm = fields_of m in
    let w = c.prepare.new.view in
    let request = c.args.request.now in
    let law = c.replica_requests_leave_the_database.ensures.request in
    let p : Plan = c.in-Ok-Commit.field-0 in
    let prepared : Prepared h old c.args.caller request p w hm fm = record {
      read = c.prepare.ensures.read;
      planned = record { done = c.in-Ok-Commit.ensures.done; allowed = c.in-Ok-Commit.ensures.allowed };
      stands = c.prepare.ensures.stands;
      told_position = n.told;
      replica = n.replica;
      idle = n.idle;
      awaits = n.awaits;
      sound = c.sound.ensures;
      sized = n.store.sized.pages;
    } in
    let t = c.commit_and_prune.new.self in
    let ht = history_of t in
    let ft = fields_of t in
    let change = c.in-Ok-Commit.change in
    let is_plan : p ≡ plan.Commit c.in-Ok-Commit.reply change = c.in-Ok-Commit.field-0-is in
    let result : Result Pos StoreFault = Err c.in-Err-commit_and_prune.fault in
    let went : IsTrue fm.honest → WentPruned (state hm fm) (failed hm fm) hm (Commit (drafted (position fm) fm.commit fm.sums change n.standing.moment n.config.node)) (kept_files n.config) result (state ht ft) (failed ht ft) ht =
    subst (λ (k : ℕ). IsTrue fm.honest → WentPruned (state hm fm) (failed hm fm) hm (Commit (drafted (position fm) fm.commit fm.sums change n.standing.moment n.config.node)) k result (state ht ft) (failed ht ft) ht) c.max-kept.ensures c.in-Err-commit_and_prune.ensures.went in
    let rests = subst (λ (q : Plan). Rests n.store.page_size n.store.commit n.view q w) is_plan (left law h hm old fm w c.args.caller request p prepared).rests in
    let is : c.abandon-in-Err-commit_and_prune.new.self ≡ n.view = c.abandon-in-Err-commit_and_prune.ensures ∙ rests.0 in
    let same = c.in-Err-commit_and_prune.ensures.same in
    let read = c.prepare.ensures.read in
    inr (inl record {
      reply = c.in-Ok-Commit.reply;
      change = change;
      waiting = w;
      why = c.in-Err-commit_and_prune.fault;
      leave = sym c.commit_refusal.ensures ∙ c.in_default.is;
      planned = record {
        done = subst (λ (q : Plan). IsDone (told h old.store) n.view (scene old c.args.caller) request q w) is_plan c.in-Ok-Commit.ensures.done;
        allowed = c.in-Ok-Commit.ensures.allowed;
      };
      store = commits-store h hm ht old fm ft change result c.prepare.ensures.read c.in-Err-commit_and_prune.ensures.commits went c.in-Err-commit_and_prune.ensures.cause c.in-Err-commit_and_prune.ensures.honest;
      comes = comes old.store.broken (position old.store) old.store.page_size old.store.commit old.store.sums change n.standing.moment n.config.node c.in-Err-commit_and_prune.fault
          (commits-store h hm ht old fm ft change result c.prepare.ensures.read c.in-Err-commit_and_prune.ensures.commits went c.in-Err-commit_and_prune.ensures.cause c.in-Err-commit_and_prune.ensures.honest).answers rests.2;
      number_is = c.errno_of_store.ensures;
      shape = (same.0 ∙ ap (λ (s : StoreFields). s.page_size) read.same, same.1 ∙ ap (λ (s : StoreFields). s.commit) read.same, ap end_of_entries same.2 ∙ ap position read.same);
      same = ap (λ (s : Served). record old { store = ft; files = s }) is;
    })

pub returns-in-Err-commit_and_prune-clause-safe : goal.returns-in-Err-commit_and_prune-clause-safe
returns-in-Err-commit_and_prune-clause-safe g c honest =
    let n = c.args.self.now in
    let old = parts_of n in
    let h = history_of n.store in
    let m = c.prepare.new.store in
    let hm = history_of m in
    let fm = fields_of m in
    let w = c.prepare.new.view in
    let request = c.args.request.now in
    let law = c.replica_requests_leave_the_database.ensures.request in
    let p : Plan = c.in-Ok-Commit.field-0 in
    let prepared : Prepared h old c.args.caller request p w hm fm = record {
      read = c.prepare.ensures.read;
      planned = record { done = c.in-Ok-Commit.ensures.done; allowed = c.in-Ok-Commit.ensures.allowed };
      stands = c.prepare.ensures.stands;
      told_position = n.told;
      replica = n.replica;
      idle = n.idle;
      awaits = n.awaits;
      sound = c.sound.ensures;
      sized = n.store.sized.pages;
    } in
    let t = c.commit_and_prune.new.self in
    let ht = history_of t in
    let ft = fields_of t in
    let change = c.in-Ok-Commit.change in
    let is_plan : p ≡ plan.Commit c.in-Ok-Commit.reply change = c.in-Ok-Commit.field-0-is in
    let result : Result Pos StoreFault = Err c.in-Err-commit_and_prune.fault in
    let went : IsTrue fm.honest → WentPruned (state hm fm) (failed hm fm) hm (Commit (drafted (position fm) fm.commit fm.sums change n.standing.moment n.config.node)) (kept_files n.config) result (state ht ft) (failed ht ft) ht =
    subst (λ (k : ℕ). IsTrue fm.honest → WentPruned (state hm fm) (failed hm fm) hm (Commit (drafted (position fm) fm.commit fm.sums change n.standing.moment n.config.node)) k result (state ht ft) (failed ht ft) ht) c.max-kept.ensures c.in-Err-commit_and_prune.ensures.went in
    let rests = subst (λ (q : Plan). Rests n.store.page_size n.store.commit n.view q w) is_plan (left law h hm old fm w c.args.caller request p prepared).rests in
    let is : c.abandon-in-Err-commit_and_prune.new.self ≡ n.view = c.abandon-in-Err-commit_and_prune.ensures ∙ rests.0 in
    let same = c.in-Err-commit_and_prune.ensures.same in
    let read = c.prepare.ensures.read in
    let still : IsTrue old.store.honest → state ht ft ≡ state h old.store = λ honest.
    err-same Pos (state h old.store) (state ht ft) (failed h old.store) (failed ht ft) _ c.in-Err-commit_and_prune.fault (store-changes h hm ht old fm ft change result c.prepare.ensures.read c.in-Err-commit_and_prune.ensures.commits went c.in-Err-commit_and_prune.ensures.cause c.in-Err-commit_and_prune.ensures.honest honest) in
    let primary_is : role_in old ≡ role.Primary = primary old (sym c.commit_refusal.ensures ∙ c.in_default.is) in
    let new : NodeParts = record old { store = ft; files = c.abandon-in-Err-commit_and_prune.new.self } in
    commits-safely h hm ht old fm ft change result c.prepare.ensures.read c.in-Err-commit_and_prune.ensures.commits went c.in-Err-commit_and_prune.ensures.cause c.in-Err-commit_and_prune.ensures.honest c.abandon-in-Err-commit_and_prune.new.self honest (leads (role_in old) primary_is)
    (sound ht new (subst (λ (s : Served). IsOverImage s (state ht ft).image) (sym is) (subst (λ (s : StoreState). IsOverImage n.view s.image) (sym (still honest)) (n.image honest)))
    (subst (λ (s : Served). IsLockList s.locks) (sym is) n.locked).together (λ not. absurd (apart (sym primary_is ∙ not))))

pub invariant_of-self-in-Some : goal.invariant_of-self-in-Some
invariant_of-self-in-Some g c =
    let n = c.args.self.now in
    let old = parts_of n in
    let h = history_of n.store in
    let m = c.prepare.new.store in
    let hm = history_of m in
    let fm = fields_of m in
    let w = c.prepare.new.view in
    let request = c.args.request.now in
    let law = c.replica_requests_leave_the_database.ensures.request in
    let p : Plan = c.in-Ok-Commit.field-0 in
    let prepared : Prepared h old c.args.caller request p w hm fm = record {
      read = c.prepare.ensures.read;
      planned = record { done = c.in-Ok-Commit.ensures.done; allowed = c.in-Ok-Commit.ensures.allowed };
      stands = c.prepare.ensures.stands;
      told_position = n.told;
      replica = n.replica;
      idle = n.idle;
      awaits = n.awaits;
      sound = c.sound.ensures;
      sized = n.store.sized.pages;
    } in
    let is_plan : p ≡ plan.Commit c.in-Ok-Commit.reply c.in-Ok-Commit.change = c.in-Ok-Commit.field-0-is in
    let rests = subst (λ (q : Plan). Rests n.store.page_size n.store.commit n.view q w) is_plan (left law h hm old fm w c.args.caller request p prepared).rests in
    let is : c.abandon.new.self ≡ n.view = c.abandon.ensures ∙ rests.0 in
    let read = c.prepare.ensures.read in
    record {
      shape = subst (λ (s : Served). FitsImage s m.page_size m.commit) (sym is) (subst (λ (s : StoreFields). FitsImage n.view s.page_size s.commit) (sym read.same) n.shape);
      image = λ now.
          let honest = sym (ap (λ (s : StoreFields). s.honest) read.same) ∙ now in
          subst (λ (s : Served). IsOverImage s (state hm fm).image) (sym is) (subst (λ (s : StoreState). IsOverImage n.view s.image) (sym (read.state honest)) (n.image honest));
      named = ap (λ (s : Served). s.name) is ∙ n.named;
      told = ap (λ (s : Served). s.position) is ∙ n.told ∙ sym (ap position read.same);
      replica = λ not. ap (λ (s : Served). s.writer) is ∙ n.replica not;
      alone = n.alone;
      idle = ap waits is ∙ n.idle;
      awaits = subst (λ (v : Served). Waits (told hm fm) fm v n.sent) (sym is) (awaits-before law h hm old fm w c.args.caller request p prepared);
      locked = subst (λ (s : Served). IsLockList s.locks) (sym is) n.locked;
    }

pub returns-in-Some-clause-does : goal.returns-in-Some-clause-does
returns-in-Some-clause-does g c =
    let n = c.args.self.now in
    let old = parts_of n in
    let h = history_of n.store in
    let m = c.prepare.new.store in
    let hm = history_of m in
    let fm = fields_of m in
    let w = c.prepare.new.view in
    let request = c.args.request.now in
    let law = c.replica_requests_leave_the_database.ensures.request in
    let p : Plan = c.in-Ok-Commit.field-0 in
    let prepared : Prepared h old c.args.caller request p w hm fm = record {
      read = c.prepare.ensures.read;
      planned = record { done = c.in-Ok-Commit.ensures.done; allowed = c.in-Ok-Commit.ensures.allowed };
      stands = c.prepare.ensures.stands;
      told_position = n.told;
      replica = n.replica;
      idle = n.idle;
      awaits = n.awaits;
      sound = c.sound.ensures;
      sized = n.store.sized.pages;
    } in
    let is_plan : p ≡ plan.Commit c.in-Ok-Commit.reply c.in-Ok-Commit.change = c.in-Ok-Commit.field-0-is in
    let rests = subst (λ (q : Plan). Rests n.store.page_size n.store.commit n.view q w) is_plan (left law h hm old fm w c.args.caller request p prepared).rests in
    let is : c.abandon.new.self ≡ n.view = c.abandon.ensures ∙ rests.0 in
    inr (inr (inl record {
      reply = c.in-Ok-Commit.reply;
      change = c.in-Ok-Commit.change;
      waiting = w;
      planned = record {
        done = subst (λ (q : Plan). IsDone (told h old.store) n.view (scene old c.args.caller) request q w) is_plan c.in-Ok-Commit.ensures.done;
        allowed = c.in-Ok-Commit.ensures.allowed;
      };
      refused = sym c.commit_refusal.ensures ∙ c.in-Some.is;
      alone = c.requires;
      read = c.prepare.ensures.read;
      same = ap (λ (s : Served). record old { store = fm; files = s }) is;
    }))

pub returns-in-Some-clause-safe : goal.returns-in-Some-clause-safe
returns-in-Some-clause-safe g c honest =
    let n = c.args.self.now in
    let old = parts_of n in
    let h = history_of n.store in
    let m = c.prepare.new.store in
    let hm = history_of m in
    let fm = fields_of m in
    let w = c.prepare.new.view in
    let request = c.args.request.now in
    let law = c.replica_requests_leave_the_database.ensures.request in
    let p : Plan = c.in-Ok-Commit.field-0 in
    let prepared : Prepared h old c.args.caller request p w hm fm = record {
      read = c.prepare.ensures.read;
      planned = record { done = c.in-Ok-Commit.ensures.done; allowed = c.in-Ok-Commit.ensures.allowed };
      stands = c.prepare.ensures.stands;
      told_position = n.told;
      replica = n.replica;
      idle = n.idle;
      awaits = n.awaits;
      sound = c.sound.ensures;
      sized = n.store.sized.pages;
    } in
    let is_plan : p ≡ plan.Commit c.in-Ok-Commit.reply c.in-Ok-Commit.change = c.in-Ok-Commit.field-0-is in
    let rests = subst (λ (q : Plan). Rests n.store.page_size n.store.commit n.view q w) is_plan (left law h hm old fm w c.args.caller request p prepared).rests in
    let is : c.abandon.new.self ≡ n.view = c.abandon.ensures ∙ rests.0 in
    let read = c.prepare.ensures.read in
    subst (λ (s : Served). StepsSafely (seen h old) laws.File (laws.Refused laws.Other) (seen hm (record old { store = fm; files = s })) h hm) (sym is)
    (reads-safely h hm old fm n.view (laws.Refused laws.Other) honest read (m.left (ap (λ (s : StoreFields). s.honest) read.same ∙ honest))
    (subst (λ (s : StoreState). IsOverImage n.view s.image) (sym (read.state honest)) (n.image honest)) n.locked.together n.replica (λ not none. (refl, refl)) tt refl)
