use Rattle.std.proofs.Common.{◌≡◌, ◌∙◌, false, None, Some, Ok, Err, inr, refl, sym, ap, subst}
use Rattle.byte_locks.specs.LockList.{IsLockList}
use Rattle.file_view.specs.declared.requests.Plan.{Plan}
use Rattle.file_view.specs.declared.requests.Plan.TheVariants as plan
use Rattle.file_view.specs.declared.view.Role.TheVariants as role
use Rattle.file_view.specs.Done.{IsDone}
use Rattle.file_view.specs.Overlay.{AwaitsOver, FitsImage, IsOverImage}
use Rattle.file_view.specs.Served.{Served, waits}
use Rattle.file_view.specs.Steady.{CommitsNothing}
use Rattle.world_laws.specs.Node as laws
use Rattle.world_laws.specs.Store.{StoreState}
use Rattle.node_core.specs.declared.answer.Answer.TheVariants as answers
use Rattle.node_core.specs.Files.{scene, told}
use Rattle.node_core.specs.Nodes.{parts_of, seen}
use Rattle.node_core.specs.Safely.{StepsSafely}
use Rattle.node_core.specs.Stores.{StoreFields, fields_of, history_of, position, state}
use Rattle.node_core.specs.Waiting.{Waits}
use Rattle.node_core.proofs.Answering.{Prepared, awaits-before, awaits-read, image-read, image-told, left, plan-safely, position-read, reads-safely, replica-read, shape-read, unsent}
use Rattle.node_core.proofs.Leaving.{Rests}
use Rattle.node_core.proofs.Halted.{awaits-sent, comes-of-draft, drafts-old, sends-safely}
use Rattle.node_core.proofs.node.Node.serve_halted.Goals as goal

pub invariant_of-self : goal.invariant_of-self
invariant_of-self g c =
    let n = c.args.self.now in
    let old = parts_of n in
    let h = history_of n.store in
    let m = c.prepare.new.store in
    let hm = history_of m in
    let fm = fields_of m in
    let w = c.prepare.new.view in
    let request = c.args.request.now in
    let law = c.replica_requests_leave_the_database.ensures.request in
    let p : Plan = c.in-Ok-Reply.field-0 in
    let prepared : Prepared h old c.args.caller request p w hm fm = record {
      read = c.prepare.ensures.read;
      planned = record { done = c.in-Ok-Reply.ensures.done; allowed = c.in-Ok-Reply.ensures.allowed };
      stands = c.prepare.ensures.stands;
      told_position = n.told;
      replica = n.replica;
      idle = n.idle;
      awaits = n.awaits;
      sound = c.sound.ensures;
      sized = n.store.sized.pages;
    } in
    record {
      shape = shape-read law h hm old fm w c.args.caller request p prepared;
      image = image-read law h hm old fm w c.args.caller request p prepared;
      named = c.prepare.ensures.name ∙ n.named;
      told = position-read law h hm old fm w c.args.caller request p prepared;
      replica = replica-read law h hm old fm w c.args.caller request p prepared;
      alone = n.alone;
      idle = subst (λ (q : Plan). Rests n.store.page_size n.store.commit n.view q w) c.in-Ok-Reply.field-0-is (left law h hm old fm w c.args.caller request p prepared).rests ∙ n.idle;
      awaits = awaits-read law h hm old fm w c.args.caller request p prepared;
      locked = (left law h hm old fm w c.args.caller request p prepared).locks n.locked;
    }

pub invariant_of-self-in-Ok-Silent : goal.invariant_of-self-in-Ok-Silent
invariant_of-self-in-Ok-Silent g c =
    let n = c.args.self.now in
    let old = parts_of n in
    let h = history_of n.store in
    let m = c.prepare.new.store in
    let hm = history_of m in
    let fm = fields_of m in
    let w = c.prepare.new.view in
    let request = c.args.request.now in
    let law = c.replica_requests_leave_the_database.ensures.request in
    let p : Plan = c.in-Ok-Silent.field-0 in
    let prepared : Prepared h old c.args.caller request p w hm fm = record {
      read = c.prepare.ensures.read;
      planned = record { done = c.in-Ok-Silent.ensures.done; allowed = c.in-Ok-Silent.ensures.allowed };
      stands = c.prepare.ensures.stands;
      told_position = n.told;
      replica = n.replica;
      idle = n.idle;
      awaits = n.awaits;
      sound = c.sound.ensures;
      sized = n.store.sized.pages;
    } in
    record {
      shape = shape-read law h hm old fm w c.args.caller request p prepared;
      image = image-read law h hm old fm w c.args.caller request p prepared;
      named = c.prepare.ensures.name ∙ n.named;
      told = position-read law h hm old fm w c.args.caller request p prepared;
      replica = replica-read law h hm old fm w c.args.caller request p prepared;
      alone = n.alone;
      idle = subst (λ (q : Plan). Rests n.store.page_size n.store.commit n.view q w) c.in-Ok-Silent.field-0-is (left law h hm old fm w c.args.caller request p prepared).rests ∙ n.idle;
      awaits = awaits-read law h hm old fm w c.args.caller request p prepared;
      locked = (left law h hm old fm w c.args.caller request p prepared).locks n.locked;
    }

pub returns-in-Ok-Reply-clause-safe : goal.returns-in-Ok-Reply-clause-safe
returns-in-Ok-Reply-clause-safe g c honest =
    let n = c.args.self.now in
    let old = parts_of n in
    let h = history_of n.store in
    let m = c.prepare.new.store in
    let hm = history_of m in
    let fm = fields_of m in
    let w = c.prepare.new.view in
    let request = c.args.request.now in
    let law = c.replica_requests_leave_the_database.ensures.request in
    let p : Plan = c.in-Ok-Reply.field-0 in
    let prepared : Prepared h old c.args.caller request p w hm fm = record {
      read = c.prepare.ensures.read;
      planned = record { done = c.in-Ok-Reply.ensures.done; allowed = c.in-Ok-Reply.ensures.allowed };
      stands = c.prepare.ensures.stands;
      told_position = n.told;
      replica = n.replica;
      idle = n.idle;
      awaits = n.awaits;
      sound = c.sound.ensures;
      sized = n.store.sized.pages;
    } in
    plan-safely law h hm old fm w c.args.caller request p prepared laws.Done honest (m.left (ap (λ (s : StoreFields). s.honest) c.prepare.ensures.read.same ∙ honest)) ((left law h hm old fm w c.args.caller request p prepared).locks n.locked).together tt tt

pub returns-in-Ok-Silent-clause-safe : goal.returns-in-Ok-Silent-clause-safe
returns-in-Ok-Silent-clause-safe g c honest =
    let n = c.args.self.now in
    let old = parts_of n in
    let h = history_of n.store in
    let m = c.prepare.new.store in
    let hm = history_of m in
    let fm = fields_of m in
    let w = c.prepare.new.view in
    let request = c.args.request.now in
    let law = c.replica_requests_leave_the_database.ensures.request in
    let p : Plan = c.in-Ok-Silent.field-0 in
    let prepared : Prepared h old c.args.caller request p w hm fm = record {
      read = c.prepare.ensures.read;
      planned = record { done = c.in-Ok-Silent.ensures.done; allowed = c.in-Ok-Silent.ensures.allowed };
      stands = c.prepare.ensures.stands;
      told_position = n.told;
      replica = n.replica;
      idle = n.idle;
      awaits = n.awaits;
      sound = c.sound.ensures;
      sized = n.store.sized.pages;
    } in
    plan-safely law h hm old fm w c.args.caller request p prepared laws.Done honest (m.left (ap (λ (s : StoreFields). s.honest) c.prepare.ensures.read.same ∙ honest)) ((left law h hm old fm w c.args.caller request p prepared).locks n.locked).together tt tt

pub returns-in-Err-clause-safe : goal.returns-in-Err-clause-safe
returns-in-Err-clause-safe g c honest =
    let n = c.args.self.now in
    let old = parts_of n in
    let h = history_of n.store in
    let m = c.prepare.new.store in
    let hm = history_of m in
    let fm = fields_of m in
    let read = c.prepare.ensures.read in
    let is : c.prepare.new.view ≡ n.view = c.in-Err.ensures.err in
    subst (λ (s : Served). StepsSafely (seen h old) laws.File (laws.Refused laws.Other) (seen hm (record old { store = fm; files = s })) h hm) (sym is)
    (reads-safely h hm old fm n.view (laws.Refused laws.Other) honest read (m.left (ap (λ (s : StoreFields). s.honest) read.same ∙ honest))
    (subst (λ (s : StoreState). IsOverImage n.view s.image) (sym (read.state honest)) (n.image honest)) n.locked.together n.replica (λ not none. (refl, refl)) tt refl)

pub invariant_of-self-in-Ok : goal.invariant_of-self-in-Ok
invariant_of-self-in-Ok g c =
    let n = c.args.self.now in
    let old = parts_of n in
    let h = history_of n.store in
    let m = c.prepare.new.store in
    let hm = history_of m in
    let fm = fields_of m in
    let w = c.prepare.new.view in
    let request = c.args.request.now in
    let law = c.replica_requests_leave_the_database.ensures.request in
    let p : Plan = c.in-Ok-Commit.field-0 in
    let prepared : Prepared h old c.args.caller request p w hm fm = record {
      read = c.prepare.ensures.read;
      planned = record { done = c.in-Ok-Commit.ensures.done; allowed = c.in-Ok-Commit.ensures.allowed };
      stands = c.prepare.ensures.stands;
      told_position = n.told;
      replica = n.replica;
      idle = n.idle;
      awaits = n.awaits;
      sound = c.sound.ensures;
      sized = n.store.sized.pages;
    } in
    let change = c.in-Ok-Commit.change in
    let is_plan : p ≡ plan.Commit c.in-Ok-Commit.reply change = c.in-Ok-Commit.field-0-is in
    let rests = subst (λ (q : Plan). Rests n.store.page_size n.store.commit n.view q w) is_plan (left law h hm old fm w c.args.caller request p prepared).rests in
    let none : n.sent ≡ None = unsent law h hm old fm w c.args.caller request p prepared (λ nothing. subst CommitsNothing is_plan nothing) in
    let awaits : AwaitsOver (told h old.store) w (plan.Commit c.in-Ok-Commit.reply change) = subst (λ (q : Plan). AwaitsOver (told h old.store) w q) is_plan c.in-Ok-Commit.ensures.awaits in
    let file = c.in-Ok.file in
    record {
      shape = shape-read law h hm old fm w c.args.caller request p prepared;
      image = image-read law h hm old fm w c.args.caller request p prepared;
      named = c.prepare.ensures.name ∙ n.named;
      told = position-read law h hm old fm w c.args.caller request p prepared;
      replica = replica-read law h hm old fm w c.args.caller request p prepared;
      alone = n.alone;
      idle = rests.3;
      awaits = (c.in-Ok.ensures.valid, λ not. awaits-sent h hm old.store fm w change n.standing.moment n.config.node file c.in-Ok.ensures.drafts (image-told law h hm old fm w c.args.caller request p prepared) awaits);
      locked = (left law h hm old fm w c.args.caller request p prepared).locks n.locked;
    }

pub returns-in-Ok-clause-does : goal.returns-in-Ok-clause-does
returns-in-Ok-clause-does g c =
    let n = c.args.self.now in
    let old = parts_of n in
    let h = history_of n.store in
    let m = c.prepare.new.store in
    let hm = history_of m in
    let fm = fields_of m in
    let w = c.prepare.new.view in
    let request = c.args.request.now in
    let law = c.replica_requests_leave_the_database.ensures.request in
    let p : Plan = c.in-Ok-Commit.field-0 in
    let prepared : Prepared h old c.args.caller request p w hm fm = record {
      read = c.prepare.ensures.read;
      planned = record { done = c.in-Ok-Commit.ensures.done; allowed = c.in-Ok-Commit.ensures.allowed };
      stands = c.prepare.ensures.stands;
      told_position = n.told;
      replica = n.replica;
      idle = n.idle;
      awaits = n.awaits;
      sound = c.sound.ensures;
      sized = n.store.sized.pages;
    } in
    let change = c.in-Ok-Commit.change in
    let is_plan : p ≡ plan.Commit c.in-Ok-Commit.reply change = c.in-Ok-Commit.field-0-is in
    let rests = subst (λ (q : Plan). Rests n.store.page_size n.store.commit n.view q w) is_plan (left law h hm old fm w c.args.caller request p prepared).rests in
    let none : n.sent ≡ None = unsent law h hm old fm w c.args.caller request p prepared (λ nothing. subst CommitsNothing is_plan nothing) in
    let awaits : AwaitsOver (told h old.store) w (plan.Commit c.in-Ok-Commit.reply change) = subst (λ (q : Plan). AwaitsOver (told h old.store) w q) is_plan c.in-Ok-Commit.ensures.awaits in
    record {
      pass = c.args.pass;
      reply = c.in-Ok-Commit.reply;
      change = change;
      file = c.in-Ok.file;
      waiting = w;
      permit = c.requires;
      number_is = refl;
      planned = record {
        done = subst (λ (q : Plan). IsDone (told h old.store) n.view (scene old c.args.caller) request q w) is_plan c.in-Ok-Commit.ensures.done;
        allowed = c.in-Ok-Commit.ensures.allowed;
      };
      drafts = drafts-old h hm old fm change (Ok c.in-Ok.file) c.prepare.ensures.read c.in-Ok.ensures.drafts;
      encodes = c.in-Ok.ensures.encodes.0;
      read = c.prepare.ensures.read;
      same = refl;
    }

pub returns-in-Ok-clause-safe : goal.returns-in-Ok-clause-safe
returns-in-Ok-clause-safe g c honest =
    let n = c.args.self.now in
    let old = parts_of n in
    let h = history_of n.store in
    let m = c.prepare.new.store in
    let hm = history_of m in
    let fm = fields_of m in
    let w = c.prepare.new.view in
    let request = c.args.request.now in
    let law = c.replica_requests_leave_the_database.ensures.request in
    let p : Plan = c.in-Ok-Commit.field-0 in
    let prepared : Prepared h old c.args.caller request p w hm fm = record {
      read = c.prepare.ensures.read;
      planned = record { done = c.in-Ok-Commit.ensures.done; allowed = c.in-Ok-Commit.ensures.allowed };
      stands = c.prepare.ensures.stands;
      told_position = n.told;
      replica = n.replica;
      idle = n.idle;
      awaits = n.awaits;
      sound = c.sound.ensures;
      sized = n.store.sized.pages;
    } in
    let change = c.in-Ok-Commit.change in
    let is_plan : p ≡ plan.Commit c.in-Ok-Commit.reply change = c.in-Ok-Commit.field-0-is in
    let rests = subst (λ (q : Plan). Rests n.store.page_size n.store.commit n.view q w) is_plan (left law h hm old fm w c.args.caller request p prepared).rests in
    let none : n.sent ≡ None = unsent law h hm old fm w c.args.caller request p prepared (λ nothing. subst CommitsNothing is_plan nothing) in
    let awaits : AwaitsOver (told h old.store) w (plan.Commit c.in-Ok-Commit.reply change) = subst (λ (q : Plan). AwaitsOver (told h old.store) w q) is_plan c.in-Ok-Commit.ensures.awaits in
    sends-safely h hm old fm w c.in-Ok.file (Some (record { caller = c.args.caller; reply = c.in-Ok-Commit.reply; file = c.in-Ok.file; overtaken = false })) refl c.args.pass c.requires honest c.prepare.ensures.read (m.left (ap (λ (s : StoreFields). s.honest) c.prepare.ensures.read.same ∙ honest))
    (image-read law h hm old fm w c.args.caller request p prepared (ap (λ (s : StoreFields). s.honest) c.prepare.ensures.read.same ∙ honest)) ((left law h hm old fm w c.args.caller request p prepared).locks n.locked).together rests.0 c.in-Ok.ltx c.in-Ok.ensures.encodes.1

pub invariant_of-self-in-Err-file_to_send : goal.invariant_of-self-in-Err-file_to_send
invariant_of-self-in-Err-file_to_send g c =
    let n = c.args.self.now in
    let old = parts_of n in
    let h = history_of n.store in
    let m = c.prepare.new.store in
    let hm = history_of m in
    let fm = fields_of m in
    let w = c.prepare.new.view in
    let request = c.args.request.now in
    let law = c.replica_requests_leave_the_database.ensures.request in
    let p : Plan = c.in-Ok-Commit.field-0 in
    let prepared : Prepared h old c.args.caller request p w hm fm = record {
      read = c.prepare.ensures.read;
      planned = record { done = c.in-Ok-Commit.ensures.done; allowed = c.in-Ok-Commit.ensures.allowed };
      stands = c.prepare.ensures.stands;
      told_position = n.told;
      replica = n.replica;
      idle = n.idle;
      awaits = n.awaits;
      sound = c.sound.ensures;
      sized = n.store.sized.pages;
    } in
    let change = c.in-Ok-Commit.change in
    let is_plan : p ≡ plan.Commit c.in-Ok-Commit.reply change = c.in-Ok-Commit.field-0-is in
    let rests = subst (λ (q : Plan). Rests n.store.page_size n.store.commit n.view q w) is_plan (left law h hm old fm w c.args.caller request p prepared).rests in
    let none : n.sent ≡ None = unsent law h hm old fm w c.args.caller request p prepared (λ nothing. subst CommitsNothing is_plan nothing) in
    let awaits : AwaitsOver (told h old.store) w (plan.Commit c.in-Ok-Commit.reply change) = subst (λ (q : Plan). AwaitsOver (told h old.store) w q) is_plan c.in-Ok-Commit.ensures.awaits in
    let is : c.abandon.new.self ≡ n.view = c.abandon.ensures ∙ rests.0 in
    let read = c.prepare.ensures.read in
    record {
      shape = subst (λ (s : Served). FitsImage s m.page_size m.commit) (sym is) (subst (λ (s : StoreFields). FitsImage n.view s.page_size s.commit) (sym read.same) n.shape);
      image = λ now.
          let honest = sym (ap (λ (s : StoreFields). s.honest) read.same) ∙ now in
          subst (λ (s : Served). IsOverImage s (state hm fm).image) (sym is) (subst (λ (s : StoreState). IsOverImage n.view s.image) (sym (read.state honest)) (n.image honest));
      named = ap (λ (s : Served). s.name) is ∙ n.named;
      told = ap (λ (s : Served). s.position) is ∙ n.told ∙ sym (ap position read.same);
      replica = λ not. ap (λ (s : Served). s.writer) is ∙ n.replica not;
      alone = n.alone;
      idle = ap waits is ∙ n.idle;
      awaits = subst (λ (v : Served). Waits (told hm fm) fm v n.sent) (sym is) (awaits-before law h hm old fm w c.args.caller request p prepared);
      locked = subst (λ (s : Served). IsLockList s.locks) (sym is) n.locked;
    }

pub returns-in-Err-file_to_send-clause-does : goal.returns-in-Err-file_to_send-clause-does
returns-in-Err-file_to_send-clause-does g c =
    let n = c.args.self.now in
    let old = parts_of n in
    let h = history_of n.store in
    let m = c.prepare.new.store in
    let hm = history_of m in
    let fm = fields_of m in
    let w = c.prepare.new.view in
    let request = c.args.request.now in
    let law = c.replica_requests_leave_the_database.ensures.request in
    let p : Plan = c.in-Ok-Commit.field-0 in
    let prepared : Prepared h old c.args.caller request p w hm fm = record {
      read = c.prepare.ensures.read;
      planned = record { done = c.in-Ok-Commit.ensures.done; allowed = c.in-Ok-Commit.ensures.allowed };
      stands = c.prepare.ensures.stands;
      told_position = n.told;
      replica = n.replica;
      idle = n.idle;
      awaits = n.awaits;
      sound = c.sound.ensures;
      sized = n.store.sized.pages;
    } in
    let change = c.in-Ok-Commit.change in
    let is_plan : p ≡ plan.Commit c.in-Ok-Commit.reply change = c.in-Ok-Commit.field-0-is in
    let rests = subst (λ (q : Plan). Rests n.store.page_size n.store.commit n.view q w) is_plan (left law h hm old fm w c.args.caller request p prepared).rests in
    let none : n.sent ≡ None = unsent law h hm old fm w c.args.caller request p prepared (λ nothing. subst CommitsNothing is_plan nothing) in
    let awaits : AwaitsOver (told h old.store) w (plan.Commit c.in-Ok-Commit.reply change) = subst (λ (q : Plan). AwaitsOver (told h old.store) w q) is_plan c.in-Ok-Commit.ensures.awaits in
    let is : c.abandon.new.self ≡ n.view = c.abandon.ensures ∙ rests.0 in
    let drafts = drafts-old h hm old fm change (Err c.in-Err-file_to_send.fault) c.prepare.ensures.read c.in-Err-file_to_send.ensures.refuses in
    inr (inr (inr record {
      pass = c.args.pass;
      reply = c.in-Ok-Commit.reply;
      change = change;
      waiting = w;
      why = c.in-Err-file_to_send.fault;
      permit = c.requires;
      planned = record {
        done = subst (λ (q : Plan). IsDone (told h old.store) n.view (scene old c.args.caller) request q w) is_plan c.in-Ok-Commit.ensures.done;
        allowed = c.in-Ok-Commit.ensures.allowed;
      };
      drafts = drafts;
      comes = comes-of-draft old change c.in-Err-file_to_send.fault drafts rests.2;
      number_is = c.errno_of_store.ensures;
      read = c.prepare.ensures.read;
      same = ap (λ (s : Served). record old { store = fm; files = s }) is;
    }))

pub returns-in-Err-file_to_send-clause-safe : goal.returns-in-Err-file_to_send-clause-safe
returns-in-Err-file_to_send-clause-safe g c honest =
    let n = c.args.self.now in
    let old = parts_of n in
    let h = history_of n.store in
    let m = c.prepare.new.store in
    let hm = history_of m in
    let fm = fields_of m in
    let w = c.prepare.new.view in
    let request = c.args.request.now in
    let law = c.replica_requests_leave_the_database.ensures.request in
    let p : Plan = c.in-Ok-Commit.field-0 in
    let prepared : Prepared h old c.args.caller request p w hm fm = record {
      read = c.prepare.ensures.read;
      planned = record { done = c.in-Ok-Commit.ensures.done; allowed = c.in-Ok-Commit.ensures.allowed };
      stands = c.prepare.ensures.stands;
      told_position = n.told;
      replica = n.replica;
      idle = n.idle;
      awaits = n.awaits;
      sound = c.sound.ensures;
      sized = n.store.sized.pages;
    } in
    let change = c.in-Ok-Commit.change in
    let is_plan : p ≡ plan.Commit c.in-Ok-Commit.reply change = c.in-Ok-Commit.field-0-is in
    let rests = subst (λ (q : Plan). Rests n.store.page_size n.store.commit n.view q w) is_plan (left law h hm old fm w c.args.caller request p prepared).rests in
    let none : n.sent ≡ None = unsent law h hm old fm w c.args.caller request p prepared (λ nothing. subst CommitsNothing is_plan nothing) in
    let awaits : AwaitsOver (told h old.store) w (plan.Commit c.in-Ok-Commit.reply change) = subst (λ (q : Plan). AwaitsOver (told h old.store) w q) is_plan c.in-Ok-Commit.ensures.awaits in
    let is : c.abandon.new.self ≡ n.view = c.abandon.ensures ∙ rests.0 in
    let read = c.prepare.ensures.read in
    subst (λ (s : Served). StepsSafely (seen h old) laws.File (laws.Refused laws.Other) (seen hm (record old { store = fm; files = s })) h hm) (sym is)
    (reads-safely h hm old fm n.view (laws.Refused laws.Other) honest read (m.left (ap (λ (s : StoreFields). s.honest) read.same ∙ honest))
    (subst (λ (s : StoreState). IsOverImage n.view s.image) (sym (read.state honest)) (n.image honest)) n.locked.together n.replica (λ not none. (refl, refl)) tt refl)
