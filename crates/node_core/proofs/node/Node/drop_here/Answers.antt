use Rattle.std.proofs.Common.{◌≡◌, ◌∙◌, ◌≤◌, IsTrue, Ok, Err, inl, inr, ap, refl, subst, sym, arith}
use Rattle.byte_locks.specs.LockList.{IsLockList}
use Rattle.lf_base.specs.declared.pos.Pos.{Pos}
use Rattle.lf_sqlite_pages.specs.Image.{DatabaseImage}
use Rattle.ltx_codec.specs.Positions.{nowhere}
use Rattle.file_view.specs.Endings.{applied}
use Rattle.file_view.specs.Overlay.{FitsImage, IsOverImage}
use Rattle.file_view.specs.Served.{Served, waits}
use Rattle.txn_log.specs.Store.{end_of_entries}
use Rattle.txn_log.specs.declared.fault.StoreFault.TheVariants as fault
use Rattle.txn_log.proofs.Entries.{end-empty}
use Rattle.world_laws.specs.Node as laws
use Rattle.world_laws.specs.Step.{drops}
use Rattle.world_laws.specs.Store.{DropAll, StoreState, at}
use Rattle.node_core.specs.declared.answer.Answer.TheVariants as answers
use Rattle.node_core.specs.declared.refusal.Refusal.{Refusal}
use Rattle.node_core.specs.Dropping.{AnswersDrop}
use Rattle.node_core.specs.Nodes.{NodeParts, parts_of, role_in, seen}
use Rattle.node_core.specs.Safely.{StepsSafely, law_answer, law_store_fault}
use Rattle.node_core.specs.Stores.{failed, fields_of, history_of, position, state, told}
use Rattle.node_core.proofs.Asking.{called, failed-some}
use Rattle.node_core.proofs.Calls.{err-same}
use Rattle.node_core.proofs.Dropped.{disk-rose, drop-changes, dropped-fits, dropped-over}
use Rattle.node_core.proofs.Facts.{ok_err, says-none}
use Rattle.node_core.proofs.Following.{free, holds-back, not-primary}
use Rattle.node_core.proofs.Owing.{at-position}
use Rattle.node_core.proofs.Reading.{rests_stay}
use Rattle.node_core.proofs.Refusing.{drop-refused, law-refusal-of, ran-undone, refuses-drop}
use Rattle.node_core.proofs.Sound.{leads, sound}
use Rattle.node_core.proofs.Steady.{steady-files, steps-still}
use Rattle.node_core.specs.declared.sent.Sent.{Sent}
use Rattle.node_core.specs.Waiting.{Waits}
use Rattle.node_core.proofs.Waiting.{applied-waits, overtaken-some, waits-kept, waits-overtaken}
use Rattle.std.specs.Prelude.{Option, is_some}
use Rattle.node_core.proofs.node.Node.drop_here.Goals as goal

pub returns-then-leads-clause-safe : goal.returns-then-leads-clause-safe
returns-then-leads-clause-safe g c honest =
    let n = c.args.self.now in
    let h = history_of n.store in
    let old = parts_of n in
    steps-still (seen h old) (seen h old) laws.Drop (laws.Refused laws.NotReplica) h h ∣ rests_stay h ∣₁ refl refl (n.store.left honest)
    (says-none (seen h old) (seen h old) (seen h old).role laws.Drop (laws.Refused laws.NotReplica) (leads (role_in old) (c.leads.ensures.yes c.if-leads.true)) refl
    (λ plain still. steady-files h h old old.store old.files refl refl refl) (sound h old (n.image honest) n.locked.together n.replica))

pub returns-in-Err-clause-safe : goal.returns-in-Err-clause-safe
returns-in-Err-clause-safe g c honest =
    let n = c.args.self.now in
    let h = history_of n.store in
    let old = parts_of n in
    let lock = c.in-Err.lock in
    steps-still (seen h old) (seen h old) laws.Drop (laws.Held lock) h h ∣ rests_stay h ∣₁ refl refl (n.store.left honest)
    (says-none (seen h old) (seen h old) (seen h old).role laws.Drop (laws.Held lock) (holds-back n.view n.store.wal (state h old.store).image (n.store.mode honest) lock c.in-Err.ensures.held) refl
    (λ plain still. steady-files h h old old.store old.files refl refl refl) (sound h old (n.image honest) n.locked.together n.replica))

pub returns-then-pos-eq0-clause-safe : goal.returns-then-pos-eq0-clause-safe
returns-then-pos-eq0-clause-safe g c honest =
    let n = c.args.self.now in
    let h = history_of n.store in
    let old = parts_of n in
    let here = at-position h old.store (n.store.kept honest) in
    let none : (at (state h old.store)).txid ≡ 0 = ap (λ (p : Pos). p.txid) (here ∙ sym c.pos.ensures.value) ∙ c.if-pos-eq0.true in
    steps-still (seen h old) (seen h old) laws.Drop (laws.Applied nowhere) h h ∣ rests_stay h ∣₁ refl refl (n.store.left honest)
    (says-none (seen h old) (seen h old) (seen h old).role laws.Drop (laws.Applied nowhere) (inr (none, refl), refl, refl) tt
    (λ plain still. steady-files h h old old.store old.files refl refl refl) (sound h old (n.image honest) n.locked.together n.replica))

pub invariant_of-self-in-Ok : goal.invariant_of-self-in-Ok
invariant_of-self-in-Ok g c =
    let n = c.args.self.now in
    let t = c.drop_all.new.self in
    let at = c.pos-in-Ok.result in
    let files = record (applied n.view 0 0) { position = at } in
    let is : c.told_position.new.self ≡ files = c.told_position.ensures ∙ ap (λ (s : Served). record s { position = at }) c.applied.ensures.done in
    let shape = c.in-Ok.ensures.shape in
    record {
      shape = subst (λ (s : Served). FitsImage s t.page_size t.commit) (sym is)
          (subst (λ p. FitsImage files p t.commit) (sym shape.0) (subst (λ k. FitsImage files 0 k) (sym shape.1) (dropped-fits n.view at)));
      image = λ honest. let image = (state (history_of t) (fields_of t)).image in subst (λ (s : Served). IsOverImage s image) (sym is) (dropped-over n.view at image);
      named = ap (λ (s : Served). s.name) is ∙ n.named;
      told = ap (λ (s : Served). s.position) is ∙ c.pos-in-Ok.ensures.value;
      replica = λ not. ap (λ (s : Served). s.writer) is;
      alone = n.alone;
      idle = ap waits is ∙ applied-waits n.view 0 0 ∙ n.idle ∙ sym (ap is_some c.overtake.ensures ∙ overtaken-some n.sent);
      awaits =
          let start = history_of n.store in
          let end = history_of t in
          let view = c.told_position.new.self in
          subst (λ (o : Option Sent). Waits (told end (fields_of t)) (fields_of t) view o) (sym c.overtake.ensures)
          (waits-overtaken (told start (fields_of n.store)) (told end (fields_of t)) (fields_of n.store) (fields_of t) n.view view n.sent n.awaits);
      locked = subst (λ (s : Served). IsLockList s.locks) (sym is) n.locked;
    }

pub returns-in-Ok-clause-does : goal.returns-in-Ok-clause-does
returns-in-Ok-clause-does g c =
    let n = c.args.self.now in
    let old = parts_of n in
    let h = history_of n.store in
    let t = c.drop_all.new.self in
    let end = history_of t in
    let nowhere_is : c.pos-in-Ok.result ≡ nowhere = c.pos-in-Ok.ensures.value ∙ ap end_of_entries c.in-Ok.ensures.shape.2 ∙ end-empty in
    let is : c.told_position.new.self ≡ record (applied n.view 0 0) { position = nowhere } =
    c.told_position.ensures ∙ (λ i. record (c.applied.ensures.done i) { position = nowhere_is i }) in
    let first : 1 ≤ (position old.store).txid = omega (arith, ap (λ (p : Pos). p.txid) c.pos.ensures.value, c.if-pos-eq0.false) in (
      c.leads.ensures.no c.if-leads.false,
      c.in_default.ensures.clear,
      refl,
      inl (
        first,
        record {
          drops = record {
            answers = c.in-Ok.ensures.drops;
            cause = c.in-Ok.ensures.cause;
            store = λ honest. drop-changes h end old.store (fields_of t) {T = Unit {0}} (Ok tt) c.in-Ok.ensures.drops (c.in-Ok.ensures.went honest);
            honest = c.drop_all.ensures.honest;
          };
          empty = c.in-Ok.ensures.shape;
          same = λ i. record old { store = fields_of t; files = is i; sent = c.overtake.ensures i };
        },
      ),
    )

pub returns-in-Ok-clause-safe : goal.returns-in-Ok-clause-safe
returns-in-Ok-clause-safe g c honest =
    let n = c.args.self.now in
    let old = parts_of n in
    let h = history_of n.store in
    let t = c.drop_all.new.self in
    let end = history_of t in
    let files = record (applied n.view 0 0) { position = c.pos-in-Ok.result } in
    let is : c.told_position.new.self ≡ files = c.told_position.ensures ∙ ap (λ (s : Served). record s { position = c.pos-in-Ok.result }) c.applied.ensures.done in
    let new : NodeParts = record old { store = fields_of t; files = c.told_position.new.self; sent = c.overtake.new.sent } in
    let image = (state end (fields_of t)).image in
    let first : 1 ≤ (position old.store).txid = omega (arith, ap (λ (p : Pos). p.txid) c.pos.ensures.value, c.if-pos-eq0.false) in
    let some : 1 ≤ (at (state h old.store)).txid = subst (λ (p : Pos). 1 ≤ p.txid) (sym (at-position h old.store (n.store.kept honest))) first in
    called (seen h old) (seen end new) laws.Drop (laws.Applied nowhere) DropAll h end (drops (not-primary (role_in old) (c.leads.ensures.no c.if-leads.false)))
    (sound end new (subst (λ (s : Served). IsOverImage s image) (sym is) (dropped-over n.view c.pos-in-Ok.result image)) (subst (λ (s : Served). IsLockList s.locks) (sym is) n.locked).together
    (λ not. ap (λ (s : Served). s.writer) is))
    (λ plain still lock held. absurd (free n.view n.store.wal (state h old.store).image (n.store.mode honest) lock c.in_default.ensures.clear held))
    {T = Unit {0}} (Ok tt) (c.in-Ok.ensures.went honest) (λ same. absurd (ok_err tt fault.Disk same)) (λ did failure ran. ((inl (some, ran.0), ran.1, refl), tt))

pub invariant_of-self-in-Err-drop_all : goal.invariant_of-self-in-Err-drop_all
invariant_of-self-in-Err-drop_all g c =
    let n = c.args.self.now in
    let t = c.drop_all.new.self in
    let h = history_of n.store in
    let end = history_of t in
    let old = parts_of n in
    let given = c.in-Err-drop_all.ensures in
    let alike = λ (honest : IsTrue old.store.honest).
    ap (λ (s : StoreState). s.image)
    (err-same (Unit {0}) (state h old.store) (state end (fields_of t)) (failed h old.store) (failed end (fields_of t)) DropAll c.in-Err-drop_all.fault
    (drop-changes h end old.store (fields_of t) {T = Unit {0}} (Err c.in-Err-drop_all.fault) given.drops (given.went honest))) in
    record {
      shape = subst (λ p. FitsImage n.view p t.commit) (sym given.same.0) (subst (λ k. FitsImage n.view n.store.page_size k) (sym given.same.1) n.shape);
      image = λ still. let honest = sym c.drop_all.ensures.honest ∙ still in subst (λ (i : DatabaseImage). IsOverImage n.view i) (sym (alike honest)) (n.image honest);
      named = n.named;
      told = n.told ∙ sym (ap end_of_entries given.same.2);
      replica = n.replica;
      alone = n.alone;
      idle = n.idle;
      awaits = waits-kept h end old.store (fields_of t) n.view n.sent c.drop_all.ensures.honest alike (ap end_of_entries given.same.2) n.awaits;
      locked = n.locked;
    }

pub returns-in-Err-drop_all-clause-does : goal.returns-in-Err-drop_all-clause-does
returns-in-Err-drop_all-clause-does g c =
    let n = c.args.self.now in
    let old = parts_of n in
    let h = history_of n.store in
    let t = c.drop_all.new.self in
    let end = history_of t in
    let why = c.in-Err-drop_all.fault in
    let new : NodeParts = record old { store = fields_of t } in
    let given = c.in-Err-drop_all.ensures in
    let first : 1 ≤ (position old.store).txid = omega (arith, ap (λ (p : Pos). p.txid) c.pos.ensures.value, c.if-pos-eq0.false) in
    subst (λ (r : Refusal). AnswersDrop h old (answers.Refused r) end new) (sym c.refusal_of.ensures)
    (refuses-drop h old why end new (c.leads.ensures.no c.if-leads.false) c.in_default.ensures.clear first given.drops record {
      drops = record {
        answers = given.drops;
        cause = given.cause;
        store = λ honest. drop-changes h end old.store (fields_of t) {T = Unit {0}} (Err why) given.drops (given.went honest);
        honest = c.drop_all.ensures.honest;
      };
      shape = given.same;
      same = refl;
    })

pub returns-in-Err-drop_all-clause-safe : goal.returns-in-Err-drop_all-clause-safe
returns-in-Err-drop_all-clause-safe g c honest =
    let n = c.args.self.now in
    let old = parts_of n in
    let h = history_of n.store in
    let t = c.drop_all.new.self in
    let end = history_of t in
    let why = c.in-Err-drop_all.fault in
    let new : NodeParts = record old { store = fields_of t } in
    let given = c.in-Err-drop_all.ensures in
    let still : state end (fields_of t) ≡ state h old.store =
    err-same (Unit {0}) (state h old.store) (state end (fields_of t)) (failed h old.store) (failed end (fields_of t)) DropAll why (drop-changes h end old.store (fields_of t) {T = Unit {0}} (Err why) given.drops (given.went honest)) in
    let safe : StepsSafely (seen h old) laws.Drop (laws.Refused (law_store_fault why)) (seen end new) h end =
    called (seen h old) (seen end new) laws.Drop (laws.Refused (law_store_fault why)) DropAll h end (drops (not-primary (role_in old) (c.leads.ensures.no c.if-leads.false)))
    (sound end new (subst (λ (s : StoreState). IsOverImage n.view s.image) (sym still) (n.image honest)) n.locked.together n.replica)
    (λ plain again lock held. steady-files h end old (fields_of t) old.files still refl refl)
    {T = Unit {0}} (Err why) (given.went honest) (disk-rose {T = Unit {0}} n.store.broken t.broken old.store.faults (fields_of t).faults (Err why) given.cause)
    (λ did failure ran. (
      drop-refused (seen h old) (seen h old).role n.store.broken why DropAll did failure (failed-some h n.store.broken n.store.attempt n.store.tried) given.drops ran,
      ran-undone (Unit {0}) why DropAll did failure ran,
    )) in
    subst (λ (r : Refusal). StepsSafely (seen h old) laws.Drop (law_answer (answers.Refused r)) (seen end new) h end) (sym c.refusal_of.ensures)
    (subst (λ (r : laws.Refusal). StepsSafely (seen h old) laws.Drop (laws.Refused r) (seen end new) h end) (sym (law-refusal-of why)) safe)
