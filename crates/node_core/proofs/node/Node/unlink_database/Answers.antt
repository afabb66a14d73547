use Rattle.std.proofs.Common.{◌≡◌, ◌∙◌, ◌≤◌, IsTrue, Ok, Err, inl, inr, ap, refl, subst, sym, arith}
use Rattle.lf_base.specs.declared.pos.Pos.{Pos}
use Rattle.lf_sqlite_pages.specs.Image.{DatabaseImage}
use Rattle.ltx_codec.specs.Positions.{nowhere}
use Rattle.file_view.specs.Endings.{applied}
use Rattle.file_view.specs.Overlay.{FitsImage, IsOverImage}
use Rattle.file_view.specs.Refusal.{IsAllowed}
use Rattle.file_view.specs.Served.{Served, waits}
use Rattle.txn_log.specs.Store.{end_of_entries}
use Rattle.txn_log.proofs.Entries.{end-empty}
use Rattle.world_laws.specs.Node as laws
use Rattle.byte_locks.specs.LockList.{IsLockList}
use Rattle.world_laws.specs.Step.{unlinks}
use Rattle.txn_log.specs.declared.fault.StoreFault.TheVariants as fault
use Rattle.world_laws.specs.Store.{DropAll, StoreState}
use Rattle.node_core.specs.Nodes.{NodeParts, parts_of, role_in, seen}
use Rattle.node_core.specs.Stores.{failed, fields_of, history_of, state, told}
use Rattle.node_core.specs.Unlinking.{unlink_rows}
use Rattle.node_core.proofs.Dropped.{disk-rose, drop-changes, dropped-fits, dropped-over, leads-allowed}
use Rattle.node_core.proofs.Calls.{err-same}
use Rattle.node_core.proofs.Facts.{calls, ok_err, says-none}
use Rattle.node_core.proofs.Reading.{rests_stay}
use Rattle.node_core.proofs.Sound.{leads, sound}
use Rattle.node_core.proofs.Steady.{steady-files, steps-still}
use Rattle.node_core.specs.declared.sent.Sent.{Sent}
use Rattle.node_core.specs.Waiting.{Waits}
use Rattle.node_core.proofs.Waiting.{applied-waits, overtaken-some, waits-kept, waits-overtaken}
use Rattle.std.specs.Prelude.{Option, is_some}
use Rattle.node_core.proofs.node.Node.unlink_database.Goals as goal

pub returns-in-Some-clause-safe : goal.returns-in-Some-clause-safe
returns-in-Some-clause-safe g c honest =
    let n = c.args.self.now in
    let h = history_of n.store in
    let old = parts_of n in
    steps-still (seen h old) (seen h old) laws.File (laws.Refused laws.Other) h h ∣ rests_stay h ∣₁ refl refl (n.store.left honest)
    (says-none (seen h old) (seen h old) (seen h old).role laws.File (laws.Refused laws.Other) tt refl (λ plain still. steady-files h h old old.store old.files refl refl refl)
    (sound h old (n.image honest) n.locked.together n.replica))

pub returns-then-pos-eq0-clause-safe : goal.returns-then-pos-eq0-clause-safe
returns-then-pos-eq0-clause-safe g c honest =
    let n = c.args.self.now in
    let h = history_of n.store in
    let old = parts_of n in
    steps-still (seen h old) (seen h old) laws.File laws.Done h h ∣ rests_stay h ∣₁ refl refl (n.store.left honest)
    (says-none (seen h old) (seen h old) (seen h old).role laws.File laws.Done tt tt (λ plain still. steady-files h h old old.store old.files refl refl refl)
    (sound h old (n.image honest) n.locked.together n.replica))

pub invariant_of-self-in-Ok : goal.invariant_of-self-in-Ok
invariant_of-self-in-Ok g c =
    let n = c.args.self.now in
    let t = c.drop_all.new.self in
    let at = c.pos-in-Ok.result in
    let files = record (applied n.view 0 0) { position = at } in
    let is : c.told_position.new.self ≡ files = c.told_position.ensures ∙ ap (λ (s : Served). record s { position = at }) c.applied.ensures.done in
    let shape = c.in-Ok.ensures.shape in
    record {
      shape = subst (λ (s : Served). FitsImage s t.page_size t.commit) (sym is)
          (subst (λ p. FitsImage files p t.commit) (sym shape.0) (subst (λ k. FitsImage files 0 k) (sym shape.1) (dropped-fits n.view at)));
      image = λ honest. let image = (state (history_of t) (fields_of t)).image in subst (λ (s : Served). IsOverImage s image) (sym is) (dropped-over n.view at image);
      named = ap (λ (s : Served). s.name) is ∙ n.named;
      told = ap (λ (s : Served). s.position) is ∙ c.pos-in-Ok.ensures.value;
      replica = λ not. ap (λ (s : Served). s.writer) is;
      alone = n.alone;
      idle = ap waits is ∙ applied-waits n.view 0 0 ∙ n.idle ∙ sym (ap is_some c.overtake.ensures ∙ overtaken-some n.sent);
      awaits =
          let start = history_of n.store in
          let end = history_of t in
          let view = c.told_position.new.self in
          subst (λ (o : Option Sent). Waits (told end (fields_of t)) (fields_of t) view o) (sym c.overtake.ensures)
          (waits-overtaken (told start (fields_of n.store)) (told end (fields_of t)) (fields_of n.store) (fields_of t) n.view view n.sent n.awaits);
      locked = subst (λ (s : Served). IsLockList s.locks) (sym is) n.locked;
    }

pub returns-in-Ok-clause-does : goal.returns-in-Ok-clause-does
returns-in-Ok-clause-does g c =
    let n = c.args.self.now in
    let old = parts_of n in
    let h = history_of n.store in
    let t = c.drop_all.new.self in
    let end = history_of t in
    let at = c.pos-in-Ok.result in
    let nowhere_is : at ≡ nowhere = c.pos-in-Ok.ensures.value ∙ ap end_of_entries c.in-Ok.ensures.shape.2 ∙ end-empty in
    let is : c.told_position.new.self ≡ record (applied n.view 0 0) { position = nowhere } =
    c.told_position.ensures ∙ (λ i. record (c.applied.ensures.done i) { position = nowhere_is i }) in
    let allowed : IsAllowed (unlink_rows old) = sym c.unlink_refusal.ensures ∙ c.in_default.is in
    let first : 1 ≤ (end_of_entries n.store.entries.items).txid = omega (arith, ap (λ (p : Pos). p.txid) c.pos.ensures.value, c.if-pos-eq0.false) in (
      refl,
      allowed,
      inl (
        first,
        record {
          drops = record {
            answers = c.in-Ok.ensures.drops;
            cause = c.in-Ok.ensures.cause;
            store = λ honest. drop-changes h end old.store (fields_of t) {T = Unit {0}} (Ok tt) c.in-Ok.ensures.drops (c.in-Ok.ensures.went honest);
            honest = c.drop_all.ensures.honest;
          };
          empty = c.in-Ok.ensures.shape;
          same = λ i. record old { store = fields_of t; files = is i; sent = c.overtake.ensures i };
        },
      ),
    )

pub returns-in-Ok-clause-safe : goal.returns-in-Ok-clause-safe
returns-in-Ok-clause-safe g c honest =
    let n = c.args.self.now in
    let old = parts_of n in
    let h = history_of n.store in
    let t = c.drop_all.new.self in
    let end = history_of t in
    let at = c.pos-in-Ok.result in
    let files = record (applied n.view 0 0) { position = at } in
    let is : c.told_position.new.self ≡ files = c.told_position.ensures ∙ ap (λ (s : Served). record s { position = at }) c.applied.ensures.done in
    let new : NodeParts = record old { store = fields_of t; files = c.told_position.new.self; sent = c.overtake.new.sent } in
    let image = (state end (fields_of t)).image in
    let allowed : IsAllowed (unlink_rows old) = sym c.unlink_refusal.ensures ∙ c.in_default.is in
    let primary = leads (role_in old) (leads-allowed old allowed) in
    calls (seen h old) (seen end new) h h end ∣ rests_stay h ∣₁ primary
    (sound end new (subst (λ (s : Served). IsOverImage s image) (sym is) (dropped-over n.view at image)) (subst (λ (s : Served). IsLockList s.locks) (sym is) n.locked).together
    (λ not. ap (λ (s : Served). s.writer) is))
    DropAll unlinks {T = Unit {0}} (Ok tt) (c.in-Ok.ensures.went honest) (λ same. absurd (ok_err tt fault.Disk same))

pub invariant_of-self-in-Err-1 : goal.invariant_of-self-in-Err-1
invariant_of-self-in-Err-1 g c =
    let n = c.args.self.now in
    let t = c.drop_all.new.self in
    let h = history_of n.store in
    let end = history_of t in
    let old = parts_of n in
    let given = c.in-Err.ensures in
    let alike = λ (honest : IsTrue old.store.honest).
    ap (λ (s : StoreState). s.image)
    (err-same (Unit {0}) (state h old.store) (state end (fields_of t)) (failed h old.store) (failed end (fields_of t)) DropAll c.in-Err.fault
    (drop-changes h end old.store (fields_of t) {T = Unit {0}} (Err c.in-Err.fault) given.drops (given.went honest))) in
    record {
      shape = subst (λ p. FitsImage n.view p t.commit) (sym given.same.0) (subst (λ k. FitsImage n.view n.store.page_size k) (sym given.same.1) n.shape);
      image = λ still. let honest = sym c.drop_all.ensures.honest ∙ still in subst (λ (i : DatabaseImage). IsOverImage n.view i) (sym (alike honest)) (n.image honest);
      named = n.named;
      told = n.told ∙ sym (ap end_of_entries given.same.2);
      replica = n.replica;
      alone = n.alone;
      idle = n.idle;
      awaits = waits-kept h end old.store (fields_of t) n.view n.sent c.drop_all.ensures.honest alike (ap end_of_entries given.same.2) n.awaits;
      locked = n.locked;
    }

pub returns-in-Err-clause-does : goal.returns-in-Err-clause-does
returns-in-Err-clause-does g c =
    let n = c.args.self.now in
    let old = parts_of n in
    let h = history_of n.store in
    let t = c.drop_all.new.self in
    let end = history_of t in
    let allowed : IsAllowed (unlink_rows old) = sym c.unlink_refusal.ensures ∙ c.in_default.is in
    let first : 1 ≤ (end_of_entries n.store.entries.items).txid = omega (arith, ap (λ (p : Pos). p.txid) c.pos.ensures.value, c.if-pos-eq0.false) in
    inr (
      allowed,
      first,
      (
        c.in-Err.fault,
        c.errno_of_store.ensures,
        record {
          drops = record {
            answers = c.in-Err.ensures.drops;
            cause = c.in-Err.ensures.cause;
            store = λ honest. drop-changes h end old.store (fields_of t) {T = Unit {0}} (Err c.in-Err.fault) c.in-Err.ensures.drops (c.in-Err.ensures.went honest);
            honest = c.drop_all.ensures.honest;
          };
          shape = c.in-Err.ensures.same;
          same = refl;
        },
      ),
    )

pub returns-in-Err-clause-safe : goal.returns-in-Err-clause-safe
returns-in-Err-clause-safe g c honest =
    let n = c.args.self.now in
    let old = parts_of n in
    let h = history_of n.store in
    let t = c.drop_all.new.self in
    let end = history_of t in
    let new : NodeParts = record old { store = fields_of t } in
    let allowed : IsAllowed (unlink_rows old) = sym c.unlink_refusal.ensures ∙ c.in_default.is in
    let primary = leads (role_in old) (leads-allowed old allowed) in
    let still : state end (fields_of t) ≡ state h old.store =
    err-same (Unit {0}) (state h old.store) (state end (fields_of t)) (failed h old.store) (failed end (fields_of t)) DropAll c.in-Err.fault (drop-changes h end old.store (fields_of t) {T = Unit {0}} (Err c.in-Err.fault) c.in-Err.ensures.drops (c.in-Err.ensures.went honest)) in
    calls (seen h old) (seen end new) h h end ∣ rests_stay h ∣₁ primary
    (sound end new (subst (λ (s : StoreState). IsOverImage n.view s.image) (sym still) (n.image honest)) n.locked.together n.replica)
    DropAll unlinks {T = Unit {0}} (Err c.in-Err.fault) (c.in-Err.ensures.went honest)
    (disk-rose {T = Unit {0}} n.store.broken t.broken old.store.faults (fields_of t).faults (Err c.in-Err.fault) c.in-Err.ensures.cause)
