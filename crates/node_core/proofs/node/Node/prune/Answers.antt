use Rattle.std.proofs.Common.{◌≡◌, ◌∙◌, ◌≤◌, ℕ, IsTrue, Ok, Err, ap, refl, sym, subst, arith}
use Rattle.lf_base.specs.declared.pos.Pos.{Pos}
use Rattle.lf_sqlite_pages.specs.Image.{DatabaseImage}
use Rattle.file_view.specs.Overlay.{FitsImage, IsOverImage}
use Rattle.world_laws.specs.Node as laws
use Rattle.world_laws.specs.Store.{PruneTo}
use Rattle.node_core.specs.declared.answer.Answer.TheVariants as answers
use Rattle.node_core.specs.declared.ask.Ask.TheVariants as asks
use Rattle.node_core.specs.declared.refusal.Refusal.{Refusal}
use Rattle.node_core.specs.Errors.{refusal_of}
use Rattle.node_core.specs.Nodes.{NodeParts, parts_of, seen}
use Rattle.node_core.specs.Pruning.{PrunesStore, kept_of}
use Rattle.node_core.specs.Safely.{StepsSafely, law_answer, law_store_fault}
use Rattle.node_core.specs.Steps.{IsStep}
use Rattle.node_core.specs.Stores.{fields_of, history_of, position, said_of}
use Rattle.node_core.proofs.Facts.{says-none}
use Rattle.node_core.proofs.Looked.{prune-changes, pruned-image, prunes-safely}
use Rattle.node_core.proofs.OneAsk.{role-as, told-as}
use Rattle.node_core.proofs.Reading.{rests_stay}
use Rattle.node_core.proofs.Refusing.{law-refusal-of, ran-undone, refuses-prune}
use Rattle.node_core.proofs.Sound.{sound}
use Rattle.node_core.proofs.Steady.{steady-files, steps-still}
use Rattle.node_core.proofs.Waiting.{waits-kept}
use Rattle.node_core.proofs.node.Node.prune.Goals as goal

pub returns-then-pos-eq0 : goal.returns-then-pos-eq0
returns-then-pos-eq0 g c =
    let n = c.args.self.now in
    let h = history_of n.store in
    let old = parts_of n in
    let keep = kept_of c.args.keep in
    let none : (position old.store).txid ≡ 0 = ap (λ (p : Pos). p.txid) (sym c.pos.ensures.value) ∙ c.if-pos-eq0.true in
    let safe : IsTrue old.store.honest → StepsSafely (seen h old) (laws.Prune keep) (laws.Refused laws.Other) (seen h old) h h =
    λ honest.
    steps-still (seen h old) (seen h old) (laws.Prune keep) (laws.Refused laws.Other) h h ∣ rests_stay h ∣₁ refl refl (n.store.left honest)
    (says-none (seen h old) (seen h old) (seen h old).role (laws.Prune keep) (laws.Refused laws.Other) tt refl (λ plain still. steady-files h h old old.store old.files refl refl refl)
    (sound h old (n.image honest) n.locked.together n.replica)) in
    record {
      step = λ caller. record {
        does = record { tells = (none, refl); same = refl };
        safe = λ honest law of. told-as of (safe honest);
        role = λ honest law of. role-as of (safe honest) (λ r keeps. keeps);
        lease = (refl, refl);
        honest = refl;
      };
    }

pub invariant_of-self : goal.invariant_of-self
invariant_of-self g c =
    let n = c.args.self.now in
    let t = c.prune.new.self in
    let h = history_of n.store in
    let end = history_of t in
    let old = parts_of n in
    let shape = c.prune.ensures.shape in
    let alike = λ (honest : IsTrue old.store.honest). pruned-image h end old (fields_of t) c.max.result c.prune.result c.prune.ensures.prunes (c.prune.ensures.went honest) in
    record {
      shape = subst (λ p. FitsImage n.view p t.commit) (sym shape.0) (subst (λ k. FitsImage n.view n.store.page_size k) (sym shape.1) n.shape);
      image = λ still. let honest = sym c.prune.ensures.honest ∙ still in subst (λ (i : DatabaseImage). IsOverImage n.view i) (sym (alike honest)) (n.image honest);
      named = n.named;
      told = n.told ∙ sym c.prune.ensures.position;
      replica = n.replica;
      alone = n.alone;
      idle = n.idle;
      awaits = waits-kept h end old.store (fields_of t) n.view n.sent c.prune.ensures.honest alike c.prune.ensures.position n.awaits;
      locked = n.locked;
    }

pub returns-in-Ok : goal.returns-in-Ok
returns-in-Ok g c =
    let n = c.args.self.now in
    let h = history_of n.store in
    let old = parts_of n in
    let t = c.prune.new.self in
    let end = history_of t in
    let keep = c.max.result in
    let is : keep ≡ kept_of c.args.keep = c.max.ensures in
    let some : 1 ≤ (position old.store).txid = omega (arith, ap (λ (p : Pos). p.txid) c.pos.ensures.value, c.if-pos-eq0.false) in
    let safe : IsTrue old.store.honest → StepsSafely (seen h old) (laws.Prune (kept_of c.args.keep)) laws.Done (seen end (record old { store = fields_of t })) h end =
    λ honest.
    subst (λ (k : ℕ). StepsSafely (seen h old) (laws.Prune k) laws.Done (seen end (record old { store = fields_of t })) h end) is
    (prunes-safely h end old (fields_of t) keep (Ok c.in-Ok.count) c.in-Ok.ensures.prunes (c.in-Ok.ensures.went honest) (n.store.kept honest) (t.kept (c.prune.ensures.honest ∙ honest))
    c.prune.ensures.position laws.Done (n.image honest) n.locked.together n.replica c.in-Ok.ensures.cause (λ did failure ran. tt)) in
    record {
      step = λ caller. record {
        does = record {
          tells = (
            some,
            subst (λ (k : ℕ). PrunesStore h old.store k (Ok c.in-Ok.count) end (fields_of t)) is record {
              answers = c.in-Ok.ensures.prunes;
              cause = c.in-Ok.ensures.cause;
              shape = (c.prune.ensures.shape.0, c.prune.ensures.shape.1, c.prune.ensures.position);
              store = λ honest. prune-changes h end old (fields_of t) keep (Ok c.in-Ok.count) c.in-Ok.ensures.prunes (c.in-Ok.ensures.went honest);
              honest = c.prune.ensures.honest;
            },
          );
          same = refl;
        };
        safe = λ honest law of. told-as of (safe honest);
        role = λ honest law of. role-as of (safe honest) (λ r keeps. keeps);
        lease = (refl, refl);
        honest = c.prune.ensures.honest;
      };
    }

pub returns-in-Err : goal.returns-in-Err
returns-in-Err g c =
    let n = c.args.self.now in
    let h = history_of n.store in
    let old = parts_of n in
    let t = c.prune.new.self in
    let end = history_of t in
    let why = c.in-Err.fault in
    let keep = c.max.result in
    let is : keep ≡ kept_of c.args.keep = c.max.ensures in
    let some : 1 ≤ (position old.store).txid = omega (arith, ap (λ (p : Pos). p.txid) c.pos.ensures.value, c.if-pos-eq0.false) in
    let new : NodeParts = record old { store = fields_of t } in
    let safe : IsTrue old.store.honest → StepsSafely (seen h old) (laws.Prune (kept_of c.args.keep)) (law_answer (answers.Refused (refusal_of why))) (seen end new) h end =
    λ honest.
    subst (λ (r : laws.Refusal). StepsSafely (seen h old) (laws.Prune (kept_of c.args.keep)) (laws.Refused r) (seen end new) h end) (sym (law-refusal-of why))
    (subst (λ (k : ℕ). StepsSafely (seen h old) (laws.Prune k) (laws.Refused (law_store_fault why)) (seen end new) h end) is
    (prunes-safely h end old (fields_of t) keep (Err why) c.in-Err.ensures.prunes (c.in-Err.ensures.went honest) (n.store.kept honest) (t.kept (c.prune.ensures.honest ∙ honest))
    c.prune.ensures.position (laws.Refused (law_store_fault why)) (n.image honest) n.locked.together n.replica c.in-Err.ensures.cause (ran-undone ℕ why (PruneTo keep)))) in
    record {
      step = λ caller. subst (λ (r : Refusal). IsStep h old caller (asks.Prune c.args.keep) (answers.Refused r) end new (said_of t)) (sym c.refusal_of.ensures) record {
        does = record {
          tells = refuses-prune h old.store c.args.keep why end (fields_of t) some (subst (λ (k : ℕ). PrunesStore h old.store k (Err why) end (fields_of t)) is record {
            answers = c.in-Err.ensures.prunes;
            cause = c.in-Err.ensures.cause;
            shape = (c.prune.ensures.shape.0, c.prune.ensures.shape.1, c.prune.ensures.position);
            store = λ honest. prune-changes h end old (fields_of t) keep (Err why) c.in-Err.ensures.prunes (c.in-Err.ensures.went honest);
            honest = c.prune.ensures.honest;
          });
          same = refl;
        };
        safe = λ honest law of. told-as of (safe honest);
        role = λ honest law of. role-as of (safe honest) (λ r keeps. keeps);
        lease = (refl, refl);
        honest = c.prune.ensures.honest;
      };
    }
