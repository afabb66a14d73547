use Rattle.std.proofs.Common.{◌≡◌, ◌∙◌, ◌≤◌, ◌++◌, ℕ, IsTrue, List, Err, ap, refl, subst, sym, arith}
use Rattle.lf_base.specs.declared.pos.Pos.{Pos}
use Rattle.lf_sqlite_pages.specs.Image.{image_bytes}
use Rattle.world_laws.specs.Node as laws
use Rattle.node_core.specs.declared.answer.Answer.TheVariants as answers
use Rattle.node_core.specs.declared.refusal.Refusal.{Refusal}
use Rattle.node_core.specs.Exporting.{RefusesExport}
use Rattle.node_core.specs.Nodes.{parts_of, seen}
use Rattle.node_core.specs.Safely.{StepsSafely, law_answer}
use Rattle.node_core.specs.Stores.{failed, fields_of, history_of, position, state}
use Rattle.node_core.proofs.Calls.{stays}
use Rattle.node_core.proofs.Imported.{looks-safely, refuses-export}
use Rattle.node_core.proofs.Looked.{same-but-faults}
use Rattle.node_core.proofs.OneAsk.{role-as, told-as}
use Rattle.node_core.proofs.Reading.{rests_stay}
use Rattle.node_core.proofs.Refusing.{reads-later}
use Rattle.node_core.proofs.Lookups.{looked-at-nothing}
use Rattle.node_core.proofs.node.Node.export.Goals as goal

pub returns-then-pos-eq0 : goal.returns-then-pos-eq0
returns-then-pos-eq0 g c =
    let n = c.args.self.now in
    let h = history_of n.store in
    let old = parts_of n in
    let none : (position old.store).txid ≡ 0 = ap (λ (p : Pos). p.txid) (sym c.pos.ensures.value) ∙ c.if-pos-eq0.true in
    let safe : IsTrue old.store.honest → StepsSafely (seen h old) laws.Export (laws.Refused laws.Other) (seen h old) h h =
    λ honest.
    looks-safely h h old old.store laws.Export (laws.Refused laws.Other) ∣ rests_stay h ∣₁ refl refl (n.store.left honest) (n.image honest) n.locked.together n.replica tt refl in
    record {
      step = λ caller. record {
        does = record { tells = (none, refl); read = looked-at-nothing h old.store; same = refl; rests = ∣ rests_stay h ∣₁ };
        safe = λ honest law of. told-as of (safe honest);
        role = λ honest law of. role-as of (safe honest) (λ r keeps. keeps);
        lease = (refl, refl);
        honest = refl;
      };
    }

pub returns-in-Ok : goal.returns-in-Ok
returns-in-Ok g c =
    let n = c.args.self.now in
    let old = parts_of n in
    let s = n.store in
    let h = history_of s in
    let t = c.export.new.store in
    let end = history_of t in
    let f = c.export.ensures.fields in
    let m = c.export.ensures.marks in
    let same : fields_of t ≡ record old.store { faults = (fields_of t).faults } =
    same-but-faults old.store (fields_of t) c.export.ensures.honest f.2 f.3 f.0 f.1 f.4 m.0 f.5 m.1 m.2 m.3 m.4 in
    let cause = c.in-Ok.ensures.cause in
    let still : fields_of t ≡ old.store = same ∙ ap (λ (k : ℕ). record old.store { faults = k }) cause.1 in
    let some : 1 ≤ (position old.store).txid = omega (arith, ap (λ (p : Pos). p.txid) c.pos.ensures.value, c.if-pos-eq0.false) in
    let alike : IsTrue old.store.honest → state end (fields_of t) ≡ state h old.store = λ honest. (c.export.ensures.went honest).store in
    let was : IsTrue old.store.honest → failed end (fields_of t) ≡ failed h old.store = λ honest. (c.export.ensures.went honest).broken ∙ stays (failed h old.store) in
    let safe : IsTrue old.store.honest → StepsSafely (seen h old) laws.Export laws.Done (seen end (record old { store = fields_of t })) h end =
    λ honest.
    looks-safely h end old (fields_of t) laws.Export laws.Done ∣ c.export.ensures.rests ∣₁ (alike honest) (was honest) (t.left (c.export.ensures.honest ∙ honest)) (n.image honest) n.locked.together n.replica tt tt in
    record {
      step = λ caller. record {
        does = record {
          tells = (some, cause.0, still, λ honest. c.of.ensures ∙ c.in-Ok.ensures.bytes honest ∙ ap (λ (l : List ℕ). l ++ image_bytes (state h old.store).image) c.new-bytes.ensures.items);
          read = record { same = same; faults = omega (arith, cause.1); state = alike; failed = was };
          same = refl;
          rests = ∣ c.export.ensures.rests ∣₁;
        };
        safe = λ honest law of. told-as of (safe honest);
        role = λ honest law of. role-as of (safe honest) (λ r keeps. keeps);
        lease = (refl, refl);
        honest = c.export.ensures.honest;
      };
    }

pub returns-in-Err : goal.returns-in-Err
returns-in-Err g c =
    let n = c.args.self.now in
    let old = parts_of n in
    let s = n.store in
    let h = history_of s in
    let t = c.export.new.store in
    let end = history_of t in
    let f = c.export.ensures.fields in
    let m = c.export.ensures.marks in
    let why = c.in-Err.fault in
    let same : fields_of t ≡ record old.store { faults = (fields_of t).faults } =
    same-but-faults old.store (fields_of t) c.export.ensures.honest f.2 f.3 f.0 f.1 f.4 m.0 f.5 m.1 m.2 m.3 m.4 in
    let cause = c.in-Err.ensures.cause in
    let some : 1 ≤ (position old.store).txid = omega (arith, ap (λ (p : Pos). p.txid) c.pos.ensures.value, c.if-pos-eq0.false) in
    let alike : IsTrue old.store.honest → state end (fields_of t) ≡ state h old.store = λ honest. (c.export.ensures.went honest).store in
    let was : IsTrue old.store.honest → failed end (fields_of t) ≡ failed h old.store = λ honest. (c.export.ensures.went honest).broken ∙ stays (failed h old.store) in
    let given = law_answer (answers.Refused c.refusal_of.result) in
    let safe : IsTrue old.store.honest → StepsSafely (seen h old) laws.Export given (seen end (record old { store = fields_of t })) h end =
    λ honest.
    looks-safely h end old (fields_of t) laws.Export given ∣ c.export.ensures.rests ∣₁ (alike honest) (was honest) (t.left (c.export.ensures.honest ∙ honest)) (n.image honest) n.locked.together n.replica tt refl in
    record {
      step = λ caller. record {
        does = record {
          tells = subst (λ (r : Refusal). RefusesExport old.store r (fields_of t)) (sym c.refusal_of.ensures) (refuses-export old.store why (fields_of t) some same cause);
          read = record { same = same; faults = reads-later {T = Unit {0}} s.broken old.store.faults (fields_of t).faults (Err why) cause; state = alike; failed = was };
          same = refl;
          rests = ∣ c.export.ensures.rests ∣₁;
        };
        safe = λ honest law of. told-as of (safe honest);
        role = λ honest law of. role-as of (safe honest) (λ r keeps. keeps);
        lease = (refl, refl);
        honest = c.export.ensures.honest;
      };
    }
