use Rattle.std.proofs.Common.{◌∙◌, IsTrue, Option, Err, refl, subst, sym, arith}
use Rattle.world_laws.specs.declared.last_file.LastFile.{LastFile}
use Rattle.world_laws.specs.Node as laws
use Rattle.node_core.specs.declared.answer.Answer.TheVariants as answers
use Rattle.node_core.specs.declared.refusal.Refusal.{Refusal}
use Rattle.node_core.specs.Nodes.{NodeParts, parts_of, seen}
use Rattle.node_core.specs.Safely.{StepsSafely, law_answer}
use Rattle.node_core.specs.Stores.{fields_of, history_of}
use Rattle.node_core.specs.Where.{TellsWhere}
use Rattle.node_core.proofs.Facts.{says-none}
use Rattle.node_core.proofs.OneAsk.{role-as, told-as}
use Rattle.node_core.proofs.Lookups.{looked-into, looked-sound}
use Rattle.node_core.proofs.Refusing.{looks-reads, reads-later, refuses-where}
use Rattle.node_core.proofs.Steady.{steady-files, steps-still}
use Rattle.node_core.proofs.node.Node.tell_position.Goals as goal

pub returns-in-Ok : goal.returns-in-Ok
returns-in-Ok g c =
    let n = c.args.self.now in
    let old = parts_of n in
    let h = history_of n.store in
    let t = c.last_file.new.self in
    let end = history_of t in
    let new : NodeParts = record old { store = fields_of t } in
    let looked = c.last_file.ensures.looked in
    let safe : IsTrue old.store.honest → StepsSafely (seen h old) laws.Where laws.Done (seen end new) h end =
    λ honest.
    steps-still (seen h old) (seen end new) laws.Where laws.Done h end ∣ looked.rests ∣₁ (looked.state honest) (looked.failed honest) (t.left (c.last_file.ensures.honest ∙ honest))
    (says-none (seen h old) (seen end new) (seen h old).role laws.Where laws.Done tt tt (λ plain still. steady-files h end old (fields_of t) old.files (looked.state honest) refl refl)
    (looked-sound h end old (fields_of t) (looked.state honest) (n.image honest) n.locked.together n.replica)) in
    record {
      step = λ caller. record {
        does = record {
          tells = (c.pos-pos.ensures.value, c.in-Ok.ensures.says, c.in-Ok.ensures.cause);
          read = looked-into h end old.store (fields_of t) looked (omega (arith, c.in-Ok.ensures.cause));
          same = refl;
          rests = ∣ looked.rests ∣₁;
        };
        safe = λ honest law of. told-as of (safe honest);
        role = λ honest law of. role-as of (safe honest) (λ r keeps. keeps);
        lease = (refl, refl);
        honest = c.last_file.ensures.honest;
      };
    }

pub returns-in-Err : goal.returns-in-Err
returns-in-Err g c =
    let n = c.args.self.now in
    let old = parts_of n in
    let h = history_of n.store in
    let t = c.last_file.new.self in
    let end = history_of t in
    let new : NodeParts = record old { store = fields_of t } in
    let why = c.in-Err.fault in
    let looked = c.last_file.ensures.looked in
    let cause = looks-reads (Option LastFile) old.store.broken old.store.faults (fields_of t).faults why c.in-Err.ensures.cause in
    let given = law_answer (answers.Refused c.refusal_of.result) in
    let safe : IsTrue old.store.honest → StepsSafely (seen h old) laws.Where given (seen end new) h end =
    λ honest.
    steps-still (seen h old) (seen end new) laws.Where given h end ∣ looked.rests ∣₁ (looked.state honest) (looked.failed honest) (t.left (c.last_file.ensures.honest ∙ honest))
    (says-none (seen h old) (seen end new) (seen h old).role laws.Where given tt refl (λ plain still. steady-files h end old (fields_of t) old.files (looked.state honest) refl refl)
    (looked-sound h end old (fields_of t) (looked.state honest) (n.image honest) n.locked.together n.replica)) in
    record {
      step = λ caller. record {
        does = record {
          tells =
              subst (λ (r : Refusal). TellsWhere h old.store (answers.Refused r) (fields_of t)) (sym c.refusal_of.ensures)
              (refuses-where (Option LastFile) h old.store why (fields_of t) c.in-Err.ensures.some c.in-Err.ensures.cause);
          read = looked-into h end old.store (fields_of t) looked (reads-later {T = Unit {0}} old.store.broken old.store.faults (fields_of t).faults (Err why) cause);
          same = refl;
          rests = ∣ looked.rests ∣₁;
        };
        safe = λ honest law of. told-as of (safe honest);
        role = λ honest law of. role-as of (safe honest) (λ r keeps. keeps);
        lease = (refl, refl);
        honest = c.last_file.ensures.honest;
      };
    }
