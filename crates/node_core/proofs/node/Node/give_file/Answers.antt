use Rattle.std.proofs.Common.{◌∙◌, ℕ, List, Err, refl, subst, sym}
use Rattle.ltx_codec.specs.Fields.{AreBytes}
use Rattle.ltx_codec.specs.FileIn.{file_in}
use Rattle.world_laws.specs.Node as laws
use Rattle.node_core.specs.declared.answer.Answer.TheVariants as answers
use Rattle.node_core.specs.declared.refusal.Refusal.{Refusal}
use Rattle.node_core.specs.Hello.{RefusesHello}
use Rattle.node_core.specs.Nodes.{NodeParts, parts_of, role_in, seen}
use Rattle.node_core.specs.Safely.{StepsSafely, law_answer, law_store_fault}
use Rattle.node_core.specs.Stores.{fields_of, history_of}
use Rattle.node_core.proofs.Asking.{failed-some}
use Rattle.node_core.proofs.Looked.{looks-says}
use Rattle.node_core.proofs.Owing.{behind-owed, next-is, owes-file, tells-next}
use Rattle.node_core.proofs.Refusing.{gives-reads, law-refusal-of, read-refused, refuses-read}
use Rattle.node_core.proofs.Sound.{leads}
use Rattle.node_core.proofs.Steady.{steps-still}
use Rattle.node_core.proofs.node.Node.give_file.Goals as goal

pub returns-in-Ok-clause-does : goal.returns-in-Ok-clause-does
returns-in-Ok-clause-does g c =
    let s = c.args.self.now.store in
    record {
      tells = (
        c.requires.primary,
        next-is (history_of s) (fields_of s) c.args.from c.args.last c.args.first c.requires.owed c.in-Ok.next.ltx c.in-Ok.next.after c.in-Ok.ensures.next,
      );
      read = c.next_from.ensures.looked;
      same = refl;
    }

pub returns-in-Ok-clause-safe : goal.returns-in-Ok-clause-safe
returns-in-Ok-clause-safe g c honest =
    let n = c.args.self.now in
    let old = parts_of n in
    let h = history_of n.store in
    let t = c.next_from.new.store in
    let end = history_of t in
    let new : NodeParts = record old { store = fields_of t } in
    let from = c.args.from in
    let last = c.args.last in
    let ltx : List ℕ = c.in-Ok.next.ltx in
    let octets : AreBytes ltx = subst (λ (l : List ℕ). AreBytes l) c.as_slice.ensures c.are_bytes.ensures in
    let owes = tells-next h old.store (n.store.kept honest) from last c.file_is_read.ensures c.args.first ltx octets h c.requires.owed c.in-Ok.next.after c.in-Ok.ensures.next honest in
    let looked = c.next_from.ensures.looked in
    steps-still (seen h old) (seen end new) (laws.Hello from last) (laws.Item (file_in ltx)) h end ∣ c.next_from.ensures.rests honest ∣₁ (looked.state honest) (looked.failed honest) (t.left (c.next_from.ensures.honest ∙ honest))
    (looks-says h end old (fields_of t) (looked.state honest) c.requires.primary (n.image honest) n.locked.together n.replica from last (laws.Item (file_in ltx)) (leads (role_in old) c.requires.primary, owes.0, owes.1) tt)

pub returns-in-Err-clause-safe : goal.returns-in-Err-clause-safe
returns-in-Err-clause-safe g c honest =
    let n = c.args.self.now in
    let old = parts_of n in
    let h = history_of n.store in
    let t = c.next_from.new.store in
    let end = history_of t in
    let new : NodeParts = record old { store = fields_of t } in
    let from = c.args.from in
    let last = c.args.last in
    let why = c.in-Err.fault in
    let looked = c.next_from.ensures.looked in
    let cause = gives-reads {T = Unit {0}} n.store.broken (fields_of n.store).faults (fields_of t).faults (Err why) c.in-Err.ensures.cause in
    let safe : StepsSafely (seen h old) (laws.Hello from last) (laws.Refused (law_store_fault why)) (seen end new) h end =
    steps-still (seen h old) (seen end new) (laws.Hello from last) (laws.Refused (law_store_fault why)) h end ∣ c.next_from.ensures.rests honest ∣₁ (looked.state honest) (looked.failed honest)
    (t.left (c.next_from.ensures.honest ∙ honest))
    (looks-says h end old (fields_of t) (looked.state honest) c.requires.primary (n.image honest) n.locked.together n.replica from last (laws.Refused (law_store_fault why))
    (read-refused (Unit {0}) (seen h old) (seen end new) (seen h old).role from last n.store.broken why (failed-some h n.store.broken n.store.attempt n.store.tried) cause) refl) in
    subst (λ (r : Refusal). StepsSafely (seen h old) (laws.Hello from last) (law_answer (answers.Refused r)) (seen end new) h end) (sym c.refusal_of.ensures)
    (subst (λ (r : laws.Refusal). StepsSafely (seen h old) (laws.Hello from last) (laws.Refused r) (seen end new) h end) (sym (law-refusal-of why)) safe)

pub returns-in-Err-clause-does : goal.returns-in-Err-clause-does
returns-in-Err-clause-does g c =
    let s = c.args.self.now.store in
    let old = parts_of c.args.self.now in
    let h = history_of s in
    let t = c.next_from.new.store in
    let from = c.args.from in
    let last = c.args.last in
    let why = c.in-Err.fault in
    let cause = gives-reads {T = Unit {0}} s.broken (fields_of s).faults (fields_of t).faults (Err why) c.in-Err.ensures.cause in
    record {
      tells =
          subst (λ (r : Refusal). RefusesHello old from last r (fields_of t)) (sym c.refusal_of.ensures)
          (refuses-read (Unit {0}) old from last why (fields_of t) c.requires.primary (owes-file h old.store from last c.args.first c.requires.owed) cause);
      read = c.next_from.ensures.looked;
      same = refl;
    }

pub next_from-requires : goal.next_from-requires
next_from-requires g c =
    let s = c.args.self.now.store in
    (behind-owed (history_of s) (fields_of s) c.args.from c.args.last c.args.first c.requires.owed).there
