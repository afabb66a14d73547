use Rattle.std.proofs.Common.{◌≡◌, ◌∙◌, Bool, Err, ap, refl, subst, sym}
use Rattle.txn_log.specs.Looking.{IsLookedAt}
use Rattle.world_laws.specs.Node as laws
use Rattle.node_core.specs.declared.answer.Answer.TheVariants as answers
use Rattle.node_core.specs.declared.refusal.Refusal.{Refusal}
use Rattle.node_core.specs.Hello.{RefusesHello}
use Rattle.node_core.specs.Nodes.{NodeParts, parts_of, role_in, seen}
use Rattle.node_core.specs.Safely.{StepsSafely, law_answer, law_store_fault}
use Rattle.node_core.specs.Stores.{StoreFields, fields_of, history_of}
use Rattle.node_core.proofs.Asking.{failed-some}
use Rattle.node_core.proofs.Facts.{says-none}
use Rattle.node_core.proofs.Following.{not-primary}
use Rattle.node_core.proofs.Looked.{looks-says}
use Rattle.node_core.proofs.Lookups.{doubts-since, hello-since, looked-into, safely-since, same-fields, seen-since}
use Rattle.node_core.proofs.Reading.{rests_stay}
use Rattle.node_core.proofs.Refusing.{law-refusal-of, looks-reads, read-refused, reads-later, refuses-read, wants-compared}
use Rattle.node_core.proofs.Sound.{sound}
use Rattle.node_core.proofs.Steady.{steady-files, steps-still}
use Rattle.node_core.proofs.node.Node.hello.Goals as goal

pub returns-then-not-leads-clause-safe : goal.returns-then-not-leads-clause-safe
returns-then-not-leads-clause-safe g c honest =
    let n = c.args.self.now in
    let h = history_of n.store in
    let old = parts_of n in
    let ask = laws.Hello c.args.from c.args.last in
    steps-still (seen h old) (seen h old) ask (laws.Refused laws.NotPrimary) h h ∣ rests_stay h ∣₁ refl refl (n.store.left honest)
    (says-none (seen h old) (seen h old) (seen h old).role ask (laws.Refused laws.NotPrimary) (not-primary (role_in old) (c.leads.ensures.no c.if-not-leads.true)) refl
    (λ plain still. steady-files h h old old.store old.files refl refl refl) (sound h old (n.image honest) n.locked.together n.replica))

pub returns-in-Ok-clause-does : goal.returns-in-Ok-clause-does
returns-in-Ok-clause-does g c =
    let n = c.args.self.now in
    let old = parts_of n in
    let h = history_of n.store in
    let t = c.doubts.new.self in
    let mid = history_of t in
    let same : fields_of t ≡ old.store = same-fields h mid old.store (fields_of t) c.doubts.ensures.looked c.in-Ok.ensures.cause in
    let between : NodeParts = record old { store = fields_of t } in
    let m = c.give.new.self in
    hello-since h mid (history_of m.store) old between (parts_of m) c.args.from c.args.last c.give.result (subst (λ (s : StoreFields). IsLookedAt h old.store mid s) same c.doubts.ensures.looked)
    (ap (λ (s : StoreFields). record old { store = s }) same) c.give.ensures.does

pub returns-in-Ok-clause-safe : goal.returns-in-Ok-clause-safe
returns-in-Ok-clause-safe g c honest =
    let n = c.args.self.now in
    let old = parts_of n in
    let h = history_of n.store in
    let t = c.doubts.new.self in
    let mid = history_of t in
    let looked = c.doubts.ensures.looked in
    let same : fields_of t ≡ old.store = same-fields h mid old.store (fields_of t) looked c.in-Ok.ensures.cause in
    let between : NodeParts = record old { store = fields_of t } in
    let m = c.give.new.self in
    safely-since h mid (history_of m.store) (seen h old) (seen mid between) (seen (history_of m.store) (parts_of m)) (laws.Hello c.args.from c.args.last) (law_answer c.give.result) looked.rests.moment looked.rests.past
    (seen-since h mid old between (looked.state honest) (looked.failed honest) (ap (λ (s : StoreFields). record old { store = s }) same))
    (c.give.ensures.safe (c.doubts.ensures.honest ∙ honest))

pub returns-in-Err-clause-does : goal.returns-in-Err-clause-does
returns-in-Err-clause-does g c =
    let n = c.args.self.now in
    let old = parts_of n in
    let h = history_of n.store in
    let t = c.doubts.new.self in
    let why = c.in-Err.fault in
    let cause = looks-reads Bool old.store.broken old.store.faults (fields_of t).faults why c.in-Err.ensures.cause in
    record {
      tells =
          subst (λ (r : Refusal). RefusesHello old c.args.from c.args.last r (fields_of t)) (sym c.refusal_of.ensures)
          (refuses-read (Unit {0}) old c.args.from c.args.last why (fields_of t) (c.leads.ensures.yes c.if-not-leads.false) (wants-compared old.store c.args.from c.args.last c.in-Err.ensures.compared) cause);
      read = looked-into h (history_of t) old.store (fields_of t) c.doubts.ensures.looked (reads-later {T = Unit {0}} old.store.broken old.store.faults (fields_of t).faults (Err why) cause);
      same = refl;
    }

pub returns-in-Err-clause-safe : goal.returns-in-Err-clause-safe
returns-in-Err-clause-safe g c honest =
    let n = c.args.self.now in
    let old = parts_of n in
    let h = history_of n.store in
    let t = c.doubts.new.self in
    let end = history_of t in
    let new : NodeParts = record old { store = fields_of t } in
    let ask = laws.Hello c.args.from c.args.last in
    let why = c.in-Err.fault in
    let looked = c.doubts.ensures.looked in
    let cause = looks-reads Bool old.store.broken old.store.faults (fields_of t).faults why c.in-Err.ensures.cause in
    let safe : StepsSafely (seen h old) ask (laws.Refused (law_store_fault why)) (seen end new) h end =
    steps-still (seen h old) (seen end new) ask (laws.Refused (law_store_fault why)) h end ∣ looked.rests ∣₁ (looked.state honest) (looked.failed honest) (t.left (c.doubts.ensures.honest ∙ honest))
    (looks-says h end old (fields_of t) (looked.state honest) (c.leads.ensures.yes c.if-not-leads.false) (n.image honest) n.locked.together n.replica c.args.from c.args.last (laws.Refused (law_store_fault why))
    (read-refused (Unit {0}) (seen h old) (seen end new) (seen h old).role c.args.from c.args.last n.store.broken why (failed-some h n.store.broken n.store.attempt n.store.tried) cause) refl) in
    subst (λ (r : Refusal). StepsSafely (seen h old) ask (law_answer (answers.Refused r)) (seen end new) h end) (sym c.refusal_of.ensures)
    (subst (λ (r : laws.Refusal). StepsSafely (seen h old) ask (laws.Refused r) (seen end new) h end) (sym (law-refusal-of why)) safe)

pub give-requires-clause-doubted : goal.give-requires-clause-doubted
give-requires-clause-doubted g c =
    let s = c.args.self.now.store in
    let t = c.doubts.new.self in
    doubts-since (history_of s) (history_of t) (fields_of s) (fields_of t) c.args.last c.in-Ok.doubted c.doubts.ensures.looked c.in-Ok.ensures.doubts
