use Rattle.std.proofs.Common.{ℕ, List, inl, inr, refl, subst, sym}
use Rattle.ltx_codec.specs.Fields.{AreBytes}
use Rattle.ltx_codec.specs.Format.{IsLtx}
use Rattle.ltx_codec.specs.Places.{IsRefused}
use Rattle.world_laws.specs.Node as laws
use Rattle.node_core.specs.declared.answer.Answer.TheVariants as answers
use Rattle.node_core.specs.declared.refusal.Refusal.{Refusal}
use Rattle.node_core.specs.Errors.{refusal_of_encoding}
use Rattle.node_core.specs.Framing.{AnswersFrame}
use Rattle.node_core.specs.Nodes.{parts_of, role_in, seen}
use Rattle.node_core.specs.Safely.{StepsSafely, law_answer}
use Rattle.node_core.specs.Stores.{history_of}
use Rattle.node_core.proofs.Facts.{says-none}
use Rattle.node_core.proofs.Reading.{rests_stay}
use Rattle.node_core.proofs.Sound.{leads, sound}
use Rattle.node_core.proofs.Steady.{steady-files, steps-still}
use Rattle.node_core.proofs.Encodings.{bytes-refused, frame-is, not-replica, refuses-bytes}
use Rattle.node_core.proofs.node.Node.frame.Goals as goal

pub returns-then-leads-clause-safe : goal.returns-then-leads-clause-safe
returns-then-leads-clause-safe g c honest law of =
    let n = c.args.self.now in
    let h = history_of n.store in
    let old = parts_of n in
    let bytes = c.args.bytes.now in
    steps-still (seen h old) (seen h old) law (laws.Refused laws.NotReplica) h h ∣ rests_stay h ∣₁ refl refl (n.store.left honest)
    (says-none (seen h old) (seen h old) (seen h old).role law (laws.Refused laws.NotReplica)
    (not-replica (seen h old) (seen h old) (seen h old).role bytes (leads (role_in old) (c.leads.ensures.yes c.if-leads.true)) law of) refl
    (λ plain still. steady-files h h old old.store old.files refl refl refl) (sound h old (n.image honest) n.locked.together n.replica))

pub returns-in-Ok-clause-does : goal.returns-in-Ok-clause-does
returns-in-Ok-clause-does g c =
    let bytes : List ℕ = c.args.bytes.now in
    let is : IsLtx bytes c.in-Ok.file = subst (λ (l : List ℕ). IsLtx l c.in-Ok.file) c.as_slice-2.ensures c.in-Ok.ensures.ok in
    inr (c.leads.ensures.no c.if-leads.false, inr (c.in-Ok.file, is, c.answer_ltx.ensures.does))

pub returns-in-Ok-clause-safe : goal.returns-in-Ok-clause-safe
returns-in-Ok-clause-safe g c honest law of =
    let n = c.args.self.now in
    let m = c.answer_ltx.new.self in
    let h = history_of n.store in
    let bytes : List ℕ = c.args.bytes.now in
    let octets : AreBytes bytes = subst (λ (l : List ℕ). AreBytes l) c.as_slice.ensures c.are_bytes.ensures in
    let is : IsLtx bytes c.in-Ok.file = subst (λ (l : List ℕ). IsLtx l c.in-Ok.file) c.as_slice-2.ensures c.in-Ok.ensures.ok in
    subst (λ (ask : laws.Ask). StepsSafely (seen h (parts_of n)) ask (law_answer c.answer_ltx.result) (seen (history_of m.store) (parts_of m)) h (history_of m.store))
    (sym (frame-is c.file_is_read.ensures bytes c.in-Ok.file octets is law of)) (c.answer_ltx.ensures.safe honest)

pub returns-in-Err-clause-does : goal.returns-in-Err-clause-does
returns-in-Err-clause-does g c =
    let n = c.args.self.now in
    let h = history_of n.store in
    let old = parts_of n in
    let bytes : List ℕ = c.args.bytes.now in
    let refused : IsRefused bytes c.in-Err.fault = subst (λ (l : List ℕ). IsRefused l c.in-Err.fault) c.as_slice-2.ensures c.in-Err.ensures.fault in
    subst (λ (r : Refusal). AnswersFrame h old bytes (answers.Refused r) h old) (sym c.refusal_of_encoding.ensures)
    (inr (c.leads.ensures.no c.if-leads.false, inl (refuses-bytes bytes c.in-Err.fault refused, (refl, ∣ rests_stay h ∣₁))))

pub returns-in-Err-clause-safe : goal.returns-in-Err-clause-safe
returns-in-Err-clause-safe g c honest law of =
    let n = c.args.self.now in
    let h = history_of n.store in
    let old = parts_of n in
    let bytes : List ℕ = c.args.bytes.now in
    let octets : AreBytes bytes = subst (λ (l : List ℕ). AreBytes l) c.as_slice.ensures c.are_bytes.ensures in
    let refused : IsRefused bytes c.in-Err.fault = subst (λ (l : List ℕ). IsRefused l c.in-Err.fault) c.as_slice-2.ensures c.in-Err.ensures.fault in
    let answer = law_answer (answers.Refused (refusal_of_encoding c.in-Err.fault)) in
    subst (λ (r : Refusal). StepsSafely (seen h old) law (law_answer (answers.Refused r)) (seen h old) h h) (sym c.refusal_of_encoding.ensures)
    (steps-still (seen h old) (seen h old) law answer h h ∣ rests_stay h ∣₁ refl refl (n.store.left honest)
    (says-none (seen h old) (seen h old) (seen h old).role law answer
    (bytes-refused (seen h old) (seen h old) (seen h old).role bytes c.encoding_breaks_no_rule.ensures octets c.in-Err.fault refused law of) refl
    (λ plain still. steady-files h h old old.store old.files refl refl refl) (sound h old (n.image honest) n.locked.together n.replica)))
