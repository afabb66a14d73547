use Rattle.std.proofs.Common.{ℕ, List, inl, inr, refl, subst, sym}
use Rattle.ltx_codec.specs.Fields.{AreBytes}
use Rattle.ltx_codec.specs.Format.{IsLtx}
use Rattle.ltx_codec.specs.Places.{IsRefused}
use Rattle.world_laws.specs.Node as laws
use Rattle.node_core.specs.declared.answer.Answer.TheVariants as answers
use Rattle.node_core.specs.declared.refusal.Refusal.{Refusal}
use Rattle.node_core.specs.Forwarding.{AcceptsBytes}
use Rattle.node_core.specs.Nodes.{parts_of, seen}
use Rattle.node_core.specs.Safely.{StepsSafely, law_answer, law_refusal}
use Rattle.node_core.specs.Stores.{history_of}
use Rattle.node_core.proofs.Encodings.{refuses-bytes}
use Rattle.node_core.proofs.Forwarded.{forward-is, forward-says}
use Rattle.node_core.proofs.Imported.{looks-safely}
use Rattle.node_core.proofs.Reading.{rests_stay}
use Rattle.node_core.proofs.node.Node.accept_bytes.Goals as goal

pub returns-in-Ok-clause-does : goal.returns-in-Ok-clause-does
returns-in-Ok-clause-does g c =
    let bytes : List ℕ = c.args.bytes.now in
    let is : IsLtx bytes c.in-Ok.file = subst (λ (l : List ℕ). IsLtx l c.in-Ok.file) c.as_slice-2.ensures c.in-Ok.ensures.ok in
    inr (c.in-Ok.file, is, c.accept_file.ensures.does)

pub returns-in-Ok-clause-safe : goal.returns-in-Ok-clause-safe
returns-in-Ok-clause-safe g c honest law of =
    let n = c.args.self.now in
    let m = c.accept_file.new.self in
    let h = history_of n.store in
    let bytes : List ℕ = c.args.bytes.now in
    let octets : AreBytes bytes = subst (λ (l : List ℕ). AreBytes l) c.as_slice.ensures c.are_bytes.ensures in
    let is : IsLtx bytes c.in-Ok.file = subst (λ (l : List ℕ). IsLtx l c.in-Ok.file) c.as_slice-2.ensures c.in-Ok.ensures.ok in
    subst (λ (ask : laws.Ask). StepsSafely (seen h (parts_of n)) ask (law_answer c.accept_file.result) (seen (history_of m.store) (parts_of m)) h (history_of m.store))
    (sym (forward-is c.file_is_read.ensures bytes c.in-Ok.file octets is law of)) (c.accept_file.ensures.safe honest)

pub returns-in-Err-clause-does : goal.returns-in-Err-clause-does
returns-in-Err-clause-does g c =
    let n = c.args.self.now in
    let h = history_of n.store in
    let old = parts_of n in
    let bytes : List ℕ = c.args.bytes.now in
    let refused : IsRefused bytes c.in-Err.fault = subst (λ (l : List ℕ). IsRefused l c.in-Err.fault) c.as_slice-2.ensures c.in-Err.ensures.fault in
    subst (λ (r : Refusal). AcceptsBytes h old bytes (answers.Refused r) h old) (sym c.refusal_of_encoding.ensures)
    (inl (refuses-bytes bytes c.in-Err.fault refused, (refl, ∣ rests_stay h ∣₁)))

pub returns-in-Err-clause-safe : goal.returns-in-Err-clause-safe
returns-in-Err-clause-safe g c honest law of =
    let n = c.args.self.now in
    let h = history_of n.store in
    let old = parts_of n in
    let why = law_refusal c.refusal_of_encoding.result in
    looks-safely h h old old.store law (laws.Refused why) ∣ rests_stay h ∣₁ refl refl (n.store.left honest) (n.image honest) n.locked.together n.replica
    (forward-says (seen h old) (seen h old) (seen h old).role c.args.bytes.now law of why) refl
