use Rattle.std.proofs.Common.{◌≡◌, ◌∙◌, None, Option, Some, inr, refl, subst, sym}
use Rattle.halt_forward.specs.declared.halt_fault.HaltFault.TheVariants.{HaltHeld}
use Rattle.halt_forward.specs.declared.halt_pass.HaltPass.{HaltPass}
use Rattle.world_laws.specs.Node as laws
use Rattle.node_core.specs.declared.answer.Answer.TheVariants as answers
use Rattle.node_core.specs.declared.refusal.Refusal.TheVariants as refusals
use Rattle.node_core.specs.Importing.{TakesUnless}
use Rattle.node_core.specs.Nodes.{history, parts_of}
use Rattle.node_core.specs.Roles.{permit_out}
use Rattle.node_core.specs.Stores.{history_of}
use Rattle.node_core.proofs.Imported.{looks-safely}
use Rattle.node_core.proofs.Reading.{rests_stay}
use Rattle.node_core.proofs.node.Node.import.Goals as goal

pub returns-then-not-leads-clause-safe : goal.returns-then-not-leads-clause-safe
returns-then-not-leads-clause-safe g c honest =
    let n = c.args.self.now in
    let h = history_of n.store in
    let old = parts_of n in
    looks-safely h h old old.store laws.Import (laws.Refused laws.NotPrimary) ∣ rests_stay h ∣₁ refl refl (n.store.left honest) (n.image honest) n.locked.together n.replica tt refl

pub returns-in-Some-clause-safe : goal.returns-in-Some-clause-safe
returns-in-Some-clause-safe g c honest =
    let n = c.args.self.now in
    let h = history_of n.store in
    let old = parts_of n in
    looks-safely h h old old.store laws.Import (laws.Refused laws.Other) ∣ rests_stay h ∣₁ refl refl (n.store.left honest) (n.image honest) n.locked.together n.replica tt refl

pub returns-in-Some-clause-does : goal.returns-in-Some-clause-does
returns-in-Some-clause-does g c =
    let n = c.args.self.now in
    let h = history n in
    let old = parts_of n in
    let pass = c.in-Some.pass in
    let out : permit_out n.standing ≡ Some pass = sym c.permit_out.ensures ∙ c.in-Some.is in
    inr (
      c.leads.ensures.yes c.if-not-leads.false,
      subst (λ (p : Option HaltPass). TakesUnless p h old c.args.bytes.now (answers.Refused (refusals.Halt (HaltHeld pass.number pass.until))) h old) (sym out) (refl, (refl, ∣ rests_stay h ∣₁)),
    )

pub returns-in-Err-clause-safe : goal.returns-in-Err-clause-safe
returns-in-Err-clause-safe g c honest =
    let n = c.args.self.now in
    let h = history_of n.store in
    let old = parts_of n in
    looks-safely h h old old.store laws.Import (laws.Held c.in-Err.lock) ∣ rests_stay h ∣₁ refl refl (n.store.left honest) (n.image honest) n.locked.together n.replica tt refl

pub take_import-requires-clause-primary : goal.take_import-requires-clause-primary
take_import-requires-clause-primary g c = c.leads.ensures.yes c.if-not-leads.false

pub returns-in-Ok-clause-does : goal.returns-in-Ok-clause-does
returns-in-Ok-clause-does g c =
    let n = c.args.self.now in
    let m = c.take_import.new.self in
    let out : permit_out n.standing ≡ None = sym c.permit_out.ensures ∙ c.in_default.is in
    inr (
      c.leads.ensures.yes c.if-not-leads.false,
      subst (λ (p : Option HaltPass). TakesUnless p (history n) (parts_of n) c.args.bytes.now c.take_import.result (history m) (parts_of m)) (sym out) c.take_import.ensures.does,
    )

pub returns-in-Err-clause-does : goal.returns-in-Err-clause-does
returns-in-Err-clause-does g c =
    let n = c.args.self.now in
    let h = history n in
    let old = parts_of n in
    let out : permit_out n.standing ≡ None = sym c.permit_out.ensures ∙ c.in_default.is in
    inr (
      c.leads.ensures.yes c.if-not-leads.false,
      subst (λ (p : Option HaltPass). TakesUnless p h old c.args.bytes.now (answers.Held c.in-Err.lock) h old) (sym out) (c.in-Err.ensures.held, (refl, ∣ rests_stay h ∣₁)),
    )
