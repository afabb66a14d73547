use Rattle.std.proofs.Common.{◌∙◌, inl, inr, refl, sym, ap}
use Rattle.world_laws.specs.Node as laws
use Rattle.node_core.specs.declared.answer.Answer.TheVariants as answers
use Rattle.node_core.specs.Framing.{LeadsHere}
use Rattle.node_core.specs.Nodes.{parts_of, role_in, seen}
use Rattle.node_core.specs.Stores.{history_of, state}
use Rattle.node_core.proofs.Facts.{says-none}
use Rattle.node_core.proofs.Following.{holds-back, not-primary}
use Rattle.node_core.proofs.Imported.{looks-safely}
use Rattle.node_core.proofs.Owing.{at-position}
use Rattle.node_core.proofs.Reading.{rests_stay}
use Rattle.node_core.proofs.Sound.{sound}
use Rattle.node_core.proofs.Steady.{steady-files, steps-still}
use Rattle.node_core.proofs.node.Node.answer_ltx.Goals as goal

pub returns-in-Err-clause-safe : goal.returns-in-Err-clause-safe
returns-in-Err-clause-safe g c honest =
    let n = c.args.self.now in
    let h = history_of n.store in
    let old = parts_of n in
    let ask = laws.Frame c.args.file.now in
    let lock = c.in-Err.lock in
    steps-still (seen h old) (seen h old) ask (laws.Held lock) h h ∣ rests_stay h ∣₁ refl refl (n.store.left honest)
    (says-none (seen h old) (seen h old) (seen h old).role ask (laws.Held lock) (holds-back n.view n.store.wal (state h old.store).image (n.store.mode honest) lock c.in-Err.ensures.held) refl
    (λ plain still. steady-files h h old old.store old.files refl refl refl) (sound h old (n.image honest) n.locked.together n.replica))

pub returns-then-leads_here-clause-does : goal.returns-then-leads_here-clause-does
returns-then-leads_here-clause-does g c =
    inl (c.leads_here.ensures.yes c.if-leads_here.true, ap answers.Same c.pos.ensures.value, (refl, ∣ rests_stay (history_of c.args.self.now.store) ∣₁))

pub returns-then-leads_here-clause-safe : goal.returns-then-leads_here-clause-safe
returns-then-leads_here-clause-safe g c honest =
    let n = c.args.self.now in
    let h = history_of n.store in
    let old = parts_of n in
    let ask = laws.Frame c.args.file.now in
    let leads : LeadsHere old c.args.file.now = c.leads_here.ensures.yes c.if-leads_here.true in
    looks-safely h h old old.store ask laws.Done ∣ rests_stay h ∣₁ refl refl (n.store.left honest) (n.image honest) n.locked.together n.replica
    (not-primary (role_in old) c.requires.replica, (leads.0, leads.1 ∙ sym (at-position h old.store (n.store.kept honest))), refl, refl) tt

pub returns-in-Ok-clause-does : goal.returns-in-Ok-clause-does
returns-in-Ok-clause-does g c = inr (c.leads_here.ensures.no c.if-leads_here.false, c.take_file.ensures.does)

pub returns-in-Err-clause-does : goal.returns-in-Err-clause-does
returns-in-Err-clause-does g c =
    inr (c.leads_here.ensures.no c.if-leads_here.false, (c.in-Err.ensures.held, (refl, ∣ rests_stay (history_of c.args.self.now.store) ∣₁)))
