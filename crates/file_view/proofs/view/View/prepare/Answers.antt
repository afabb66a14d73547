-- The files stand over the image, by what each request does and the rows that don't hold.
use Rattle.std.proofs.Common.{sym, subst}
use Rattle.file_view.specs.declared.view.Scene.{Scene}
use Rattle.file_view.specs.Overlay.{StandsOver}
use Rattle.file_view.proofs.AwaitLemmas.{awaits-after}
use Rattle.file_view.proofs.NameLemmas.{name-after}
use Rattle.file_view.proofs.RequestStands.{stands-after}
use Rattle.file_view.proofs.view.View.prepare.Goals as goal

pub returns-clause-stands : goal.returns-clause-stands
returns-clause-stands g c =
    let told = g.S.PageStore.image c.args.base.now in
    let old = c.args.self.now in
    let new = c.answer.new.self in
    let scene = c.scene_over-scene.result in
    let is = c.scene_over-scene.ensures.value in
    let stands = subst (λ (s : Scene). StandsOver told s.page_size s.commit old) (sym is) c.requires in
    subst (λ (s : Scene). StandsOver told s.page_size s.commit new) is
    (stands-after told old new scene c.args.request.now c.answer.result c.scene_over-scene.ensures.sized c.sound.ensures c.answer.ensures.done c.answer.ensures.allowed c.answer.ensures.err stands)

pub returns-clause-awaits : goal.returns-clause-awaits
returns-clause-awaits g c =
    let told = g.S.PageStore.image c.args.base.now in
    let old = c.args.self.now in
    let new = c.answer.new.self in
    let scene = c.scene_over-scene.result in
    let stands = subst (λ (s : Scene). StandsOver told s.page_size s.commit old) (sym c.scene_over-scene.ensures.value) c.requires in
    awaits-after told old new scene c.args.request.now c.answer.result c.answer.ensures.done c.answer.ensures.allowed stands

pub returns-clause-name : goal.returns-clause-name
returns-clause-name g c =
    name-after (g.S.PageStore.image c.args.base.now) c.args.self.now c.answer.new.self c.scene_over-scene.result c.args.request.now c.answer.result c.answer.ensures.done c.answer.ensures.allowed c.answer.ensures.err
