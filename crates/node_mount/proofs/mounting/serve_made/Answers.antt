use Rattle.std.proofs.Common.{◌∙◌, subst}
use Rattle.node_objects.specs.Making.{TakesBack}
use Rattle.node_objects.specs.declared.returned.Returned.TheVariants as returned
use Rattle.node_mount.proofs.BackLemmas.{three_back, served_back}
use Rattle.node_mount.proofs.mounting.serve_made.Goals as goal

pub returns-clause-back : goal.returns-clause-back
returns-clause-back g c =
    let files = c.serve_links-served.new.files in
    let spawner = c.serve_links-served.new.spawner in
    let none_yet = c.spawner-spawner.ensures.same.1 ∙ c.tasks_of.ensures.same.1 ∙ c.mount_of.ensures.same.1 ∙ c.dialer_of_service-asking.ensures.same.1 ∙ c.dialer-dialer.ensures.same.1 ∙ c.pause-pause.ensures.same.1 ∙ c.clock-clock.ensures.same.1 in
    let one = subst (λ told. TakesBack (returned.Files files) told (g.M.Maker.back c.back_files.new.self)) none_yet c.back_files.ensures.back in
    served_back _ _ files c.dialer-dialer.result spawner _ _ _ _ _ _ c.serve_links-served.result
    (three_back files c.dialer-dialer.result spawner _ _ _ _ one c.back_dial.ensures.back c.back_spawn.ensures.back)
    c.serve_links-served.ensures.ended c.serve_links-served.ensures.limit c.serve_links-served.ensures.cause

pub serve_links-served-requires-clause-duties : goal.serve_links-served-requires-clause-duties
serve_links-served-requires-clause-duties g c = λ _ _. (_, _, c.dialer_of_service-asking.ensures.service, c.in-Ok-tasks_of.ensures.duties)
