use Rattle.std.proofs.Common.{◌∙◌, refl, sym}
use Rattle.litefs_tool.specs.Disks.{few, three}
use Rattle.litefs_tool.proofs.FolderLemmas.{gives_from}
use Rattle.litefs_tool.proofs.backing.restore_image.Goals as goal

pub returns-in-Err-clause-back : goal.returns-in-Err-clause-back
returns-in-Err-clause-back g c = few c.in-Err.ensures.fewer refl

pub returns-clause-back : goal.returns-clause-back
returns-clause-back g c =
    let same = c.restore-disks.ensures.honest in
    three c.take_disks.new.make
    (record { low = c.in-Ok.disks.low; middle = c.in-Ok.disks.middle; high = c.in-Ok.disks.high })
    (record { low = c.restore-disks.result.0.low; middle = c.restore-disks.result.0.middle; high = c.restore-disks.result.0.high })
    c.in-Ok.ensures.gave c.give_back.ensures.kept (gives_from _ _ _ _ c.in-Ok.ensures.same.0 c.give_back.ensures.back)
    (λ h. c.restore-disks.ensures.restored (sym same.0 ∙ h.0, sym same.1 ∙ h.1, sym same.2 ∙ h.2))
