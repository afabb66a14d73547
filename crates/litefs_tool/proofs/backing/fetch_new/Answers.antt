use Rattle.std.proofs.Common.{◌∙◌, ◌∷◌, [], refl, sym}
use Rattle.node_objects.specs.declared.returned.Returned.TheVariants as returned
use Rattle.litefs_tool.specs.Disks.{all, all_three, fewer}
use Rattle.litefs_tool.proofs.BackingLemmas.{backs_up_by}
use Rattle.litefs_tool.proofs.FolderLemmas.{gives_both, gives_one}
use Rattle.litefs_tool.proofs.backing.fetch_new.Goals as goal

pub returns-in-Err-clause-back : goal.returns-in-Err-clause-back
returns-in-Err-clause-back g c = let gave = rw c.requires at c.in-Err.ensures.fewer in fewer gave refl

pub returns-clause-back : goal.returns-clause-back
returns-clause-back g c =
    let gave = rw c.requires at c.in-Ok.ensures.gave in
    let same = c.back_up-disks.ensures.honest in
    all c.take_disks.new.make
    (record { low = c.in-Ok.disks.low; middle = c.in-Ok.disks.middle; high = c.in-Ok.disks.high })
    (record { low = c.back_up-disks.result.0.low; middle = c.back_up-disks.result.0.middle; high = c.back_up-disks.result.0.high })
    c.dialer-dialer.result c.back_up-disks.new.dialer gave (c.give_back.ensures.kept ∙ c.back_dial.ensures.kept.0 ∙ c.dialer-dialer.ensures.kept.0)
    (gives_both (returned.Dialer c.back_up-disks.new.dialer ∷ []) _ _ _ _
    (gives_one (returned.Dialer c.back_up-disks.new.dialer) _ _ _ (c.dialer-dialer.ensures.same.1 ∙ c.in-Ok.ensures.same.0) c.back_dial.ensures.back) c.give_back.ensures.back)
    (backs_up_by _ _ _ _ _ _ _ _ _ _ _ _ _ _ (λ h. (sym same.0 ∙ h.0, sym same.1 ∙ h.1, sym same.2 ∙ h.2)) c.back_up-disks.ensures.backs_up)
