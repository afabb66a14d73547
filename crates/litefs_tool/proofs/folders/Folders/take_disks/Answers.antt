use Rattle.std.proofs.Common.{◌≡◌, ◌∙◌, ◌∷◌, [], List, Option, sym, subst}
use Rattle.node_objects.specs.Making.{TakesBack, refused}
use Rattle.node_objects.specs.declared.asked.Asked.{Asked}
use Rattle.node_objects.specs.declared.asked.Wanted.TheVariants as wants
use Rattle.node_objects.specs.declared.returned.Returned.TheVariants as returned
use Rattle.litefs_tool.specs.Disks.{one, two}
use Rattle.litefs_tool.proofs.FolderLemmas.{gives_more, gives_one}
use Rattle.litefs_tool.proofs.folders.Folders.take_disks.Goals as goal

pub returns-in-Err-clause-fewer : goal.returns-in-Err-clause-fewer
returns-in-Err-clause-fewer g c =
    one c.disk.new.self c.in_ok-low.low (record { wanted = c.in_ok-low.ensures.asked; next = c.in_ok-low.ensures.next })
    (subst (λ (a : Option (List Asked)). TakesBack (refused (wants.Disk c.args.self.now.middle)) (g.M.Maker.asked c.disk.new.self) a) (sym c.back_disk.ensures.kept.0) c.in-Err.ensures.asked)
    (gives_one (returned.Disk c.in_ok-low.low) _ _ _ (c.disk-2.ensures.back ∙ c.disk.ensures.back) c.back_disk.ensures.back)

pub returns-in-Err-disk-clause-fewer : goal.returns-in-Err-disk-clause-fewer
returns-in-Err-disk-clause-fewer g c =
    two c.disk.new.self c.disk-2.new.self c.in_ok-low.low c.in-Ok.disk (record { wanted = c.in_ok-low.ensures.asked; next = c.in_ok-low.ensures.next })
    (record { wanted = c.in-Ok.ensures.asked; next = c.in-Ok.ensures.next })
    (subst (λ (a : Option (List Asked)). TakesBack (refused (wants.Disk c.args.self.now.high)) (g.M.Maker.asked c.disk-2.new.self) a)
    (sym (c.back_disk-in-Err-disk-2.ensures.kept.0 ∙ c.back_disk-in-Err-disk.ensures.kept.0)) c.in-Err-disk.ensures.asked)
    (gives_more (returned.Disk c.in_ok-low.low ∷ []) (returned.Disk c.in-Ok.disk) _ _ _
    (gives_one (returned.Disk c.in_ok-low.low) _ _ _ (c.disk-3.ensures.back ∙ c.disk-2.ensures.back ∙ c.disk.ensures.back) c.back_disk-in-Err-disk.ensures.back)
    c.back_disk-in-Err-disk-2.ensures.back)

pub returns-clause-gave : goal.returns-clause-gave
returns-clause-gave g c = record {
  second = c.disk.new.self;
  third = c.disk-2.new.self;
  low = record { wanted = c.in_ok-low.ensures.asked; next = c.in_ok-low.ensures.next };
  middle = record { wanted = c.in-Ok.ensures.asked; next = c.in-Ok.ensures.next };
  high = record { wanted = c.in-Ok-disk.ensures.asked; next = c.in-Ok-disk.ensures.next };
}
