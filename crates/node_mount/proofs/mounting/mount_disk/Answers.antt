use Rattle.std.proofs.Common.{[], ◌∷◌, ◌∙◌, sym, subst}
use Rattle.node_mount.specs.Asking.{disk_of}
use Rattle.node_objects.specs.Making.{gave, TakesBack}
use Rattle.node_mount.specs.Returns.{GivesBack}
use Rattle.node_mount.proofs.AskLemmas.{disk_alone, disk_then}
use Rattle.node_objects.specs.declared.returned.Returned.TheVariants as returned
use Rattle.node_mount.proofs.BackLemmas.{damage_found, no_damage, one_back}
use Rattle.node_mount.proofs.ServingLemmas.{serves_past}
use Rattle.node_mount.proofs.mounting.mount_disk.Goals as goal

pub returns-in-Ok-open_recovered-clause-damage : goal.returns-in-Ok-open_recovered-clause-damage
returns-in-Ok-open_recovered-clause-damage g c = no_damage _ _ _ _ _ c.mount_node.result c.mount_node.ensures.kind

pub returns-in-Ok-open_recovered-clause-kind : goal.returns-in-Ok-open_recovered-clause-kind
returns-in-Ok-open_recovered-clause-kind g c = serves_past c.mount_node.result c.mount_node.ensures.kind

pub returns-in-Err-Unrecovered-clause-damage : goal.returns-in-Err-Unrecovered-clause-damage
returns-in-Err-Unrecovered-clause-damage g c =
    rw c.fault_of.ensures (damage_found (Unit {0}) g.M.Disk.Disk.honest g.M.Disk.Disk.history (g.M.Maker.may_give c.args.make.now) c.in-Ok-disk.disk c.in-Err-Unrecovered.disk
    (g.M.Maker.back c.args.make.now) (g.M.Maker.back c.back_disk.new.self) c.in-Err-Unrecovered.why c.in-Ok-disk.ensures.next
    (λ honest. rw c.in-Err-Unrecovered.field-0-is at (c.in-Err-Unrecovered.ensures.why honest)) ((rw c.in-Err-Unrecovered.field-0-is at c.in-Err-Unrecovered.ensures.back).0)
    (subst (λ before. GivesBack (returned.Disk c.in-Err-Unrecovered.disk ∷ []) before (g.M.Maker.back c.back_disk.new.self)) (c.tell_unrecovered.ensures.same.1 ∙ c.disk.ensures.back)
    (one_back _ _ _ c.back_disk.ensures.back)))

pub returns-in-Ok-open_recovered-clause-asked : goal.returns-in-Ok-open_recovered-clause-asked
returns-in-Ok-open_recovered-clause-asked g c =
    disk_then c.args.read.now.settings (g.M.Maker.asked c.args.make.now) (g.M.Maker.asked c.disk.new.self) (g.M.Maker.asked c.mount_node.new.make) c.mount_node.result
    c.in-Ok-disk.ensures.asked c.mount_node.ensures.asked

pub returns-in-Err-Unrecovered-clause-asked : goal.returns-in-Err-Unrecovered-clause-asked
returns-in-Err-Unrecovered-clause-asked g c =
    let s = c.args.read.now.settings in
    rw c.fault_of.ensures (disk_alone (Unit {0}) s (g.M.Maker.asked c.args.make.now) (g.M.Maker.asked c.back_disk.new.self)
    c.in-Err-Unrecovered.why (subst (λ told. TakesBack (gave (disk_of s)) (g.M.Maker.asked c.args.make.now) told) (sym (c.back_disk.ensures.kept.0 ∙ c.tell_unrecovered.ensures.kept.0)) c.in-Ok-disk.ensures.asked))
