use Rattle.node_mount.proofs.AskLemmas.{links_and_mount, served_asked}
use Rattle.node_mount.proofs.DoorLemmas.{unheard_asked, unheard_back}
use Rattle.node_mount.proofs.mounting.mount_node.Goals as goal

pub returns-in-Ok-make_doors-clause-asked : goal.returns-in-Ok-make_doors-clause-asked
returns-in-Ok-make_doors-clause-asked g c =
    let s = c.args.read.now.settings in
    let asked = g.M.Maker.asked in
    served_asked s (asked c.args.make.now) (asked c.serve_place.new.make) c.serve_place.result
    (links_and_mount s (asked c.args.make.now) (asked c.make_doors.new.make) (asked c.serve_place.new.make) c.in-Ok-make_doors.ensures.asked c.serve_place.ensures.asked) c.serve_place.ensures.kind

pub returns-in-Err-Network-clause-asked : goal.returns-in-Err-Network-clause-asked
returns-in-Err-Network-clause-asked g c =
    unheard_asked (Unit {0}) (Unit {0}) c.args.read.now.settings (g.M.Maker.asked c.args.make.now) (g.M.Maker.asked c.make_doors.new.make) (rw c.in-Err-Network.field-0-is at c.in-Err-Network.ensures.asked)

pub returns-in-Err-Network-clause-back : goal.returns-in-Err-Network-clause-back
returns-in-Err-Network-clause-back g c =
    unheard_back (Unit {0}) (Unit {0}) c.args.read.now.settings g.M.FileAccept.Acceptor.ended g.M.FileAccept.Acceptor.given (g.M.Maker.asked c.args.make.now) (g.M.Maker.asked c.make_doors.new.make)
    (g.M.Maker.back c.args.make.now) (g.M.Maker.back c.make_doors.new.make) (rw c.in-Err-Network.field-0-is at c.in-Err-Network.ensures.back)

pub returns-in-Ok-make_doors-clause-broken : goal.returns-in-Ok-make_doors-clause-broken
returns-in-Ok-make_doors-clause-broken g c = rw c.in-Ok.ensures.opened at c.serve_place.ensures.broken
