use Rattle.node_mount.proofs.DoorLemmas.{all_doors_back}
use Rattle.node_mount.proofs.doors.make_doors.Goals as goal

pub returns-in-Err-make_calls-clause-back : goal.returns-in-Err-make_calls-clause-back
returns-in-Err-make_calls-clause-back g c =
    let asked = g.M.Maker.asked in
    let back = g.M.Maker.back in
    all_doors_back (Unit {0}) (Unit {0}) c.args.settings.now c.in-Ok.files (asked c.args.make.now) (asked c.files.new.self) (asked c.make_calls.new.make) (asked c.back_files.new.self)
    (back c.args.make.now) (back c.files.new.self) (back c.make_calls.new.make) (back c.back_files.new.self) c.in-Err-make_calls.why c.in-Ok.ensures.asked c.files.ensures.back
    c.in-Err-make_calls.ensures.back c.back_files.ensures.back c.back_files.ensures.kept.0
