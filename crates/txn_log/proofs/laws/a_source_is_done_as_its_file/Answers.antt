use Rattle.txn_log.proofs.Sourced.{done_as_file}
use Rattle.txn_log.proofs.laws.a_source_is_done_as_its_file.Goals as goal

pub returns : goal.returns
returns g c encoding file left_now commit old was answer new failed is went =
    done_as_file encoding file left_now commit old was (g.D.Disk.history c.args.before.now) answer new failed (g.D.Disk.history c.args.after.now) is went
