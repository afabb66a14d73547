use Rattle.lf_disk.specs.declared.record.Change.TheVariants.{Cut}
use Rattle.lf_disk.proofs.Histories.{done, failed, ticks}
use Rattle.lf_disk.proofs.mem_disk.as_disk.MemDiskDisk.cut.Goals as goal

pub returns-clause-done : goal.returns-clause-done
returns-clause-done c =
    done c.args.self.now.first c.change.new.self.first c.args.self.now.calls c.change.new.self.calls (Cut c.args.name c.args.len) c.change.ensures.first c.change.result c.change.ensures.done

pub returns-clause-failed : goal.returns-clause-failed
returns-clause-failed c =
    failed c.args.self.now.first c.change.new.self.first c.args.self.now.calls c.change.new.self.calls (Cut c.args.name c.args.len) c.change.ensures.first c.change.result c.change.ensures.failed

pub returns-clause-ticks : goal.returns-clause-ticks
returns-clause-ticks c =
    ticks c.args.self.now.first c.change.new.self.first c.args.self.now.calls c.change.new.self.calls (Cut c.args.name c.args.len) c.change.ensures.first c.change.result
    c.change.ensures.done c.change.ensures.failed c.change.ensures.last
