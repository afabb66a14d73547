use Rattle.std.proofs.Common.{◌∙◌}
use Rattle.lf_disk.specs.History.{Keeps}
use Rattle.lf_disk.proofs.Histories.{on_err}
use Rattle.lf_disk.proofs.SyncBoth.{first_only, first_stretch, both_stretches, perhaps, either}
use Rattle.lf_disk.proofs.disk.Disk.sync_both.Goals as goal

pub returns-in_err-sync-clause-failed : goal.returns-in_err-sync-clause-failed
returns-in_err-sync-clause-failed g c = λ honest.
    let old = g.Self.Disk.history c.args.self.now in
    on_err c.from_residual.result (first_only c.args.one c.args.other old (g.Self.Disk.history c.sync.new.self) (c.in_err-sync.ensures.failed honest))

pub returns-in_err-sync-clause-moments : goal.returns-in_err-sync-clause-moments
returns-in_err-sync-clause-moments g c = λ honest.
    let old = g.Self.Disk.history c.args.self.now in
    first_stretch c.args.one c.args.other old c.sync.result (g.Self.Disk.history c.sync.new.self) c.sync.ensures.ticks (c.in_err-sync.ensures.failed honest)

pub returns-clause-moments : goal.returns-clause-moments
returns-clause-moments g c = λ honest.
    let old = g.Self.Disk.history c.args.self.now in
    let mid = g.Self.Disk.history c.sync.new.self in
    let new = g.Self.Disk.history c.sync-2.new.self in
    let still = c.sync.ensures.honest ∙ honest in
    both_stretches c.args.one c.args.other old c.sync.result c.sync-2.result mid new c.sync.ensures.ticks
    (perhaps (Keeps c.args.one old) old mid (c.in_ok-sync.ensures.done honest)) c.sync-2.ensures.ticks
    (either c.sync-2.result (Keeps c.args.other mid) mid new (c.sync-2.ensures.done still) (c.sync-2.ensures.failed still))
