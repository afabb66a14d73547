use Rattle.std.proofs.Common.{◌∙◌, ◌+◌, List, ℕ, length, sym, ap, subst}
use Rattle.txn_log.specs.PageRun.{LeavesOut}
use Rattle.txn_log.proofs.PageRuns.{end_out, range_runs}
use Rattle.txn_log.proofs.rewriting.write_behind.Goals as goal

pub returns-in_err-write-clause-moments : goal.returns-in_err-write-clause-moments
returns-in_err-write-clause-moments g c honest change one two =
    let behind = subst (λ (a : ℕ). LeavesOut change a (length c.args.page.now)) (sym c.in_ok-write_run.ensures.ends) two in
    range_runs _ change c.write_run.new.run.at (length c.args.page.now) _ (g.D.Disk.history c.args.disk.now) (g.D.Disk.history c.write_run.new.disk) (g.D.Disk.history c.write.new.self) behind
    (c.write_run.ensures.moments honest change one) c.write.ensures.ticks (c.in_err-write.ensures.failed (c.write_run.ensures.honest ∙ honest))

pub returns-clause-moments : goal.returns-clause-moments
returns-clause-moments g c honest change one two =
    let behind = subst (λ (a : ℕ). LeavesOut change a (length c.args.page.now)) (sym c.in_ok-write_run.ensures.ends) two in
    range_runs _ change c.write_run.new.run.at (length c.args.page.now) _ (g.D.Disk.history c.args.disk.now) (g.D.Disk.history c.write_run.new.disk) (g.D.Disk.history c.write.new.self) behind
    (c.write_run.ensures.moments honest change one) c.write.ensures.ticks (c.in_ok-write.ensures.done (c.write_run.ensures.honest ∙ honest))

pub returns-clause-out : goal.returns-clause-out
returns-clause-out g c change sized one two =
    let n : ℕ = length c.args.page.now in
    let end : ℕ = c.write_run.new.run.at + n in
    subst (λ (l : List ℕ). LeavesOut change end (length l)) (sym c.in_ok-write_run.ensures.none)
    (end_out change (c.args.run.now.at + length c.args.run.now.bytes.items) n end (ap (λ (a : ℕ). a + n) c.in_ok-write_run.ensures.ends) two)
