use Rattle.std.proofs.Common.{List, ℕ, length, sym, subst}
use Rattle.lf_disk.specs.declared.name.FileName.TheVariants.{Database}
use Rattle.lf_disk.specs.Change.{OnFile}
use Rattle.lf_disk.proofs.Stretches.{begins}
use Rattle.txn_log.specs.PageRun.{LeavesOut}
use Rattle.txn_log.specs.Pages.{Wears}
use Rattle.txn_log.proofs.PageRuns.{range_runs}
use Rattle.txn_log.proofs.Wearing.{wears_path}
use Rattle.txn_log.proofs.rewriting.write_run.Goals as goal

pub returns-then-is_empty-clause-moments : goal.returns-then-is_empty-clause-moments
returns-then-is_empty-clause-moments g c honest change out = begins (g.D.Disk.history c.args.disk.now) (OnFile Database (Wears change)) (wears_path change)

pub returns-in_err-write-clause-moments : goal.returns-in_err-write-clause-moments
returns-in_err-write-clause-moments g c honest change out =
    let h = g.D.Disk.history c.args.disk.now in
    let here = subst (λ (l : List ℕ). LeavesOut change c.args.run.now.at (length l)) (sym c.as_slice.ensures.value) out in
    range_runs _ change c.args.run.now.at (length c.as_slice.result.now) _ h h (g.D.Disk.history c.write.new.self) here (begins h (OnFile Database (Wears change)) (wears_path change))
    c.write.ensures.ticks (c.in_err-write.ensures.failed honest)

pub returns-clause-moments : goal.returns-clause-moments
returns-clause-moments g c honest change out =
    let h = g.D.Disk.history c.args.disk.now in
    let here = subst (λ (l : List ℕ). LeavesOut change c.args.run.now.at (length l)) (sym c.as_slice.ensures.value) out in
    range_runs _ change c.args.run.now.at (length c.as_slice.result.now) _ h h (g.D.Disk.history c.write.new.self) here (begins h (OnFile Database (Wears change)) (wears_path change))
    c.write.ensures.ticks (c.in_ok-write.ensures.done honest)
