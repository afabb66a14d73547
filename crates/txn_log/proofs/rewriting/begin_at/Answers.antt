use Rattle.lf_disk.specs.declared.name.FileName.TheVariants.{Database}
use Rattle.lf_disk.specs.Change.{OnFile}
use Rattle.lf_disk.proofs.Stretches.{begins}
use Rattle.txn_log.specs.Pages.{Wears}
use Rattle.txn_log.proofs.PageRuns.{front_out}
use Rattle.txn_log.proofs.Wearing.{wears_path}
use Rattle.txn_log.proofs.rewriting.begin_at.Goals as goal

pub returns-then-saturating_add-le-PART-clause-moments : goal.returns-then-saturating_add-le-PART-clause-moments
returns-then-saturating_add-le-PART-clause-moments g c honest change out = begins (g.D.Disk.history c.args.disk.now) (OnFile Database (Wears change)) (wears_path change)
