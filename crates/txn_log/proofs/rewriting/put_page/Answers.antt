use Rattle.std.proofs.Common.{◌∙◌, ℕ, length, sym, subst}
use Rattle.lf_disk.specs.declared.name.FileName.TheVariants.{Database}
use Rattle.lf_disk.specs.Change.{OnFile}
use Rattle.lf_disk.proofs.Stretches.{joined}
use Rattle.txn_log.specs.PageRun.{LeavesOut}
use Rattle.txn_log.specs.Pages.{Wears}
use Rattle.txn_log.proofs.Wearing.{wears_path}
use Rattle.txn_log.proofs.rewriting.put_page.Goals as goal

pub returns-in_err-take_page-clause-moments : goal.returns-in_err-take_page-clause-moments
returns-in_err-take_page-clause-moments g c honest change one two =
    let behind = subst (λ (a : ℕ). LeavesOut change a (length c.args.page.now)) (sym c.in_ok-begin_at.ensures.ends) two in
    joined (g.D.Disk.history c.args.disk.now) (g.D.Disk.history c.begin_at.new.disk) _ (OnFile Database (Wears change)) (wears_path change) (c.begin_at.ensures.moments honest change one)
    (c.take_page.ensures.moments (c.begin_at.ensures.honest ∙ honest) change (c.in_ok-begin_at.ensures.out change one two) behind)

pub returns-clause-moments : goal.returns-clause-moments
returns-clause-moments g c honest change one two =
    let behind = subst (λ (a : ℕ). LeavesOut change a (length c.args.page.now)) (sym c.in_ok-begin_at.ensures.ends) two in
    joined (g.D.Disk.history c.args.disk.now) (g.D.Disk.history c.begin_at.new.disk) _ (OnFile Database (Wears change)) (wears_path change) (c.begin_at.ensures.moments honest change one)
    (c.take_page.ensures.moments (c.begin_at.ensures.honest ∙ honest) change (c.in_ok-begin_at.ensures.out change one two) behind)

pub returns-clause-out : goal.returns-clause-out
returns-clause-out g c change sized one two =
    c.in_ok-take_page.ensures.out change sized (c.in_ok-begin_at.ensures.out change one two)
    (subst (λ (a : ℕ). LeavesOut change a (length c.args.page.now)) (sym c.in_ok-begin_at.ensures.ends) two)
