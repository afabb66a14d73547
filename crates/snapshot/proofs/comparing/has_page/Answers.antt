use Rattle.std.proofs.Common.{arith}
use Rattle.lf_disk.specs.History.{now}
use Rattle.snapshot.proofs.ImportLemmas.{absent, other_size}
use Rattle.snapshot.proofs.comparing.has_page.Goals as goal

pub returns-then-n-commit-clause-same : goal.returns-then-n-commit-clause-same
returns-then-n-commit-clause-same g c honest has =
    absent c.args.page_size c.args.commit (now (g.D.Disk.history c.args.disk.now)) c.args.n c.args.page.now (omega (arith, c.if-n-commit.true))

pub returns-then-page-page_size-clause-same : goal.returns-then-page-page_size-clause-same
returns-then-page-page_size-clause-same g c honest has =
    other_size c.args.page_size c.args.commit (now (g.D.Disk.history c.args.disk.now)) c.args.n c.args.page.now has c.requires.first (omega (arith, c.if-n-commit.false)) c.if-page-page_size.true
