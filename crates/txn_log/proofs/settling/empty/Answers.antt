use Rattle.std.proofs.Common.{◌∙◌, refl}
use Rattle.lf_disk.specs.History.{now}
use Rattle.lf_disk.specs.declared.name.FileName.TheVariants.{Dropped}
use Rattle.txn_log.proofs.Emptyings.{clears, writes, at_rest}
use Rattle.txn_log.proofs.Settlings.{cleared-other}
use Rattle.txn_log.proofs.settling.empty.Goals as goal

pub rewrite-requires : goal.rewrite-requires
rewrite-requires g c still = (c.in_ok-clear.ensures.done (Rattle.std.proofs.Common.sym c.clear.ensures.honest ∙ still)).settled

pub returns-in_err-clear-clause-moments : goal.returns-in_err-clear-clause-moments
returns-in_err-clear-clause-moments g c honest is =
    clears c.args.entries.now (g.D.Disk.history c.args.disk.now) (g.D.Disk.history c.clear.new.disk) is (c.clear.ensures.moments honest)

pub returns-in_err-rewrite-clause-moments : goal.returns-in_err-rewrite-clause-moments
returns-in_err-rewrite-clause-moments g c honest is =
    writes c.args.entries.now (g.D.Disk.history c.args.disk.now) (g.D.Disk.history c.clear.new.disk) is _ (g.D.Disk.history c.rewrite.new.disk) (c.in_ok-clear.ensures.done honest)
    (c.clear.ensures.moments honest) (c.rewrite.ensures.moments (c.clear.ensures.honest ∙ honest))

pub returns-clause-moments : goal.returns-clause-moments
returns-clause-moments g c honest is =
    writes c.args.entries.now (g.D.Disk.history c.args.disk.now) (g.D.Disk.history c.clear.new.disk) is _ (g.D.Disk.history c.rewrite.new.disk) (c.in_ok-clear.ensures.done honest)
    (c.clear.ensures.moments honest) (c.rewrite.ensures.moments (c.clear.ensures.honest ∙ honest))

pub returns-clause-done : goal.returns-clause-done
returns-clause-done g c honest is others =
    at_rest c.args.entries.now (g.D.Disk.history c.args.disk.now) (g.D.Disk.history c.clear.new.disk) is c.no_pages-nothing.result (g.D.Disk.history c.rewrite.new.disk) (c.in_ok-clear.ensures.done honest)
    c.no_pages-nothing.ensures others (c.in_ok-rewrite.ensures.done (c.clear.ensures.honest ∙ honest))

pub returns-clause-mark : goal.returns-clause-mark
returns-clause-mark g c honest =
    (c.in_ok-rewrite.ensures.done (c.clear.ensures.honest ∙ honest)).others Dropped refl
    ∙ cleared-other c.args.entries.now (now (g.D.Disk.history c.args.disk.now)) (g.D.Disk.history c.clear.new.disk) (c.in_ok-clear.ensures.done honest) Dropped (λ a b. refl)
