use Rattle.std.proofs.Common.{◌∙◌, [], List, ℕ, refl, subst, arith}
use Rattle.lf_disk.specs.declared.name.FileName.TheVariants.{Staged}
use Rattle.lf_disk.specs.Folder.{SameBut}
use Rattle.lf_disk.specs.History.{now}
use Rattle.lf_disk.proofs.Moments.{joined}
use Rattle.txn_log.specs.Staging.{HoldsSoFar}
use Rattle.txn_log.proofs.Stagings.{first-encoding, first-staging}
use Rattle.txn_log.proofs.staging.stage_header.Goals as goal

pub returns-in_err-append-clause-moments : goal.returns-in_err-append-clause-moments
returns-in_err-append-clause-moments g c honest =
    let before = now (g.D.Disk.history c.args.disk.now) in
    joined _ (g.D.Disk.history c.clear.new.disk) _ (SameBut Staged before) (c.clear.ensures.moments honest)
    (c.append.ensures.moments (c.clear.ensures.honest ∙ honest) before [] refl (c.in_ok-clear.ensures.staged honest))

pub returns-clause-moments : goal.returns-clause-moments
returns-clause-moments g c honest =
    let before = now (g.D.Disk.history c.args.disk.now) in
    joined _ (g.D.Disk.history c.clear.new.disk) _ (SameBut Staged before) (c.clear.ensures.moments honest)
    (c.append.ensures.moments (c.clear.ensures.honest ∙ honest) before [] refl (c.in_ok-clear.ensures.staged honest))

pub returns-clause-staged : goal.returns-clause-staged
returns-clause-staged g c honest =
    let before = now (g.D.Disk.history c.args.disk.now) in
    subst (λ (t : List ℕ). HoldsSoFar before t (g.D.Disk.history c.append.new.disk)) (first-encoding c.args.header.now c.header_bytes.result c.header_bytes.ensures)
    (c.in_ok-append.ensures.staged (c.clear.ensures.honest ∙ honest) before [] refl (c.in_ok-clear.ensures.staged honest))

pub returns-clause-counts : goal.returns-clause-counts
returns-clause-counts g c =
    first-staging c.args.header.now c.header_bytes.result c.append.new.staging c.header_bytes.ensures (omega (arith, c.in_ok-append.ensures.counts.0)) c.in_ok-append.ensures.counts.1
