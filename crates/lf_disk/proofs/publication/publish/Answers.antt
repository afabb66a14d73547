use Rattle.std.proofs.Common.{◌∙◌, inl}
use Rattle.lf_disk.specs.Folder.{Folder}
use Rattle.lf_disk.specs.History.{now}
use Rattle.lf_disk.specs.Publish.{IsOldOrPublished}
use Rattle.lf_disk.proofs.Moments.{joined, weakened}
use Rattle.lf_disk.proofs.publication.publish.Goals as goal

pub returns-in_err-put_in_place-clause-moments : goal.returns-in_err-put_in_place-clause-moments
returns-in_err-put_in_place-clause-moments g c honest =
    let before : Folder = now (g.D.Disk.history c.args.disk.now) in
    joined _ (g.D.Disk.history c.stage.new.disk) _ (IsOldOrPublished before c.args.name c.args.bytes.now)
    (weakened _ _ _ (IsOldOrPublished before c.args.name c.args.bytes.now) (c.stage.ensures.moments honest) (λ d same. inl same))
    (c.put_in_place.ensures.moments (c.stage.ensures.honest ∙ honest) before c.args.bytes.now (c.in_ok-stage.ensures.staged honest))

pub returns-clause-moments : goal.returns-clause-moments
returns-clause-moments g c honest =
    let before : Folder = now (g.D.Disk.history c.args.disk.now) in
    joined _ (g.D.Disk.history c.stage.new.disk) _ (IsOldOrPublished before c.args.name c.args.bytes.now)
    (weakened _ _ _ (IsOldOrPublished before c.args.name c.args.bytes.now) (c.stage.ensures.moments honest) (λ d same. inl same))
    (c.put_in_place.ensures.moments (c.stage.ensures.honest ∙ honest) before c.args.bytes.now (c.in_ok-stage.ensures.staged honest))

pub returns-clause-published : goal.returns-clause-published
returns-clause-published g c honest =
    c.in_ok-put_in_place.ensures.published (c.stage.ensures.honest ∙ honest) (now (g.D.Disk.history c.args.disk.now)) c.args.bytes.now
    (c.in_ok-stage.ensures.staged honest)
