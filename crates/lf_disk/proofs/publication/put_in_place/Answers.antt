use Rattle.lf_disk.proofs.Publishing.{perhaps_renames, moments}
use Rattle.lf_disk.proofs.publication.put_in_place.Goals as goal

-- the rename leaves the files as before, or the file whole
pub returns-in_err-rename-clause-moments : goal.returns-in_err-rename-clause-moments
returns-in_err-rename-clause-moments g c honest before bytes staged =
    moments before c.args.name bytes (g.D.Disk.history c.args.disk.now) staged _ (g.D.Disk.history c.rename.new.self) c.rename.ensures.ticks
    (perhaps_renames before c.args.name bytes (g.D.Disk.history c.args.disk.now) staged (g.D.Disk.history c.rename.new.self) _ (c.in_err-rename.ensures.failed honest))
