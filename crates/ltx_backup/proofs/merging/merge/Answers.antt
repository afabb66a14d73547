use Rattle.ltx_backup.proofs.merging.merge.Goals as goal

pub returns-in-Err-clause-unmerged : goal.returns-in-Err-clause-unmerged
returns-in-Err-clause-unmerged c = c.unmerged.ensures c.args.files.items c.in-Err.ensures.fault
