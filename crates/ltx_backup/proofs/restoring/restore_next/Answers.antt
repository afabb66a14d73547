use Rattle.std.proofs.Common.{◌≤◌, arith}
use Rattle.lf_disk.specs.History.{now}
use Rattle.lf_sqlite_pages.specs.Apply.{Fits}
use Rattle.ltx_codec.specs.declared.file.Ltx.{Ltx}
use Rattle.ltx_backup.specs.Judging.{HasNumbers}
use Rattle.ltx_backup.specs.Levels.{Stands}
use Rattle.ltx_backup.proofs.Blaming.{blamed_too}
use Rattle.ltx_backup.proofs.restoring.restore_next.Goals as goal

pub returns-then-entry-txid-clause-restores : goal.returns-then-entry-txid-clause-restores
returns-then-entry-txid-clause-restores g c honest within = absurd (omega arith)

pub returns-in-Err-clause-misfit : goal.returns-in-Err-clause-misfit
returns-in-Err-clause-misfit g c honest =
    let f = now (g.D.Disk.history c.args.disk.now) in
    let entry = c.args.entry.now in
    let within : entry.max ≤ c.args.txid = omega arith in
    blamed_too c.args.level entry.min entry.max ((file : Ltx) → HasNumbers file entry → Stands f file → Fits c.args.before.image file.change → ⊥)
    ((entry.max ≤ c.args.txid) × ((file : Ltx) → HasNumbers file entry → Stands f file → Fits c.args.before.image file.change → ⊥)) c.in-Err.why
    (λ none. (within, none)) (c.in-Err.ensures.misfit honest)
