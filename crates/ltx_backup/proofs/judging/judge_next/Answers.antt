use Rattle.std.proofs.Common.{◌≡◌, ◌<◌, arith}
use Rattle.lf_disk.specs.History.{now}
use Rattle.ltx_codec.specs.Positions.{before}
use Rattle.ltx_codec.specs.declared.file.Ltx.{Ltx}
use Rattle.ltx_backup.specs.Judging.{HasNumbers}
use Rattle.ltx_backup.specs.Levels.{Stands}
use Rattle.ltx_backup.proofs.Blaming.{blamed_too}
use Rattle.ltx_backup.proofs.Makings.{into_past, into_more}
use Rattle.ltx_backup.proofs.judging.judge_next.Goals as goal

pub returns-then-name-from-clause-goes_on : goal.returns-then-name-from-clause-goes_on
returns-then-name-from-clause-goes_on g c honest here names start from so_far =
    into_past (now (g.D.Disk.history c.args.disk.now)) c.args.level here names start c.args.found c.args.name.now so_far (omega (arith, from))

pub returns-in-Err-clause-refused : goal.returns-in-Err-clause-refused
returns-in-Err-clause-refused g c honest =
    let f = now (g.D.Disk.history c.args.disk.now) in
    let entry = c.args.name.now in
    let above : c.args.from < entry.min = omega arith in
    blamed_too c.args.level entry.min entry.max ((file : Ltx) → HasNumbers file entry → Stands f file → before file ≡ c.args.found.end → ⊥)
    ((c.args.from < entry.min) × ((file : Ltx) → HasNumbers file entry → Stands f file → before file ≡ c.args.found.end → ⊥)) c.in-Err.why
    (λ none. (above, none)) (c.in-Err.ensures.refused honest)

pub returns-in-Ok-behind-clause-goes_on : goal.returns-in-Ok-behind-clause-goes_on
returns-in-Ok-behind-clause-goes_on g c honest here names start from so_far =
    into_more (now (g.D.Disk.history c.args.disk.now)) c.args.level here names start c.args.found c.in-Ok-behind.found c.args.name.now c.in-Ok.file so_far
    (c.in-Ok.ensures.stands honest) c.in-Ok.ensures.joins c.in-Ok.ensures.min c.in-Ok.ensures.max
    c.in-Ok-behind.ensures.entries c.in-Ok-behind.ensures.end c.in-Ok-behind.ensures.makes
