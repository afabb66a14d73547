use Rattle.std.proofs.Common.{ap}
use Rattle.lf_disk.specs.declared.name.FileName.{FileName}
use Rattle.lf_disk.specs.Folder.{bytes_of}
use Rattle.lf_disk.specs.History.{now}
use Rattle.ltx_codec.specs.Format.{IsLtx}
use Rattle.ltx_codec.specs.declared.file.Ltx.{Ltx}
use Rattle.ltx_backup.specs.Judging.{HasNumbers}
use Rattle.ltx_backup.specs.Levels.{Stands}
use Rattle.ltx_backup.proofs.Blaming.{result_cause, blamed_too, unread}
use Rattle.ltx_backup.proofs.reading.read_file.Goals as goal

pub returns-in-Err-clause-unread : goal.returns-in-Err-clause-unread
returns-in-Err-clause-unread g c honest =
    let f = now (g.D.Disk.history c.args.disk.now) in
    let entry = c.args.entry.now in
    let bytes = bytes_of (f c.name.result) in
    blamed_too c.args.level entry.min entry.max ((file : Ltx) → IsLtx bytes file → ⊥) ((file : Ltx) → HasNumbers file entry → Stands f file → ⊥) c.in-Err.why
    (unread f bytes c.args.level entry (ap (λ (n : FileName). bytes_of (f n)) c.name.ensures)) (c.in-Err.ensures.none honest)

pub returns-clause-cause : goal.returns-clause-cause
returns-clause-cause g c =
    result_cause _ _ c.args.level c.args.entry.now.min c.args.entry.now.max (HasNumbers c.in-Ok.file c.args.entry.now → ⊥) c.named.result c.in-Ok.ensures.cause c.named.ensures.other
