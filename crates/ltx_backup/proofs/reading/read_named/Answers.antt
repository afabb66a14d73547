use Rattle.std.proofs.Common.{List, ℕ, sym, subst}
use Rattle.lf_disk.specs.Folder.{bytes_of}
use Rattle.lf_disk.specs.History.{now}
use Rattle.ltx_codec.specs.Format.{IsLtx}
use Rattle.ltx_codec.specs.declared.file.Ltx.{Ltx}
use Rattle.ltx_backup.proofs.Blaming.{blamed}
use Rattle.ltx_backup.proofs.reading.read_named.Goals as goal

pub returns-in-Err-come_as-clause-none : goal.returns-in-Err-come_as-clause-none
returns-in-Err-come_as-clause-none g c honest =
    let file = bytes_of (now (g.D.Disk.history c.args.disk.now) c.args.name) in
    let come = c.in-Ok.ensures.come in
    blamed c.args.level c.args.min c.args.max ((it : Ltx) → IsLtx come.bytes it → ⊥) ((it : Ltx) → IsLtx file it → ⊥) c.in-Err-come_as.why
    (λ none it is. none it (subst (λ (l : List ℕ). IsLtx l it) (sym (come.are honest)) is)) (c.in-Err-come_as.ensures.none come.bytes come.come)
