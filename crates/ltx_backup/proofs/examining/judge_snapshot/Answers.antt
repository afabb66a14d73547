use Rattle.std.proofs.Common.{◌≡◌}
use Rattle.lf_disk.specs.declared.name.FileName.TheVariants.{Snapshot}
use Rattle.lf_disk.specs.Folder.{bytes_of}
use Rattle.lf_disk.specs.History.{now}
use Rattle.ltx_codec.specs.Format.{IsLtx}
use Rattle.ltx_codec.specs.declared.file.Ltx.{Ltx}
use Rattle.ltx_backup.proofs.Blaming.{blamed_too}
use Rattle.ltx_backup.proofs.examining.judge_snapshot.Goals as goal

pub returns-in-Err-clause-none : goal.returns-in-Err-clause-none
returns-in-Err-clause-none g c honest =
    let bytes = bytes_of (now (g.D.Disk.history c.args.low.now) Snapshot) in
    blamed_too 0 0 0 ((file : Ltx) → IsLtx bytes file → ⊥) ((file : Ltx) → IsLtx bytes file → file.header.min ≡ 1 → ⊥) c.in-Err.why
    (λ none file is first. none file is) (c.in-Err.ensures.none honest)

pub returns-in-Ok-after-clause-finds : goal.returns-in-Ok-after-clause-finds
returns-in-Ok-after-clause-finds g c honest = record {
  finds = record {
    file = c.in-Ok.file;
    is = c.in-Ok.ensures.file honest;
    first = c.if-file-ne1.false;
    entry_is = c.of.ensures;
    end_is = c.after.ensures;
  };
  makes = c.in-Ok-after.ensures.makes;
}
