use Rattle.std.proofs.Common.{◌≤◌, ◌∷◌, [], ◌++◌, None, subst, arith}
use Rattle.lf_disk.specs.declared.name.FileName.{FileName}
use Rattle.lf_disk.specs.declared.name.FileName.TheVariants.{Ltx as LtxName}
use Rattle.lf_disk.specs.Change.{Perhaps, SetsFile}
use Rattle.lf_disk.specs.History.{Moves}
use Rattle.lf_disk.proofs.Moments.{started, goes_on}
use Rattle.ltx_backup.specs.Trimming.{IsTrimmed}
use Rattle.ltx_backup.proofs.Trims.{passed, removed, left_by, left_trimmed}
use Rattle.ltx_backup.proofs.trimming.trim_one.Goals as goal

pub returns-then-entry-number-clause-moments : goal.returns-then-entry-number-clause-moments
returns-then-entry-number-clause-moments g c honest before entries done =
    let h = g.D.Disk.history c.args.disk.now in
    started h (IsTrimmed c.args.number before) (left_trimmed c.args.number entries before h done)

pub returns-then-entry-number-clause-done : goal.returns-then-entry-number-clause-done
returns-then-entry-number-clause-done g c honest before entries done =
    passed c.args.number before entries c.args.entry.now (g.D.Disk.history c.args.disk.now) (g.D.Disk.history c.args.disk.now) done (omega arith) (omega arith)

pub returns-in_err-remove-clause-moments : goal.returns-in_err-remove-clause-moments
returns-in_err-remove-clause-moments g c honest before entries done =
    let h = g.D.Disk.history c.args.disk.now in
    let new = g.D.Disk.history c.remove.new.self in
    let number = c.args.number in
    let low : c.args.entry.now.min ≤ c.args.number = omega arith in
    let moves : Moves (Perhaps (SetsFile (LtxName c.args.entry.now.min c.args.entry.now.max) None)) (Perhaps (SetsFile (LtxName c.args.entry.now.min c.args.entry.now.max) None)) h new =
    subst (λ (n : FileName). Moves (Perhaps (SetsFile n None)) (Perhaps (SetsFile n None)) h new) c.name.ensures (c.in_err-remove.ensures.failed honest) in
    goes_on _ h h new (IsTrimmed number before) (started h (IsTrimmed number before) (left_trimmed number entries before h done)) c.remove.ensures.ticks
    (left_by number before entries c.args.entry.now h new done low (Perhaps (SetsFile (LtxName c.args.entry.now.min c.args.entry.now.max) None)) moves)

pub returns-clause-moments : goal.returns-clause-moments
returns-clause-moments g c honest before entries done =
    let h = g.D.Disk.history c.args.disk.now in
    let new = g.D.Disk.history c.remove.new.self in
    let number = c.args.number in
    let low : c.args.entry.now.min ≤ c.args.number = omega arith in
    let moves : Moves (SetsFile (LtxName c.args.entry.now.min c.args.entry.now.max) None) (SetsFile (LtxName c.args.entry.now.min c.args.entry.now.max) None) h new =
    subst (λ (n : FileName). Moves (SetsFile n None) (SetsFile n None) h new) c.name.ensures (c.in_ok-remove.ensures.done honest) in
    goes_on _ h h new (IsTrimmed number before) (started h (IsTrimmed number before) (left_trimmed number entries before h done)) c.remove.ensures.ticks
    (left_trimmed number (entries ++ c.args.entry.now ∷ []) before new (removed number before entries c.args.entry.now h new done low moves))

pub returns-clause-done : goal.returns-clause-done
returns-clause-done g c honest before entries done =
    let h = g.D.Disk.history c.args.disk.now in
    let new = g.D.Disk.history c.remove.new.self in
    let low : c.args.entry.now.min ≤ c.args.number = omega arith in
    let moves : Moves (SetsFile (LtxName c.args.entry.now.min c.args.entry.now.max) None) (SetsFile (LtxName c.args.entry.now.min c.args.entry.now.max) None) h new =
    subst (λ (n : FileName). Moves (SetsFile n None) (SetsFile n None) h new) c.name.ensures (c.in_ok-remove.ensures.done honest) in
    removed c.args.number before entries c.args.entry.now h new done low moves
