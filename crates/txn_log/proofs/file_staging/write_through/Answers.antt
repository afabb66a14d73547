use Rattle.std.proofs.Common.{◌≡◌, ◌∙◌, ◌++◌, [], List, ℕ, refl, sym, ap, subst}
use Rattle.lf_disk.specs.declared.name.FileName.TheVariants.{Staged}
use Rattle.lf_disk.specs.Folder.{SameBut}
use Rattle.lf_disk.proofs.Moments.{joined}
use Rattle.txn_log.specs.Staging.{HasGathered}
use Rattle.txn_log.proofs.Gatherings.{more}
use Rattle.txn_log.proofs.file_staging.write_through.Goals as goal

pub returns-in_err-write_behind-clause-moments : goal.returns-in_err-write_behind-clause-moments
returns-in_err-write_behind-clause-moments g c honest before encoding so_far =
    let mid = g.D.Disk.history c.flush.new.disk in
    let held = more before _ _ encoding mid (c.in_ok-flush.ensures.gathers honest before encoding so_far) c.args.bytes.now c.args.bytes.now (sym (ap (λ (l : List ℕ). l ++ c.args.bytes.now) c.in_ok-flush.ensures.none)) in
    joined _ mid _ (SameBut Staged before) (c.flush.ensures.moments honest before encoding so_far) (c.write_behind.ensures.moments (c.flush.ensures.honest ∙ honest) before _ held)

pub returns-clause-moments : goal.returns-clause-moments
returns-clause-moments g c honest before encoding so_far =
    let mid = g.D.Disk.history c.flush.new.disk in
    let held = more before _ _ encoding mid (c.in_ok-flush.ensures.gathers honest before encoding so_far) c.args.bytes.now c.args.bytes.now (sym (ap (λ (l : List ℕ). l ++ c.args.bytes.now) c.in_ok-flush.ensures.none)) in
    joined _ mid _ (SameBut Staged before) (c.flush.ensures.moments honest before encoding so_far) (c.write_behind.ensures.moments (c.flush.ensures.honest ∙ honest) before _ held)

pub returns-clause-gathers : goal.returns-clause-gathers
returns-clause-gathers g c honest before encoding so_far =
    let mid = g.D.Disk.history c.flush.new.disk in
    let held = more before _ _ encoding mid (c.in_ok-flush.ensures.gathers honest before encoding so_far) c.args.bytes.now c.args.bytes.now (sym (ap (λ (l : List ℕ). l ++ c.args.bytes.now) c.in_ok-flush.ensures.none)) in
    subst (λ (l : List ℕ). HasGathered before c.write_behind.new.at l (encoding ++ c.args.bytes.now) (g.D.Disk.history c.write_behind.new.disk)) (sym c.in_ok-flush.ensures.none)
    (c.in_ok-write_behind.ensures.gathers (c.flush.ensures.honest ∙ honest) before _ held)
