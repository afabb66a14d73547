use Rattle.std.proofs.Common.{◌∙◌, ◌+◌, List, ℕ, length, length-append, sym, ap, subst, arith}
use Rattle.lf_base.specs.FileBytes.{written}
use Rattle.lf_disk.specs.declared.name.FileName.TheVariants.{Database}
use Rattle.lf_disk.specs.Change.{OnFile}
use Rattle.lf_disk.specs.Folder.{bytes_of}
use Rattle.lf_disk.specs.History.{now}
use Rattle.lf_disk.proofs.Stretches.{begins}
use Rattle.txn_log.specs.PageRun.{LeavesOut}
use Rattle.txn_log.specs.Pages.{Wears}
use Rattle.txn_log.proofs.PageRuns.{both_out, written_both}
use Rattle.txn_log.proofs.Wearing.{wears_path}
use Rattle.txn_log.proofs.rewriting.take_page.Goals as goal

pub returns-in-Ok-clause-moments : goal.returns-in-Ok-clause-moments
returns-in-Ok-clause-moments g c honest change one two = begins (g.D.Disk.history c.args.disk.now) (OnFile Database (Wears change)) (wears_path change)

pub returns-in-Ok-clause-seen : goal.returns-in-Ok-clause-seen
returns-in-Ok-clause-seen g c honest =
    let bytes : List ℕ = bytes_of (now (g.D.Disk.history c.args.disk.now) Database) in
    ap (λ (l : List ℕ). written c.args.run.now.at l bytes) c.in-Ok.ensures.items ∙ written_both c.args.run.now.at c.args.run.now.bytes.items c.args.page.now bytes c.requires.some

pub returns-in-Err-clause-moments : goal.returns-in-Err-clause-moments
returns-in-Err-clause-moments g c honest change one two =
    c.write_behind.ensures.moments honest change
    (subst (λ (l : List ℕ). LeavesOut change c.args.run.now.at (length l)) (sym c.in-Err.ensures.items) one)
    (subst (λ (l : List ℕ). LeavesOut change (c.args.run.now.at + length l) (length c.args.page.now)) (sym c.in-Err.ensures.items) two)

pub returns-in-Ok-clause-out : goal.returns-in-Ok-clause-out
returns-in-Ok-clause-out g c change sized one two =
    let old : List ℕ = c.args.run.now.bytes.items in
    let page : List ℕ = c.args.page.now in
    subst (λ (l : List ℕ). LeavesOut change c.args.run.now.at (length l)) (sym c.in-Ok.ensures.items)
    (subst (λ (n : ℕ). LeavesOut change c.args.run.now.at n) (sym (length-append old page)) (both_out change c.args.run.now.at (length old) (length page) sized one two))
