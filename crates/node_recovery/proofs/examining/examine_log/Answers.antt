use Rattle.std.proofs.Common.{◌≡◌, ◌∙◌, List, [], Option, sym, subst}
use Rattle.lf_disk.specs.Folder.{Folder}
use Rattle.lf_disk.specs.History.{now}
use Rattle.txn_log.specs.declared.entry.Entry.{Entry}
use Rattle.txn_log.specs.Store.{files_in, AreEntries}
use Rattle.node_recovery.specs.declared.file_summary.FileSummary.{FileSummary}
use Rattle.node_recovery.specs.Finding.{ExaminesLog}
use Rattle.node_recovery.specs.Outcome.{IsLastRead, TellsLast}
use Rattle.node_recovery.proofs.Judgings.{same_now}
use Rattle.node_recovery.proofs.examining.examine_log.Goals as goal

pub returns-in-Some-clause-examines : goal.returns-in-Some-clause-examines
returns-in-Some-clause-examines g c honest =
    let h = g.D.Disk.history c.args.disk.now in
    let one = g.D.Disk.history c.judge_log.new.disk in
    let names = c.args.names.items in
    let same = same_now h one c.judge_log.ensures.rests in
    let judges = c.in-Ok.ensures.judges honest in
    let are : AreEntries c.in-Ok.log.entries.items (files_in names (now h)) = subst (λ (ns : List Entry). AreEntries c.in-Ok.log.entries.items (files_in ns (now h))) c.as_slice.ensures.value judges.0 in
    let last : IsLastRead names (now h) c.in-Some.last = subst (λ (o : Option FileSummary). TellsLast names (now h) o) c.in-Some.is (subst (λ (ns : List Entry). TellsLast ns (now h) c.in-Ok.log.last) c.as_slice.ensures.value judges.1) in
    subst (λ (f : Folder). ExaminesLog names f c.examine_last.result) same
    (c.examine_last.ensures.examines (c.judge_log.ensures.honest ∙ honest)
    (subst (λ (f : Folder). AreEntries c.in-Ok.log.entries.items (files_in names f)) (sym same) are) (subst (λ (f : Folder). IsLastRead names f c.in-Some.last) (sym same) last))

pub returns-in-None-clause-examines : goal.returns-in-None-clause-examines
returns-in-None-clause-examines g c honest =
    let h = g.D.Disk.history c.args.disk.now in
    let one = g.D.Disk.history c.judge_log.new.disk in
    let names = c.args.names.items in
    let same = same_now h one c.judge_log.ensures.rests in
    let none : names ≡ [] = subst (λ (o : Option FileSummary). TellsLast names (now h) o) c.in-None.is (subst (λ (ns : List Entry). TellsLast ns (now h) c.in-Ok.log.last) c.as_slice.ensures.value (c.in-Ok.ensures.judges honest).1) in
    subst (λ (f : Folder). ExaminesLog names f c.examine_none.result) same
    (c.examine_none.ensures.examines (c.judge_log.ensures.honest ∙ honest) none)
