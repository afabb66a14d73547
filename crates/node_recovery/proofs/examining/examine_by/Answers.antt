use Rattle.std.proofs.Common.{◌≡◌, ◌∙◌, None, sym, ap, subst}
use Rattle.std.specs.Prelude.{is_some}
use Rattle.lf_disk.specs.Folder.{Folder, bytes_of}
use Rattle.lf_disk.specs.History.{now, Rests}
use Rattle.lf_disk.specs.declared.name.FileName.TheVariants.{Database, Snapshot, Dropped}
use Rattle.node_recovery.specs.Finding.{JudgesSnapshot, ExaminesLog}
use Rattle.node_recovery.proofs.Examinations.{none_there, examined, found_decides}
use Rattle.node_recovery.proofs.Judgings.{rests_both, same_now}
use Rattle.node_recovery.proofs.examining.examine_by.Goals as goal

pub returns-in-Ok-judge_snapshot-clause-examines : goal.returns-in-Ok-judge_snapshot-clause-examines
returns-in-Ok-judge_snapshot-clause-examines g c honest =
    let h = g.D.Disk.history c.args.disk.now in
    let one = g.D.Disk.history c.list_log.new.disk in
    let two = g.D.Disk.history c.is_there.new.disk in
    let still = c.list_log.ensures.honest ∙ honest in
    let yet = c.is_there.ensures.honest ∙ still in
    let first : Rests h one = c.list_log.ensures.rests in
    let second : Rests h two = rests_both h one two first c.is_there.ensures.rests in
    let there : is_some (now h Snapshot) ≡ Rattle.std.specs.Prelude.true = ap (λ (f : Folder). is_some (f Snapshot)) (sym (same_now h one first)) ∙ sym (c.in-Ok-is_there.ensures.there still) ∙ c.if-snapshot.true in
    let read = c.in-Ok-judge_snapshot.read in
    let judges = subst (λ (f : Folder). JudgesSnapshot (bytes_of (f Snapshot)) (bytes_of (f Database)) (Rattle.std.specs.Prelude.Ok read)) (same_now h two second) (c.in-Ok-judge_snapshot.ensures.judges yet) in
    found_decides c.in-Ok.names.items (now h) (c.in-Ok.ensures.listed honest) there read judges c.found_snapshot.result c.found_snapshot.ensures.found c.found_snapshot.ensures.full

pub returns-clause-examines : goal.returns-clause-examines
returns-clause-examines g c honest =
    let h = g.D.Disk.history c.args.disk.now in
    let one = g.D.Disk.history c.list_log.new.disk in
    let two = g.D.Disk.history c.is_there.new.disk in
    let three = g.D.Disk.history c.is_there-2.new.disk in
    let still = c.list_log.ensures.honest ∙ honest in
    let yet = c.is_there.ensures.honest ∙ still in
    let more = c.is_there-2.ensures.honest ∙ yet in
    let first : Rests h one = c.list_log.ensures.rests in
    let second : Rests h two = rests_both h one two first c.is_there.ensures.rests in
    let third : Rests h three = rests_both h two three second c.is_there-2.ensures.rests in
    let no_snapshot : now h Snapshot ≡ None =
    none_there (now h Snapshot) (ap (λ (f : Folder). is_some (f Snapshot)) (sym (same_now h one first)) ∙ sym (c.in-Ok-is_there.ensures.there still) ∙ c.if-snapshot.false) in
    let no_mark : now h Dropped ≡ None =
    none_there (now h Dropped) (ap (λ (f : Folder). is_some (f Dropped)) (sym (same_now h two second)) ∙ sym (c.in-Ok-is_there-2.ensures.there yet) ∙ c.if-dropped.false) in
    examined c.in-Ok.names.items (now h) (c.in-Ok.ensures.listed honest) no_snapshot no_mark c.examine_log.result
    (subst (λ (f : Folder). ExaminesLog c.in-Ok.names.items f c.examine_log.result) (same_now h three third) (c.examine_log.ensures.examines more))
