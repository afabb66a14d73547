use Rattle.std.proofs.Common.{◌∙◌, sym}
use Rattle.lf_disk.specs.declared.name.FileName.TheVariants.{Snapshot}
use Rattle.lf_disk.specs.History.{now}
use Rattle.ltx_backup.proofs.Holding.{some_same}
use Rattle.ltx_backup.proofs.Makings.{snapshot_makes}
use Rattle.ltx_backup.proofs.Opens.{rested, blameless_closed}
use Rattle.ltx_backup.proofs.Snapshots.{waits_mid, named_mid, snapshot_stops, snapshot_opens, no_snapshot_closed}
use Rattle.ltx_backup.proofs.Stills.{settled_rests, rests_now, rests_stay}
use Rattle.ltx_backup.proofs.reopening.reopen_snapshot.Goals as goal

pub returns-in-Err-clause-why : goal.returns-in-Err-clause-why
returns-in-Err-clause-why g c honest =
    no_snapshot_closed (now (g.D.Disk.history c.args.low.now)) (now (g.D.Disk.history c.args.middle.now)) (now (g.D.Disk.history c.args.high.now))
    (c.requires.snapshot honest.0) c.in-Err.why (c.in-Err.ensures.none honest.0)

pub returns-in-Err-clause-stops : goal.returns-in-Err-clause-stops
returns-in-Err-clause-stops g c honest levels held =
    rested levels (g.D.Disk.history c.args.low.now) (g.D.Disk.history c.args.middle.now) (g.D.Disk.history c.args.high.now)
    (g.D.Disk.history c.judge_snapshot.new.low) (g.D.Disk.history c.args.middle.now) (g.D.Disk.history c.args.high.now)
    (c.requires.low_settled honest.0) (c.requires.middle_settled honest.1) (c.requires.high_settled honest.2)
    c.judge_snapshot.ensures.rests (rests_stay (g.D.Disk.history c.args.middle.now)) (rests_stay (g.D.Disk.history c.args.high.now)) held

pub returns-in-Err-index_of-clause-stops : goal.returns-in-Err-index_of-clause-stops
returns-in-Err-index_of-clause-stops g c honest levels held =
    rested levels (g.D.Disk.history c.args.low.now) (g.D.Disk.history c.args.middle.now) (g.D.Disk.history c.args.high.now)
    (g.D.Disk.history c.judge_snapshot.new.low) (g.D.Disk.history c.args.middle.now) (g.D.Disk.history c.args.high.now)
    (c.requires.low_settled honest.0) (c.requires.middle_settled honest.1) (c.requires.high_settled honest.2)
    c.judge_snapshot.ensures.rests (rests_stay (g.D.Disk.history c.args.middle.now)) (rests_stay (g.D.Disk.history c.args.high.now)) held

pub finish_snapshot-requires-clause-low_settled : goal.finish_snapshot-requires-clause-low_settled
finish_snapshot-requires-clause-low_settled g c honest =
    settled_rests (g.D.Disk.history c.args.low.now) (g.D.Disk.history c.judge_snapshot.new.low) (c.requires.low_settled (sym c.judge_snapshot.ensures.honest ∙ honest)) c.judge_snapshot.ensures.rests

pub finish_snapshot-requires-clause-there : goal.finish_snapshot-requires-clause-there
finish_snapshot-requires-clause-there g c honest =
    some_same _ _ (sym (rests_now (g.D.Disk.history c.args.low.now) (g.D.Disk.history c.judge_snapshot.new.low) c.judge_snapshot.ensures.rests Snapshot))
    (c.requires.snapshot (sym c.judge_snapshot.ensures.honest ∙ honest))

pub returns-in-Err-finish_snapshot-clause-why : goal.returns-in-Err-finish_snapshot-clause-why
returns-in-Err-finish_snapshot-clause-why g c honest = blameless_closed _ _ _ c.in-Err-finish_snapshot.why c.in-Err-finish_snapshot.ensures.blameless

pub returns-in-Err-finish_snapshot-clause-stops : goal.returns-in-Err-finish_snapshot-clause-stops
returns-in-Err-finish_snapshot-clause-stops g c honest levels held =
    let l = g.D.Disk.history c.args.low.now in
    let m = g.D.Disk.history c.args.middle.now in
    let h = g.D.Disk.history c.args.high.now in
    let l_mid = g.D.Disk.history c.judge_snapshot.new.low in
    let l_now = g.D.Disk.history c.finish_snapshot.new.low in
    let m_now = g.D.Disk.history c.finish_snapshot.new.middle in
    let h_now = g.D.Disk.history c.finish_snapshot.new.high in
    let entry = c.in-Ok.whole.judged.entry in
    let end = c.in-Ok.whole.judged.end in
    let names = c.args.names.now in
    let rests = c.judge_snapshot.ensures.rests in
    let some = c.requires.snapshot honest.0 in
    let finds = (c.in-Ok.ensures.finds honest.0).finds in
    snapshot_stops entry end names l m h l_mid l_now m_now h_now (c.requires.low_settled honest.0) (c.requires.middle_settled honest.1) (c.requires.high_settled honest.2) rests some finds levels held
    (c.finish_snapshot.ensures.stops (c.judge_snapshot.ensures.honest ∙ honest.0, honest.1, honest.2)
    (named_mid entry end names l m h l_mid l_now m_now h_now (c.requires.low_settled honest.0) (c.requires.middle_settled honest.1) (c.requires.high_settled honest.2) rests some finds (c.requires.listed honest))
    finds.file
    (waits_mid entry end names l m h l_mid l_now m_now h_now (c.requires.low_settled honest.0) (c.requires.middle_settled honest.1) (c.requires.high_settled honest.2) rests some finds))

pub returns-in-Ok-finish_snapshot-clause-stops : goal.returns-in-Ok-finish_snapshot-clause-stops
returns-in-Ok-finish_snapshot-clause-stops g c honest levels held =
    let l = g.D.Disk.history c.args.low.now in
    let m = g.D.Disk.history c.args.middle.now in
    let h = g.D.Disk.history c.args.high.now in
    let l_mid = g.D.Disk.history c.judge_snapshot.new.low in
    let l_now = g.D.Disk.history c.finish_snapshot.new.low in
    let m_now = g.D.Disk.history c.finish_snapshot.new.middle in
    let h_now = g.D.Disk.history c.finish_snapshot.new.high in
    let entry = c.in-Ok.whole.judged.entry in
    let end = c.in-Ok.whole.judged.end in
    let names = c.args.names.now in
    let rests = c.judge_snapshot.ensures.rests in
    let some = c.requires.snapshot honest.0 in
    let finds = (c.in-Ok.ensures.finds honest.0).finds in
    snapshot_stops entry end names l m h l_mid l_now m_now h_now (c.requires.low_settled honest.0) (c.requires.middle_settled honest.1) (c.requires.high_settled honest.2) rests some finds levels held
    (c.finish_snapshot.ensures.stops (c.judge_snapshot.ensures.honest ∙ honest.0, honest.1, honest.2)
    (named_mid entry end names l m h l_mid l_now m_now h_now (c.requires.low_settled honest.0) (c.requires.middle_settled honest.1) (c.requires.high_settled honest.2) rests some finds (c.requires.listed honest))
    finds.file
    (waits_mid entry end names l m h l_mid l_now m_now h_now (c.requires.low_settled honest.0) (c.requires.middle_settled honest.1) (c.requires.high_settled honest.2) rests some finds))

pub returns-in-Ok-finish_snapshot-clause-opened : goal.returns-in-Ok-finish_snapshot-clause-opened
returns-in-Ok-finish_snapshot-clause-opened g c honest =
    let l = g.D.Disk.history c.args.low.now in
    let m = g.D.Disk.history c.args.middle.now in
    let h = g.D.Disk.history c.args.high.now in
    let l_mid = g.D.Disk.history c.judge_snapshot.new.low in
    let l_now = g.D.Disk.history c.finish_snapshot.new.low in
    let m_now = g.D.Disk.history c.finish_snapshot.new.middle in
    let h_now = g.D.Disk.history c.finish_snapshot.new.high in
    let entry = c.in-Ok.whole.judged.entry in
    let end = c.in-Ok.whole.judged.end in
    let names = c.args.names.now in
    let rests = c.judge_snapshot.ensures.rests in
    let some = c.requires.snapshot honest.0 in
    let finds = (c.in-Ok.ensures.finds honest.0).finds in
    snapshot_opens entry end names l m h l_mid l_now m_now h_now (c.requires.low_settled honest.0) (c.requires.middle_settled honest.1) (c.requires.high_settled honest.2) rests some finds c.in-Ok-index_of.index
    (c.in-Ok-finish_snapshot.ensures.alone (c.judge_snapshot.ensures.honest ∙ honest.0, honest.1, honest.2)
    (named_mid entry end names l m h l_mid l_now m_now h_now (c.requires.low_settled honest.0) (c.requires.middle_settled honest.1) (c.requires.high_settled honest.2) rests some finds (c.requires.listed honest))
    finds.file
    (waits_mid entry end names l m h l_mid l_now m_now h_now (c.requires.low_settled honest.0) (c.requires.middle_settled honest.1) (c.requires.high_settled honest.2) rests some finds))
    c.in-Ok-index_of.ensures.lows c.in-Ok-index_of.ensures.others c.in-Ok-index_of.ensures.end

pub returns-in-Ok-finish_snapshot-clause-makes : goal.returns-in-Ok-finish_snapshot-clause-makes
returns-in-Ok-finish_snapshot-clause-makes g c honest =
    snapshot_makes c.in-Ok.whole.judged.entry c.in-Ok.whole.judged.end (now (g.D.Disk.history c.args.low.now)) (now (g.D.Disk.history c.args.middle.now)) (now (g.D.Disk.history c.args.high.now))
    c.args.target c.in-Ok.whole.target (c.requires.snapshot honest.0) (c.in-Ok.ensures.finds honest.0)
