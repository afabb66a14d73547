use Rattle.std.proofs.Common.{◌∙◌, sym}
use Rattle.lf_disk.specs.declared.name.FileName.TheVariants.{Snapshot}
use Rattle.ltx_backup.specs.Levels.{Holds}
use Rattle.ltx_backup.proofs.Opens.{rested, opened_after, why_after, forward, blameless_closed, ok_follows, err_follows, listed_rests, is_none}
use Rattle.ltx_backup.proofs.Holding.{some_same}
use Rattle.ltx_backup.proofs.Stills.{rests_join, rests_now, settled_rests}
use Rattle.ltx_backup.proofs.Turns.{and_then}
use Rattle.ltx_backup.proofs.reopening.reopen.Goals as goal

pub returns-in-Err-clause-why : goal.returns-in-Err-clause-why
returns-in-Err-clause-why g c honest = blameless_closed _ _ _ c.in-Err.why c.in-Err.ensures.blameless

pub returns-in-Err-clause-stops : goal.returns-in-Err-clause-stops
returns-in-Err-clause-stops g c honest levels held =
    rested levels (g.D.Disk.history c.args.low.now) (g.D.Disk.history c.args.middle.now) (g.D.Disk.history c.args.high.now)
    (g.D.Disk.history c.list_all.new.low) (g.D.Disk.history c.list_all.new.middle) (g.D.Disk.history c.list_all.new.high)
    (c.requires.low_settled honest.0) (c.requires.middle_settled honest.1) (c.requires.high_settled honest.2)
    c.list_all.ensures.rests.0 c.list_all.ensures.rests.1 c.list_all.ensures.rests.2 held

pub returns-in-Err-is_there-clause-why : goal.returns-in-Err-is_there-clause-why
returns-in-Err-is_there-clause-why g c honest = blameless_closed _ _ _ c.in-Err-is_there.why c.in-Err-is_there.ensures.blameless

pub returns-in-Err-is_there-clause-stops : goal.returns-in-Err-is_there-clause-stops
returns-in-Err-is_there-clause-stops g c honest levels held =
    rested levels (g.D.Disk.history c.args.low.now) (g.D.Disk.history c.args.middle.now) (g.D.Disk.history c.args.high.now)
    (g.D.Disk.history c.is_there.new.disk) (g.D.Disk.history c.list_all.new.middle) (g.D.Disk.history c.list_all.new.high)
    (c.requires.low_settled honest.0) (c.requires.middle_settled honest.1) (c.requires.high_settled honest.2)
    (rests_join (g.D.Disk.history c.args.low.now) (g.D.Disk.history c.list_all.new.low) (g.D.Disk.history c.is_there.new.disk) c.list_all.ensures.rests.0 c.is_there.ensures.rests)
    c.list_all.ensures.rests.1 c.list_all.ensures.rests.2 held

pub reopen_snapshot-requires-clause-low_settled : goal.reopen_snapshot-requires-clause-low_settled
reopen_snapshot-requires-clause-low_settled g c honest =
    settled_rests (g.D.Disk.history c.args.low.now) (g.D.Disk.history c.is_there.new.disk) (c.requires.low_settled (sym c.list_all.ensures.honest.0 ∙ sym c.is_there.ensures.honest ∙ honest))
    (rests_join (g.D.Disk.history c.args.low.now) (g.D.Disk.history c.list_all.new.low) (g.D.Disk.history c.is_there.new.disk) c.list_all.ensures.rests.0 c.is_there.ensures.rests)

pub reopen_snapshot-requires-clause-middle_settled : goal.reopen_snapshot-requires-clause-middle_settled
reopen_snapshot-requires-clause-middle_settled g c honest =
    settled_rests (g.D.Disk.history c.args.middle.now) (g.D.Disk.history c.list_all.new.middle) (c.requires.middle_settled (sym c.list_all.ensures.honest.1 ∙ honest)) c.list_all.ensures.rests.1

pub reopen_snapshot-requires-clause-high_settled : goal.reopen_snapshot-requires-clause-high_settled
reopen_snapshot-requires-clause-high_settled g c honest =
    settled_rests (g.D.Disk.history c.args.high.now) (g.D.Disk.history c.list_all.new.high) (c.requires.high_settled (sym c.list_all.ensures.honest.2 ∙ honest)) c.list_all.ensures.rests.2

pub reopen_snapshot-requires-clause-listed : goal.reopen_snapshot-requires-clause-listed
reopen_snapshot-requires-clause-listed g c honest =
    listed_rests c.in-Ok.names (g.D.Disk.history c.args.low.now) (g.D.Disk.history c.args.middle.now) (g.D.Disk.history c.args.high.now)
    (g.D.Disk.history c.is_there.new.disk) (g.D.Disk.history c.list_all.new.middle) (g.D.Disk.history c.list_all.new.high)
    (rests_join (g.D.Disk.history c.args.low.now) (g.D.Disk.history c.list_all.new.low) (g.D.Disk.history c.is_there.new.disk) c.list_all.ensures.rests.0 c.is_there.ensures.rests)
    c.list_all.ensures.rests.1 c.list_all.ensures.rests.2
    (c.in-Ok.ensures.listed (sym c.list_all.ensures.honest.0 ∙ sym c.is_there.ensures.honest ∙ honest.0, sym c.list_all.ensures.honest.1 ∙ honest.1, sym c.list_all.ensures.honest.2 ∙ honest.2))

pub reopen_snapshot-requires-clause-snapshot : goal.reopen_snapshot-requires-clause-snapshot
reopen_snapshot-requires-clause-snapshot g c honest =
    let was = sym c.is_there.ensures.honest ∙ honest in
    some_same _ _ (sym (rests_now (g.D.Disk.history c.list_all.new.low) (g.D.Disk.history c.is_there.new.disk) c.is_there.ensures.rests Snapshot))
    (sym (c.in-Ok-is_there.ensures.there was) ∙ c.if-there.true)

pub reopen_files-requires-clause-low_settled : goal.reopen_files-requires-clause-low_settled
reopen_files-requires-clause-low_settled g c honest =
    settled_rests (g.D.Disk.history c.args.low.now) (g.D.Disk.history c.is_there.new.disk) (c.requires.low_settled (sym c.list_all.ensures.honest.0 ∙ sym c.is_there.ensures.honest ∙ honest))
    (rests_join (g.D.Disk.history c.args.low.now) (g.D.Disk.history c.list_all.new.low) (g.D.Disk.history c.is_there.new.disk) c.list_all.ensures.rests.0 c.is_there.ensures.rests)

pub reopen_files-requires-clause-middle_settled : goal.reopen_files-requires-clause-middle_settled
reopen_files-requires-clause-middle_settled g c honest =
    settled_rests (g.D.Disk.history c.args.middle.now) (g.D.Disk.history c.list_all.new.middle) (c.requires.middle_settled (sym c.list_all.ensures.honest.1 ∙ honest)) c.list_all.ensures.rests.1

pub reopen_files-requires-clause-high_settled : goal.reopen_files-requires-clause-high_settled
reopen_files-requires-clause-high_settled g c honest =
    settled_rests (g.D.Disk.history c.args.high.now) (g.D.Disk.history c.list_all.new.high) (c.requires.high_settled (sym c.list_all.ensures.honest.2 ∙ honest)) c.list_all.ensures.rests.2

pub reopen_files-requires-clause-listed : goal.reopen_files-requires-clause-listed
reopen_files-requires-clause-listed g c honest =
    listed_rests c.in-Ok.names (g.D.Disk.history c.args.low.now) (g.D.Disk.history c.args.middle.now) (g.D.Disk.history c.args.high.now)
    (g.D.Disk.history c.is_there.new.disk) (g.D.Disk.history c.list_all.new.middle) (g.D.Disk.history c.list_all.new.high)
    (rests_join (g.D.Disk.history c.args.low.now) (g.D.Disk.history c.list_all.new.low) (g.D.Disk.history c.is_there.new.disk) c.list_all.ensures.rests.0 c.is_there.ensures.rests)
    c.list_all.ensures.rests.1 c.list_all.ensures.rests.2
    (c.in-Ok.ensures.listed (sym c.list_all.ensures.honest.0 ∙ sym c.is_there.ensures.honest ∙ honest.0, sym c.list_all.ensures.honest.1 ∙ honest.1, sym c.list_all.ensures.honest.2 ∙ honest.2))

pub reopen_files-requires-clause-no_snapshot : goal.reopen_files-requires-clause-no_snapshot
reopen_files-requires-clause-no_snapshot g c honest =
    let was = sym c.is_there.ensures.honest ∙ honest in
    rests_now (g.D.Disk.history c.list_all.new.low) (g.D.Disk.history c.is_there.new.disk) c.is_there.ensures.rests Snapshot
    ∙ is_none _ (sym (c.in-Ok-is_there.ensures.there was) ∙ c.if-there.false)

pub returns-then-there-clause-opened : goal.returns-then-there-clause-opened
returns-then-there-clause-opened g c honest =
    let l = g.D.Disk.history c.args.low.now in
    let m = g.D.Disk.history c.args.middle.now in
    let h = g.D.Disk.history c.args.high.now in
    let l_mid = g.D.Disk.history c.is_there.new.disk in
    let m_mid = g.D.Disk.history c.list_all.new.middle in
    let h_mid = g.D.Disk.history c.list_all.new.high in
    let low = rests_join l (g.D.Disk.history c.list_all.new.low) l_mid c.list_all.ensures.rests.0 c.is_there.ensures.rests in
    let l_now = g.D.Disk.history c.reopen_snapshot.new.low in
    let m_now = g.D.Disk.history c.reopen_snapshot.new.middle in
    let h_now = g.D.Disk.history c.reopen_snapshot.new.high in
    ok_follows c.reopen_snapshot.result _ _ (λ opened. opened_after l m h l_mid m_mid h_mid low c.list_all.ensures.rests.1 c.list_all.ensures.rests.2 opened.index l_now m_now h_now)
    (c.reopen_snapshot.ensures.opened (c.is_there.ensures.honest ∙ c.list_all.ensures.honest.0 ∙ honest.0, c.list_all.ensures.honest.1 ∙ honest.1, c.list_all.ensures.honest.2 ∙ honest.2))

pub returns-then-there-clause-why : goal.returns-then-there-clause-why
returns-then-there-clause-why g c honest =
    let l = g.D.Disk.history c.args.low.now in
    let m = g.D.Disk.history c.args.middle.now in
    let h = g.D.Disk.history c.args.high.now in
    let l_mid = g.D.Disk.history c.is_there.new.disk in
    let m_mid = g.D.Disk.history c.list_all.new.middle in
    let h_mid = g.D.Disk.history c.list_all.new.high in
    let low = rests_join l (g.D.Disk.history c.list_all.new.low) l_mid c.list_all.ensures.rests.0 c.is_there.ensures.rests in
    let l_now = g.D.Disk.history c.reopen_snapshot.new.low in
    let m_now = g.D.Disk.history c.reopen_snapshot.new.middle in
    let h_now = g.D.Disk.history c.reopen_snapshot.new.high in
    err_follows c.reopen_snapshot.result _ _ (λ why. why_after l m h l_mid m_mid h_mid low c.list_all.ensures.rests.1 c.list_all.ensures.rests.2 why)
    (c.reopen_snapshot.ensures.why (c.is_there.ensures.honest ∙ c.list_all.ensures.honest.0 ∙ honest.0, c.list_all.ensures.honest.1 ∙ honest.1, c.list_all.ensures.honest.2 ∙ honest.2))

pub returns-then-there-clause-stops : goal.returns-then-there-clause-stops
returns-then-there-clause-stops g c honest levels held =
    let l = g.D.Disk.history c.args.low.now in
    let m = g.D.Disk.history c.args.middle.now in
    let h = g.D.Disk.history c.args.high.now in
    let l_mid = g.D.Disk.history c.is_there.new.disk in
    let m_mid = g.D.Disk.history c.list_all.new.middle in
    let h_mid = g.D.Disk.history c.list_all.new.high in
    let low = rests_join l (g.D.Disk.history c.list_all.new.low) l_mid c.list_all.ensures.rests.0 c.is_there.ensures.rests in
    let l_now = g.D.Disk.history c.reopen_snapshot.new.low in
    let m_now = g.D.Disk.history c.reopen_snapshot.new.middle in
    let h_now = g.D.Disk.history c.reopen_snapshot.new.high in
    and_then l m h l_mid m_mid h_mid l_now m_now h_now (Holds levels)
    (rested levels l m h l_mid m_mid h_mid (c.requires.low_settled honest.0) (c.requires.middle_settled honest.1) (c.requires.high_settled honest.2) low c.list_all.ensures.rests.1 c.list_all.ensures.rests.2 held)
    (c.reopen_snapshot.ensures.stops (c.is_there.ensures.honest ∙ c.list_all.ensures.honest.0 ∙ honest.0, c.list_all.ensures.honest.1 ∙ honest.1, c.list_all.ensures.honest.2 ∙ honest.2) levels (forward l m h l_mid m_mid h_mid low c.list_all.ensures.rests.1 c.list_all.ensures.rests.2 levels held))

pub returns-clause-opened : goal.returns-clause-opened
returns-clause-opened g c honest =
    let l = g.D.Disk.history c.args.low.now in
    let m = g.D.Disk.history c.args.middle.now in
    let h = g.D.Disk.history c.args.high.now in
    let l_mid = g.D.Disk.history c.is_there.new.disk in
    let m_mid = g.D.Disk.history c.list_all.new.middle in
    let h_mid = g.D.Disk.history c.list_all.new.high in
    let low = rests_join l (g.D.Disk.history c.list_all.new.low) l_mid c.list_all.ensures.rests.0 c.is_there.ensures.rests in
    let l_now = g.D.Disk.history c.reopen_files.new.low in
    let m_now = g.D.Disk.history c.reopen_files.new.middle in
    let h_now = g.D.Disk.history c.reopen_files.new.high in
    ok_follows c.reopen_files.result _ _ (λ opened. opened_after l m h l_mid m_mid h_mid low c.list_all.ensures.rests.1 c.list_all.ensures.rests.2 opened.index l_now m_now h_now)
    (c.reopen_files.ensures.opened (c.is_there.ensures.honest ∙ c.list_all.ensures.honest.0 ∙ honest.0, c.list_all.ensures.honest.1 ∙ honest.1, c.list_all.ensures.honest.2 ∙ honest.2))

pub returns-clause-why : goal.returns-clause-why
returns-clause-why g c honest =
    let l = g.D.Disk.history c.args.low.now in
    let m = g.D.Disk.history c.args.middle.now in
    let h = g.D.Disk.history c.args.high.now in
    let l_mid = g.D.Disk.history c.is_there.new.disk in
    let m_mid = g.D.Disk.history c.list_all.new.middle in
    let h_mid = g.D.Disk.history c.list_all.new.high in
    let low = rests_join l (g.D.Disk.history c.list_all.new.low) l_mid c.list_all.ensures.rests.0 c.is_there.ensures.rests in
    let l_now = g.D.Disk.history c.reopen_files.new.low in
    let m_now = g.D.Disk.history c.reopen_files.new.middle in
    let h_now = g.D.Disk.history c.reopen_files.new.high in
    err_follows c.reopen_files.result _ _ (λ why. why_after l m h l_mid m_mid h_mid low c.list_all.ensures.rests.1 c.list_all.ensures.rests.2 why)
    (c.reopen_files.ensures.why (c.is_there.ensures.honest ∙ c.list_all.ensures.honest.0 ∙ honest.0, c.list_all.ensures.honest.1 ∙ honest.1, c.list_all.ensures.honest.2 ∙ honest.2))

pub returns-clause-stops : goal.returns-clause-stops
returns-clause-stops g c honest levels held =
    let l = g.D.Disk.history c.args.low.now in
    let m = g.D.Disk.history c.args.middle.now in
    let h = g.D.Disk.history c.args.high.now in
    let l_mid = g.D.Disk.history c.is_there.new.disk in
    let m_mid = g.D.Disk.history c.list_all.new.middle in
    let h_mid = g.D.Disk.history c.list_all.new.high in
    let low = rests_join l (g.D.Disk.history c.list_all.new.low) l_mid c.list_all.ensures.rests.0 c.is_there.ensures.rests in
    let l_now = g.D.Disk.history c.reopen_files.new.low in
    let m_now = g.D.Disk.history c.reopen_files.new.middle in
    let h_now = g.D.Disk.history c.reopen_files.new.high in
    and_then l m h l_mid m_mid h_mid l_now m_now h_now (Holds levels)
    (rested levels l m h l_mid m_mid h_mid (c.requires.low_settled honest.0) (c.requires.middle_settled honest.1) (c.requires.high_settled honest.2) low c.list_all.ensures.rests.1 c.list_all.ensures.rests.2 held)
    (c.reopen_files.ensures.stops (c.is_there.ensures.honest ∙ c.list_all.ensures.honest.0 ∙ honest.0, c.list_all.ensures.honest.1 ∙ honest.1, c.list_all.ensures.honest.2 ∙ honest.2) levels (forward l m h l_mid m_mid h_mid low c.list_all.ensures.rests.1 c.list_all.ensures.rests.2 levels held))

pub returns-then-there-clause-makes : goal.returns-then-there-clause-makes
returns-then-there-clause-makes g c honest levels held =
    let l = g.D.Disk.history c.args.low.now in
    let m = g.D.Disk.history c.args.middle.now in
    let h = g.D.Disk.history c.args.high.now in
    let l_mid = g.D.Disk.history c.is_there.new.disk in
    let m_mid = g.D.Disk.history c.list_all.new.middle in
    let h_mid = g.D.Disk.history c.list_all.new.high in
    let low = rests_join l (g.D.Disk.history c.list_all.new.low) l_mid c.list_all.ensures.rests.0 c.is_there.ensures.rests in
    c.reopen_snapshot.ensures.makes (c.is_there.ensures.honest ∙ c.list_all.ensures.honest.0 ∙ honest.0, c.list_all.ensures.honest.1 ∙ honest.1, c.list_all.ensures.honest.2 ∙ honest.2) levels
    (forward l m h l_mid m_mid h_mid low c.list_all.ensures.rests.1 c.list_all.ensures.rests.2 levels held)

pub returns-clause-makes : goal.returns-clause-makes
returns-clause-makes g c honest levels held =
    let l = g.D.Disk.history c.args.low.now in
    let m = g.D.Disk.history c.args.middle.now in
    let h = g.D.Disk.history c.args.high.now in
    let l_mid = g.D.Disk.history c.is_there.new.disk in
    let m_mid = g.D.Disk.history c.list_all.new.middle in
    let h_mid = g.D.Disk.history c.list_all.new.high in
    let low = rests_join l (g.D.Disk.history c.list_all.new.low) l_mid c.list_all.ensures.rests.0 c.is_there.ensures.rests in
    c.reopen_files.ensures.makes (c.is_there.ensures.honest ∙ c.list_all.ensures.honest.0 ∙ honest.0, c.list_all.ensures.honest.1 ∙ honest.1, c.list_all.ensures.honest.2 ∙ honest.2) levels
    (forward l m h l_mid m_mid h_mid low c.list_all.ensures.rests.1 c.list_all.ensures.rests.2 levels held)
