use Rattle.std.proofs.Common.{◌≡◌, ◌∙◌, sym, subst, ap}
use Rattle.lf_disk.specs.declared.name.FileName.{FileName}
use Rattle.lf_disk.specs.declared.name.FileName.TheVariants.{Snapshot, Ltx as LtxName}
use Rattle.lf_disk.specs.Change.{Perhaps, Renames}
use Rattle.lf_disk.specs.History.{Moves, now}
use Rattle.ltx_backup.specs.declared.entry.Entry.{Entry}
use Rattle.ltx_backup.proofs.Holding.{some_same}
use Rattle.ltx_backup.proofs.Finishes.{tidied_stops, finished_stops, is_alone, no_lows, renames, has_renamed, renamed_settled}
use Rattle.ltx_backup.proofs.finishing.finish_snapshot.Goals as goal

pub rename-requires : goal.rename-requires
rename-requires g c honest =
    let was = sym c.tidy_all.ensures.honest.0 ∙ honest in
    some_same _ _ (sym (c.in-Ok.ensures.low_done was).trimmed.snapshot) (c.requires.there was)

pub returns-in-Err-clause-stops : goal.returns-in-Err-clause-stops
returns-in-Err-clause-stops g c honest named file waits =
    tidied_stops file c.args.entry.now c.args.names.now (g.D.Disk.history c.args.low.now) (g.D.Disk.history c.args.middle.now) (g.D.Disk.history c.args.high.now)
    (g.D.Disk.history c.tidy_all.new.low) (g.D.Disk.history c.tidy_all.new.middle) (g.D.Disk.history c.tidy_all.new.high) waits
    (c.tidy_all.ensures.lows honest.0) (c.tidy_all.ensures.middles honest.1) (c.tidy_all.ensures.highs honest.2)

pub returns-in-Err-rename-clause-stops : goal.returns-in-Err-rename-clause-stops
returns-in-Err-rename-clause-stops g c honest named file waits =
    let l = g.D.Disk.history c.args.low.now in
    let m = g.D.Disk.history c.args.middle.now in
    let h = g.D.Disk.history c.args.high.now in
    let l_mid = g.D.Disk.history c.tidy_all.new.low in
    let m_mid = g.D.Disk.history c.tidy_all.new.middle in
    let h_mid = g.D.Disk.history c.tidy_all.new.high in
    let l_now = g.D.Disk.history c.rename.new.self in
    let entry = c.args.entry.now in
    let names = c.args.names.now in
    let low = c.in-Ok.ensures.low_done honest.0 in
    let middle = c.in-Ok.ensures.middle_done honest.1 in
    let high = c.in-Ok.ensures.high_done honest.2 in
    let name : c.name.result ≡ LtxName file.header.min file.header.max = c.name.ensures ∙ ap (λ (e : Entry). LtxName e.min e.max) waits.entry_is in
    let moves : Moves (Perhaps (Renames Snapshot (LtxName file.header.min file.header.max))) (Perhaps (Renames Snapshot (LtxName file.header.min file.header.max))) l_mid l_now =
    subst (λ (n : FileName). Moves (Perhaps (Renames Snapshot n)) (Perhaps (Renames Snapshot n)) l_mid l_now) name (c.in-Err-rename.ensures.failed (c.tidy_all.ensures.honest.0 ∙ honest.0)) in
    finished_stops file entry names l m h l_mid m_mid h_mid waits named low middle high l_now
    (c.tidy_all.ensures.lows honest.0) (c.tidy_all.ensures.middles honest.1) (c.tidy_all.ensures.highs honest.2)
    (renames file entry (now l) names.lows.items l_mid waits low (no_lows file entry names l m h l_mid m_mid h_mid waits named low middle high) _ l_now
    (Perhaps (Renames Snapshot (LtxName file.header.min file.header.max))) c.rename.ensures.ticks moves)

pub returns-in-Ok-rename-clause-stops : goal.returns-in-Ok-rename-clause-stops
returns-in-Ok-rename-clause-stops g c honest named file waits =
    let l = g.D.Disk.history c.args.low.now in
    let m = g.D.Disk.history c.args.middle.now in
    let h = g.D.Disk.history c.args.high.now in
    let l_mid = g.D.Disk.history c.tidy_all.new.low in
    let m_mid = g.D.Disk.history c.tidy_all.new.middle in
    let h_mid = g.D.Disk.history c.tidy_all.new.high in
    let l_now = g.D.Disk.history c.rename.new.self in
    let entry = c.args.entry.now in
    let names = c.args.names.now in
    let low = c.in-Ok.ensures.low_done honest.0 in
    let middle = c.in-Ok.ensures.middle_done honest.1 in
    let high = c.in-Ok.ensures.high_done honest.2 in
    let name : c.name.result ≡ LtxName file.header.min file.header.max = c.name.ensures ∙ ap (λ (e : Entry). LtxName e.min e.max) waits.entry_is in
    let moves : Moves (Renames Snapshot (LtxName file.header.min file.header.max)) (Renames Snapshot (LtxName file.header.min file.header.max)) l_mid l_now =
    subst (λ (n : FileName). Moves (Renames Snapshot n) (Renames Snapshot n) l_mid l_now) name (c.in-Ok-rename.ensures.done (c.tidy_all.ensures.honest.0 ∙ honest.0)) in
    finished_stops file entry names l m h l_mid m_mid h_mid waits named low middle high l_now
    (c.tidy_all.ensures.lows honest.0) (c.tidy_all.ensures.middles honest.1) (c.tidy_all.ensures.highs honest.2)
    (has_renamed file entry (now l) names.lows.items l_mid waits low (no_lows file entry names l m h l_mid m_mid h_mid waits named low middle high) _ l_now c.rename.ensures.ticks moves)

pub returns-in-Ok-rename-clause-alone : goal.returns-in-Ok-rename-clause-alone
returns-in-Ok-rename-clause-alone g c honest named file waits =
    let l_mid = g.D.Disk.history c.tidy_all.new.low in
    let l_now = g.D.Disk.history c.rename.new.self in
    let name : c.name.result ≡ LtxName file.header.min file.header.max = c.name.ensures ∙ ap (λ (e : Entry). LtxName e.min e.max) waits.entry_is in
    let moves : Moves (Renames Snapshot (LtxName file.header.min file.header.max)) (Renames Snapshot (LtxName file.header.min file.header.max)) l_mid l_now =
    subst (λ (n : FileName). Moves (Renames Snapshot n) (Renames Snapshot n) l_mid l_now) name (c.in-Ok-rename.ensures.done (c.tidy_all.ensures.honest.0 ∙ honest.0)) in
    is_alone file c.args.entry.now c.args.names.now (g.D.Disk.history c.args.low.now) (g.D.Disk.history c.args.middle.now) (g.D.Disk.history c.args.high.now)
    l_mid (g.D.Disk.history c.tidy_all.new.middle) (g.D.Disk.history c.tidy_all.new.high) waits named
    (c.in-Ok.ensures.low_done honest.0) (c.in-Ok.ensures.middle_done honest.1) (c.in-Ok.ensures.high_done honest.2) l_now moves

pub returns-in-Ok-rename-clause-settled : goal.returns-in-Ok-rename-clause-settled
returns-in-Ok-rename-clause-settled g c = (
  λ honest. renamed_settled c.name.result (g.D.Disk.history c.tidy_all.new.low) (g.D.Disk.history c.rename.new.self) (c.in-Ok.ensures.low_done honest).settled
      (c.in-Ok-rename.ensures.done (c.tidy_all.ensures.honest.0 ∙ honest)),
  λ honest. (c.in-Ok.ensures.middle_done honest).settled,
  λ honest. (c.in-Ok.ensures.high_done honest).settled,
)
