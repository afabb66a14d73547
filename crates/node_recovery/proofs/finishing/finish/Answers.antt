use Rattle.std.proofs.Common.{List, refl, sym, subst}
use Rattle.lf_disk.specs.Folder.{bytes_of}
use Rattle.lf_disk.specs.History.{now}
use Rattle.lf_disk.specs.declared.name.FileName.TheVariants.{Database, Snapshot}
use Rattle.lf_disk.proofs.Moments.{weakened}
use Rattle.txn_log.specs.declared.entry.Entry.{Entry}
use Rattle.txn_log.specs.Durable.{Durable}
use Rattle.node_recovery.specs.declared.found.Decider.{Decider}
use Rattle.node_recovery.specs.Finding.{FindsBy, FindsSnapshot, FindsMark, FindsLog, FindsNothing}
use Rattle.node_recovery.specs.Finishing.{IsFinished}
use Rattle.node_recovery.specs.Listing.{AreListed}
use Rattle.lf_disk.specs.declared.name.FileName.{FileName}
use Rattle.txn_log.specs.Kept.{file_of, encoded_change}
use Rattle.node_recovery.specs.Outline.{encoding_under}
use Rattle.node_recovery.specs.Rewriting.{HoldsFile}
use Rattle.node_recovery.specs.Summing.{restored_image}
use Rattle.node_recovery.proofs.Finishings.{snapshot_held, last_held, unsettled_store, installed_store, unsettled_left, is_by_mark, worn_store, rest_written, rest_nothing, on_ok, any_ok, not_marked}
use Rattle.node_recovery.proofs.Listed.{no_others_listed}
use Rattle.node_recovery.proofs.Judgings.{rests_none}
use Rattle.node_recovery.proofs.Reopenings.{only_read}
use Rattle.node_recovery.proofs.finishing.finish.Goals as goal

pub returns-in-Snapshot-clause-moments : goal.returns-in-Snapshot-clause-moments
returns-in-Snapshot-clause-moments g c honest store durable =
    let h = g.D.Disk.history c.args.disk.now in
    let found = c.args.found.now in
    let outline = c.in-Snapshot.outline in
    let finds = c.requires.finds honest in
    let by : FindsSnapshot (now h) outline found.entries.items found.tally = subst (λ (d : Decider). FindsBy (now h) d found.names.items found.entries.items found.tally) c.in-Snapshot.is finds.by in
    let listed : AreListed c.as_slice.result.now (now h) = subst (λ (ns : List Entry). AreListed ns (now h)) (sym c.as_slice.ensures.value) finds.names in
    weakened h (g.D.Disk.history c.settle_from.new.disk) _ (λ f. Durable f store)
    (c.settle_from.ensures.moments honest _ (snapshot_held c.as_slice.result.now (now h) outline found.entries.items found.tally listed by) store.image (bytes_of (now h Snapshot)) (unsettled_store c.as_slice.result.now (now h) outline found.entries.items found.tally listed by store durable))
    (installed_store c.as_slice.result.now (now h) outline found.entries.items found.tally listed by store durable)

pub returns-in-Snapshot-clause-done : goal.returns-in-Snapshot-clause-done
returns-in-Snapshot-clause-done g c honest =
    let h = g.D.Disk.history c.args.disk.now in
    let new = g.D.Disk.history c.settle_from.new.disk in
    let found = c.args.found.now in
    let outline = c.in-Snapshot.outline in
    let finds = c.requires.finds honest in
    let by : FindsSnapshot (now h) outline found.entries.items found.tally = subst (λ (d : Decider). FindsBy (now h) d found.names.items found.entries.items found.tally) c.in-Snapshot.is finds.by in
    let listed : AreListed c.as_slice.result.now (now h) = subst (λ (ns : List Entry). AreListed ns (now h)) (sym c.as_slice.ensures.value) finds.names in
    on_ok c.settle_from.result
    (λ all. subst (λ (d : Decider). IsFinished (now h) d found.names.items new) (sym c.in-Snapshot.is)
    (all _ (snapshot_held c.as_slice.result.now (now h) outline found.entries.items found.tally listed by) (restored_image (encoded_change (bytes_of (now h Snapshot))) (bytes_of (now h Database))) (bytes_of (now h Snapshot)) (unsettled_left c.as_slice.result.now (now h) outline found.entries.items found.tally listed by)))
    (c.settle_from.ensures.done honest)

pub returns-in-Mark-clause-done : goal.returns-in-Mark-clause-done
returns-in-Mark-clause-done g c honest =
    let h = g.D.Disk.history c.args.disk.now in
    let new = g.D.Disk.history c.empty.new.disk in
    let found = c.args.found.now in
    let finds = c.requires.finds honest in
    let by : FindsMark (now h) found.entries.items found.tally = subst (λ (d : Decider). FindsBy (now h) d found.names.items found.entries.items found.tally) c.in-Mark.is finds.by in
    let listed : AreListed c.as_slice-in-Mark.result.now (now h) = subst (λ (ns : List Entry). AreListed ns (now h)) (sym c.as_slice-in-Mark.ensures.value) finds.names in
    on_ok c.empty.result
    (λ all. subst (λ (d : Decider). IsFinished (now h) d found.names.items new) (sym c.in-Mark.is)
    (all (is_by_mark (now h) found.entries.items found.tally by) (no_others_listed c.as_slice-in-Mark.result.now (now h) listed)))
    (c.empty.ensures.done honest)

pub returns-in-Last-clause-moments : goal.returns-in-Last-clause-moments
returns-in-Last-clause-moments g c honest store durable =
    let h = g.D.Disk.history c.args.disk.now in
    let found = c.args.found.now in
    let outline = c.in-Last.outline in
    let finds = c.requires.finds honest in
    let by : FindsLog (now h) outline found.names.items found.entries.items found.tally = subst (λ (d : Decider). FindsBy (now h) d found.names.items found.entries.items found.tally) c.in-Last.is finds.by in
    weakened h (g.D.Disk.history c.rewrite_from.new.disk) _ (λ f. Durable f store)
    (c.rewrite_from.ensures.moments honest _ (subst (λ (n : FileName). HoldsFile n outline.header (file_of (encoding_under outline (now h))) (now h)) (sym c.name.ensures) (last_held found.names.items (now h) outline found.entries.items found.tally finds.names by)))
    (worn_store found.names.items (now h) outline found.entries.items found.tally finds.names by store durable)

pub returns-in-Last-clause-done : goal.returns-in-Last-clause-done
returns-in-Last-clause-done g c honest =
    let h = g.D.Disk.history c.args.disk.now in
    let new = g.D.Disk.history c.rewrite_from.new.disk in
    let found = c.args.found.now in
    let outline = c.in-Last.outline in
    let finds = c.requires.finds honest in
    let by : FindsLog (now h) outline found.names.items found.entries.items found.tally = subst (λ (d : Decider). FindsBy (now h) d found.names.items found.entries.items found.tally) c.in-Last.is finds.by in
    on_ok c.rewrite_from.result
    (λ done. subst (λ (d : Decider). IsFinished (now h) d found.names.items new) (sym c.in-Last.is)
    (rest_written found.names.items (now h) outline found.entries.items found.tally finds.names by new
    (done _ (subst (λ (n : FileName). HoldsFile n outline.header (file_of (encoding_under outline (now h))) (now h)) (sym c.name.ensures) (last_held found.names.items (now h) outline found.entries.items found.tally finds.names by)))))
    (c.rewrite_from.ensures.done honest)

pub returns-in-Nothing-clause-moments : goal.returns-in-Nothing-clause-moments
returns-in-Nothing-clause-moments g c honest store durable =
    let h = g.D.Disk.history c.args.disk.now in
    only_read store h h (c.requires.settled honest) (rests_none h) durable

pub returns-in-Nothing-clause-done : goal.returns-in-Nothing-clause-done
returns-in-Nothing-clause-done g c honest =
    let h = g.D.Disk.history c.args.disk.now in
    let found = c.args.found.now in
    let finds = c.requires.finds honest in
    let by : FindsNothing (now h) found.names.items found.entries.items found.tally =
    subst (λ (d : Decider). FindsBy (now h) d found.names.items found.entries.items found.tally) c.in-Nothing.is finds.by in
    subst (λ (d : Decider). IsFinished (now h) d found.names.items h) (sym c.in-Nothing.is)
    (rest_nothing found.names.items (now h) found.entries.items found.tally finds.names by h refl (c.requires.settled honest))

pub returns-in-Snapshot-clause-mark : goal.returns-in-Snapshot-clause-mark
returns-in-Snapshot-clause-mark g c honest = any_ok c.settle_from.result (not_marked _ _ c.in-Snapshot.is refl)

pub returns-in-Mark-clause-mark : goal.returns-in-Mark-clause-mark
returns-in-Mark-clause-mark g c honest = on_ok c.empty.result (λ same marked. same) (c.empty.ensures.mark honest)

pub returns-in-Last-clause-mark : goal.returns-in-Last-clause-mark
returns-in-Last-clause-mark g c honest = any_ok c.rewrite_from.result (not_marked _ _ c.in-Last.is refl)

pub returns-in-Nothing-clause-mark : goal.returns-in-Nothing-clause-mark
returns-in-Nothing-clause-mark g c honest = not_marked _ _ c.in-Nothing.is refl
