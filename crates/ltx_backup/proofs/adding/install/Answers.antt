use Rattle.std.proofs.Common.{◌≡◌, ◌∙◌, List, ℕ, refl, sym, subst}
use Rattle.lf_disk.specs.declared.name.FileName.TheVariants.{Snapshot}
use Rattle.lf_disk.specs.History.{now, EachMoment}
use Rattle.lf_disk.specs.Publish.{IsOldOrPublished, IsPublished}
use Rattle.ltx_backup.specs.Levels.{only_low}
use Rattle.ltx_backup.specs.Stored.{stored}
use Rattle.ltx_backup.proofs.Adds.{standing_stops, published_stops, installed_stops, waits_now, named_now}
use Rattle.ltx_backup.proofs.Holding.{some_same}
use Rattle.ltx_backup.proofs.Finishes.{from_nowhere}
use Rattle.ltx_backup.proofs.Snapshots.{alone_kept}
use Rattle.ltx_backup.proofs.adding.install.Goals as goal

pub returns-in-Err-clause-stops : goal.returns-in-Err-clause-stops
returns-in-Err-clause-stops g c honest levels kept =
    standing_stops levels c.args.index.now (g.D.Disk.history c.args.low.now) (g.D.Disk.history c.args.middle.now) (g.D.Disk.history c.args.high.now) kept (only_low c.args.file.now)

pub returns-in-Err-index_of-clause-stops : goal.returns-in-Err-index_of-clause-stops
returns-in-Err-index_of-clause-stops g c honest levels kept =
    standing_stops levels c.args.index.now (g.D.Disk.history c.args.low.now) (g.D.Disk.history c.args.middle.now) (g.D.Disk.history c.args.high.now) kept (only_low c.args.file.now)

pub returns-in-Err-publish-clause-stops : goal.returns-in-Err-publish-clause-stops
returns-in-Err-publish-clause-stops g c honest levels kept =
    let l = g.D.Disk.history c.args.low.now in
    let l_mid = g.D.Disk.history c.publish.new.disk in
    let bytes : c.as_slice.result.now ≡ stored c.args.file.now = c.as_slice.ensures.value ∙ c.in-Ok.ensures.bytes in
    let runs = subst (λ (b : List ℕ). EachMoment l l_mid (IsOldOrPublished (now l) Snapshot b)) bytes (c.publish.ensures.moments honest.0) in
    published_stops levels c.args.index.now l (g.D.Disk.history c.args.middle.now) (g.D.Disk.history c.args.high.now) kept c.args.file.now c.of.result c.encoded.ensures.reads_back c.requires.first c.of.ensures l_mid runs

pub finish_snapshot-requires-clause-low_settled : goal.finish_snapshot-requires-clause-low_settled
finish_snapshot-requires-clause-low_settled g c honest = (c.in-Ok-publish.ensures.published (sym c.publish.ensures.honest ∙ honest)).settled

pub finish_snapshot-requires-clause-there : goal.finish_snapshot-requires-clause-there
finish_snapshot-requires-clause-there g c honest = let there = (c.in-Ok-publish.ensures.published (sym c.publish.ensures.honest ∙ honest)).seen Snapshot refl in some_same _ _ (sym there) refl

pub returns-clause-stops : goal.returns-clause-stops
returns-clause-stops g c honest levels kept =
    let l = g.D.Disk.history c.args.low.now in
    let m = g.D.Disk.history c.args.middle.now in
    let h = g.D.Disk.history c.args.high.now in
    let l_mid = g.D.Disk.history c.publish.new.disk in
    let bytes : c.as_slice.result.now ≡ stored c.args.file.now = c.as_slice.ensures.value ∙ c.in-Ok.ensures.bytes in
    let runs = subst (λ (b : List ℕ). EachMoment l l_mid (IsOldOrPublished (now l) Snapshot b)) bytes (c.publish.ensures.moments honest.0) in
    let there = subst (λ (b : List ℕ). IsPublished (now l) Snapshot b l_mid) bytes (c.in-Ok-publish.ensures.published honest.0) in
    installed_stops levels c.args.index.now l m h kept c.args.file.now c.of.result c.encoded.ensures.reads_back c.requires.first c.of.ensures l_mid
    (g.D.Disk.history c.finish_snapshot.new.low) (g.D.Disk.history c.finish_snapshot.new.middle) (g.D.Disk.history c.finish_snapshot.new.high) runs
    (c.finish_snapshot.ensures.stops (c.publish.ensures.honest ∙ honest.0, honest.1, honest.2)
    (named_now levels c.args.index.now l m h kept c.args.file.now c.of.result c.encoded.ensures.reads_back c.requires.first c.of.ensures l_mid there) c.args.file.now
    (waits_now levels c.args.index.now l m h kept c.args.file.now c.of.result c.encoded.ensures.reads_back c.requires.first c.of.ensures l_mid there))

pub returns-in-Ok-finish_snapshot-clause-stops : goal.returns-in-Ok-finish_snapshot-clause-stops
returns-in-Ok-finish_snapshot-clause-stops g c honest levels kept =
    let l = g.D.Disk.history c.args.low.now in
    let m = g.D.Disk.history c.args.middle.now in
    let h = g.D.Disk.history c.args.high.now in
    let l_mid = g.D.Disk.history c.publish.new.disk in
    let bytes : c.as_slice.result.now ≡ stored c.args.file.now = c.as_slice.ensures.value ∙ c.in-Ok.ensures.bytes in
    let runs = subst (λ (b : List ℕ). EachMoment l l_mid (IsOldOrPublished (now l) Snapshot b)) bytes (c.publish.ensures.moments honest.0) in
    let there = subst (λ (b : List ℕ). IsPublished (now l) Snapshot b l_mid) bytes (c.in-Ok-publish.ensures.published honest.0) in
    installed_stops levels c.args.index.now l m h kept c.args.file.now c.of.result c.encoded.ensures.reads_back c.requires.first c.of.ensures l_mid
    (g.D.Disk.history c.finish_snapshot.new.low) (g.D.Disk.history c.finish_snapshot.new.middle) (g.D.Disk.history c.finish_snapshot.new.high) runs
    (c.finish_snapshot.ensures.stops (c.publish.ensures.honest ∙ honest.0, honest.1, honest.2)
    (named_now levels c.args.index.now l m h kept c.args.file.now c.of.result c.encoded.ensures.reads_back c.requires.first c.of.ensures l_mid there) c.args.file.now
    (waits_now levels c.args.index.now l m h kept c.args.file.now c.of.result c.encoded.ensures.reads_back c.requires.first c.of.ensures l_mid there))

pub returns-in-Ok-finish_snapshot-clause-installed : goal.returns-in-Ok-finish_snapshot-clause-installed
returns-in-Ok-finish_snapshot-clause-installed g c honest levels kept =
    let l = g.D.Disk.history c.args.low.now in
    let m = g.D.Disk.history c.args.middle.now in
    let h = g.D.Disk.history c.args.high.now in
    let l_mid = g.D.Disk.history c.publish.new.disk in
    let bytes : c.as_slice.result.now ≡ stored c.args.file.now = c.as_slice.ensures.value ∙ c.in-Ok.ensures.bytes in
    let there = subst (λ (b : List ℕ). IsPublished (now l) Snapshot b l_mid) bytes (c.in-Ok-publish.ensures.published honest.0) in
    alone_kept c.args.file.now c.of.result c.in-Ok-index_of.whole
    (g.D.Disk.history c.finish_snapshot.new.low) (g.D.Disk.history c.finish_snapshot.new.middle) (g.D.Disk.history c.finish_snapshot.new.high)
    (c.in-Ok-finish_snapshot.ensures.alone (c.publish.ensures.honest ∙ honest.0, honest.1, honest.2)
    (named_now levels c.args.index.now l m h kept c.args.file.now c.of.result c.encoded.ensures.reads_back c.requires.first c.of.ensures l_mid there) c.args.file.now
    (waits_now levels c.args.index.now l m h kept c.args.file.now c.of.result c.encoded.ensures.reads_back c.requires.first c.of.ensures l_mid there))
    (from_nowhere c.args.file.now (stored c.args.file.now) c.encoded.ensures.reads_back c.requires.first) c.of.ensures
    c.in-Ok-index_of.ensures.lows c.in-Ok-index_of.ensures.others (c.in-Ok-index_of.ensures.end ∙ c.after.ensures)

pub returns-in-Err-clause-same : goal.returns-in-Err-clause-same
returns-in-Err-clause-same g c not = (record { lows = refl; middles = refl; highs = refl; end = refl }, refl, refl, refl)

pub returns-in-Err-index_of-clause-same : goal.returns-in-Err-index_of-clause-same
returns-in-Err-index_of-clause-same g c not = (record { lows = refl; middles = refl; highs = refl; end = refl }, refl, refl, refl)

pub returns-in-Err-publish-clause-same : goal.returns-in-Err-publish-clause-same
returns-in-Err-publish-clause-same g c not = absurd (not refl)

pub returns-clause-same : goal.returns-clause-same
returns-clause-same g c not = absurd (not c.in-Err-finish_snapshot.ensures.disk)
