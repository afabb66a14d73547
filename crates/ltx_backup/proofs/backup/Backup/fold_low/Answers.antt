use Rattle.std.proofs.Common.{◌≡◌, ◌∙◌, ◌++◌, ◌-◌, length, length-drop, arith, refl, sym, ap, subst}
use Rattle.lf_disk.specs.History.{Rests}
use Rattle.ltx_backup.specs.Levels.{end_of}
use Rattle.ltx_codec.specs.Positions.{nowhere}
use Rattle.ltx_backup.specs.declared.entry.Index.{Index}
use Rattle.ltx_backup.proofs.Adds.{breaks_by}
use Rattle.ltx_backup.proofs.Levelled.{low_stops, low_kept}
use Rattle.ltx_backup.proofs.Refusals.{kept_index, once_refused}
use Rattle.ltx_backup.proofs.Stills.{kept_rests, rests_stay}
use Rattle.ltx_backup.proofs.Unique.{lead_lows}
use Rattle.ltx_backup.proofs.backup.Backup.fold_low.Goals as goal

pub returns-in-Ok-clause-folds : goal.returns-in-Ok-clause-folds
returns-in-Ok-clause-folds g c honest levels kept =
    let index_now : Index = record c.args.self.now.index { entries = record c.args.self.now.index.entries { lows = c.fold.new.entries; middles = c.fold.new.uppers } } in
    low_kept levels c.args.self.now.index (g.D.Disk.history c.args.self.now.low) (g.D.Disk.history c.args.self.now.middle) (g.D.Disk.history c.args.self.now.high) kept c.requires.due
    index_now (g.D.Disk.history c.fold.new.from) (g.D.Disk.history c.fold.new.to) (c.in-Ok.ensures.folds honest.0 honest.1 levels.lows kept.lows) refl refl

pub returns-in-Ok-clause-stops : goal.returns-in-Ok-clause-stops
returns-in-Ok-clause-stops g c honest levels kept =
    low_stops levels c.args.self.now.index (g.D.Disk.history c.args.self.now.low) (g.D.Disk.history c.args.self.now.middle) (g.D.Disk.history c.args.self.now.high) kept c.requires.due
    (g.D.Disk.history c.fold.new.from) (g.D.Disk.history c.fold.new.to) (c.fold.ensures.moves honest.0 honest.1 levels.lows kept.lows)

pub returns-in-Err-clause-stops : goal.returns-in-Err-clause-stops
returns-in-Err-clause-stops g c honest levels kept =
    low_stops levels c.args.self.now.index (g.D.Disk.history c.args.self.now.low) (g.D.Disk.history c.args.self.now.middle) (g.D.Disk.history c.args.self.now.high) kept c.requires.due
    (g.D.Disk.history c.fold.new.from) (g.D.Disk.history c.fold.new.to) (c.fold.ensures.moves honest.0 honest.1 levels.lows kept.lows)

pub returns-in-Err-clause-folds : goal.returns-in-Err-clause-folds
returns-in-Err-clause-folds g c honest levels kept =
    let index_now : Index = record c.args.self.now.index { entries = record c.args.self.now.index.entries { lows = c.fold.new.entries; middles = c.fold.new.uppers } } in
    once_refused levels index_now (g.D.Disk.history c.fold.new.from) (g.D.Disk.history c.fold.new.to) (g.D.Disk.history c.args.self.now.high) (Unit {0}) levels.lows c.in-Err.why
    (λ not.
    let same = c.in-Err.ensures.same not in
    let stays = subst (λ d. Rests (g.D.Disk.history c.args.self.now.middle) (g.D.Disk.history d)) (sym same.3) (rests_stay (g.D.Disk.history c.args.self.now.middle)) in
    kept_index levels c.args.self.now.index index_now (g.D.Disk.history c.fold.new.from) (g.D.Disk.history c.fold.new.to) (g.D.Disk.history c.args.self.now.high)
    (kept_rests levels c.args.self.now.index (g.D.Disk.history c.args.self.now.low) (g.D.Disk.history c.args.self.now.middle) (g.D.Disk.history c.args.self.now.high)
    (g.D.Disk.history c.fold.new.from) (g.D.Disk.history c.fold.new.to) (g.D.Disk.history c.args.self.now.high) kept same.2 stays (rests_stay (g.D.Disk.history c.args.self.now.high)))
    (record { lows = same.0; middles = same.1; highs = refl; end = refl }))
    (c.in-Err.ensures.why honest.0 levels.lows kept.lows (end_of nowhere (levels.highs ++ levels.middles)) (lead_lows levels kept.joined))

pub returns-in-Err-clause-breaks : goal.returns-in-Err-clause-breaks
returns-in-Err-clause-breaks g c = breaks_by (Unit {0}) c.args.self.now.broken c.is_disk-self.result c.in-Err.why c.requires.sound c.is_disk-self.ensures.yes c.is_disk-self.ensures.no

pub returns-in-Ok-clause-fewer : goal.returns-in-Ok-clause-fewer
returns-in-Ok-clause-fewer g c =
    let left : length c.fold.new.entries.items ≡ length c.args.self.now.index.entries.lows.items - 8 = ap length c.in-Ok.ensures.left ∙ length-drop 8 c.args.self.now.index.entries.lows.items in
    omega (arith, left, c.in-Ok.ensures.made, c.requires.due.eight)
