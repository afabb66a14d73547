use Rattle.std.proofs.Common.{◌≡◌, ◌∙◌, ◌-◌, length, length-drop, arith, refl, sym, ap, subst}
use Rattle.lf_disk.specs.History.{Rests}
use Rattle.ltx_backup.specs.Levels.{end_of}
use Rattle.ltx_codec.specs.Positions.{nowhere}
use Rattle.ltx_backup.specs.declared.entry.Index.{Index}
use Rattle.ltx_backup.proofs.Adds.{breaks_by}
use Rattle.ltx_backup.proofs.Levelled.{middle_stops, middle_kept}
use Rattle.ltx_backup.proofs.Refusals.{kept_index, once_refused}
use Rattle.ltx_backup.proofs.Stills.{kept_rests, rests_stay}
use Rattle.ltx_backup.proofs.Unique.{lead_middles}
use Rattle.ltx_backup.proofs.backup.Backup.fold_middle.Goals as goal

pub returns-in-Ok-clause-folds : goal.returns-in-Ok-clause-folds
returns-in-Ok-clause-folds g c honest levels kept =
    let index_now : Index = record c.args.self.now.index { entries = record c.args.self.now.index.entries { middles = c.fold.new.entries; highs = c.fold.new.uppers } } in
    middle_kept levels c.args.self.now.index (g.D.Disk.history c.args.self.now.low) (g.D.Disk.history c.args.self.now.middle) (g.D.Disk.history c.args.self.now.high) kept c.requires.due
    index_now (g.D.Disk.history c.fold.new.from) (g.D.Disk.history c.fold.new.to) (c.in-Ok.ensures.folds honest.1 honest.2 levels.middles kept.middles) refl refl

pub returns-in-Ok-clause-stops : goal.returns-in-Ok-clause-stops
returns-in-Ok-clause-stops g c honest levels kept =
    middle_stops levels c.args.self.now.index (g.D.Disk.history c.args.self.now.low) (g.D.Disk.history c.args.self.now.middle) (g.D.Disk.history c.args.self.now.high) kept c.requires.due
    (g.D.Disk.history c.fold.new.from) (g.D.Disk.history c.fold.new.to) (c.fold.ensures.moves honest.1 honest.2 levels.middles kept.middles)

pub returns-in-Err-clause-stops : goal.returns-in-Err-clause-stops
returns-in-Err-clause-stops g c honest levels kept =
    middle_stops levels c.args.self.now.index (g.D.Disk.history c.args.self.now.low) (g.D.Disk.history c.args.self.now.middle) (g.D.Disk.history c.args.self.now.high) kept c.requires.due
    (g.D.Disk.history c.fold.new.from) (g.D.Disk.history c.fold.new.to) (c.fold.ensures.moves honest.1 honest.2 levels.middles kept.middles)

pub returns-in-Err-clause-folds : goal.returns-in-Err-clause-folds
returns-in-Err-clause-folds g c honest levels kept =
    let index_now : Index = record c.args.self.now.index { entries = record c.args.self.now.index.entries { middles = c.fold.new.entries; highs = c.fold.new.uppers } } in
    once_refused levels index_now (g.D.Disk.history c.args.self.now.low) (g.D.Disk.history c.fold.new.from) (g.D.Disk.history c.fold.new.to) (Unit {0}) levels.middles c.in-Err.why
    (λ not.
    let same = c.in-Err.ensures.same not in
    let stays = subst (λ d. Rests (g.D.Disk.history c.args.self.now.high) (g.D.Disk.history d)) (sym same.3) (rests_stay (g.D.Disk.history c.args.self.now.high)) in
    kept_index levels c.args.self.now.index index_now (g.D.Disk.history c.args.self.now.low) (g.D.Disk.history c.fold.new.from) (g.D.Disk.history c.fold.new.to)
    (kept_rests levels c.args.self.now.index (g.D.Disk.history c.args.self.now.low) (g.D.Disk.history c.args.self.now.middle) (g.D.Disk.history c.args.self.now.high)
    (g.D.Disk.history c.args.self.now.low) (g.D.Disk.history c.fold.new.from) (g.D.Disk.history c.fold.new.to) kept (rests_stay (g.D.Disk.history c.args.self.now.low)) same.2 stays)
    (record { middles = same.0; highs = same.1; lows = refl; end = refl }))
    (c.in-Err.ensures.why honest.1 levels.middles kept.middles (end_of nowhere levels.highs) (lead_middles levels kept.joined))

pub returns-in-Err-clause-breaks : goal.returns-in-Err-clause-breaks
returns-in-Err-clause-breaks g c = breaks_by (Unit {0}) c.args.self.now.broken c.is_disk-self.result c.in-Err.why c.requires.sound c.is_disk-self.ensures.yes c.is_disk-self.ensures.no

pub returns-in-Ok-clause-fewer : goal.returns-in-Ok-clause-fewer
returns-in-Ok-clause-fewer g c =
    let left : length c.fold.new.entries.items ≡ length c.args.self.now.index.entries.middles.items - 8 = ap length c.in-Ok.ensures.left ∙ length-drop 8 c.args.self.now.index.entries.middles.items in
    omega (arith, left, c.requires.due.eight)
