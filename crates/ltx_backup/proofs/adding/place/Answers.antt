use Rattle.std.proofs.Common.{OnOk, refl, sym, subst}
use Rattle.ltx_backup.specs.Adding.{HoldsEither}
use Rattle.ltx_backup.specs.Entries.{IsKept}
use Rattle.ltx_backup.specs.Levels.{Levels}
use Rattle.ltx_backup.specs.Stops.{Stops}
use Rattle.ltx_backup.specs.declared.entry.Index.{Index}
use Rattle.ltx_backup.proofs.Adds.{added_first, added_later, at_the_end, appended_stops, appended_kept}
use Rattle.ltx_backup.proofs.adding.place.Goals as goal

pub returns-then-first-clause-placed : goal.returns-then-first-clause-placed
returns-then-first-clause-placed g c honest levels kept joins =
    subst (λ (k : Levels). OnOk c.install.result (IsKept k c.install.new.index (g.D.Disk.history c.install.new.low) (g.D.Disk.history c.install.new.middle) (g.D.Disk.history c.install.new.high)))
    (sym (added_first levels c.args.file.now c.if-first.true)) (c.install.ensures.installed honest levels kept)

pub returns-then-first-clause-stops : goal.returns-then-first-clause-stops
returns-then-first-clause-stops g c honest levels kept joins =
    subst (λ (k : Levels). Stops (g.D.Disk.history c.args.low.now) (g.D.Disk.history c.args.middle.now) (g.D.Disk.history c.args.high.now)
    (g.D.Disk.history c.install.new.low) (g.D.Disk.history c.install.new.middle) (g.D.Disk.history c.install.new.high) (HoldsEither levels k))
    (sym (added_first levels c.args.file.now c.if-first.true)) (c.install.ensures.stops honest levels kept)

pub returns-in-Ok-clause-placed : goal.returns-in-Ok-clause-placed
returns-in-Ok-clause-placed g c honest levels kept joins =
    let l = g.D.Disk.history c.args.low.now in
    let m = g.D.Disk.history c.args.middle.now in
    let h = g.D.Disk.history c.args.high.now in
    let l_now = g.D.Disk.history c.append.new.disk in
    let index_now : Index = record c.args.index.now { entries = record c.args.index.now.entries { lows = c.append.new.entries }; end = c.after-index.result } in
    subst (λ (k : Levels). IsKept k index_now l_now m h) (sym (added_later levels c.args.file.now c.if-first.false))
    (appended_kept levels c.args.index.now l m h kept c.args.file.now c.append.ensures.reads_back (at_the_end c.args.file.now c.args.index.now.end c.if-first.false joins) index_now l_now
    (c.in-Ok.ensures.published honest.0) c.in-Ok.ensures.entries refl refl c.after-index.ensures)

pub returns-in-Ok-clause-stops : goal.returns-in-Ok-clause-stops
returns-in-Ok-clause-stops g c honest levels kept joins =
    let l = g.D.Disk.history c.args.low.now in
    let m = g.D.Disk.history c.args.middle.now in
    let h = g.D.Disk.history c.args.high.now in
    let l_now = g.D.Disk.history c.append.new.disk in
    subst (λ (k : Levels). Stops l m h l_now m h (HoldsEither levels k)) (sym (added_later levels c.args.file.now c.if-first.false))
    (appended_stops levels c.args.index.now l m h kept c.args.file.now c.append.ensures.reads_back (at_the_end c.args.file.now c.args.index.now.end c.if-first.false joins) l_now (c.append.ensures.moments honest.0))

pub returns-in-Err-clause-stops : goal.returns-in-Err-clause-stops
returns-in-Err-clause-stops g c honest levels kept joins =
    let l = g.D.Disk.history c.args.low.now in
    let m = g.D.Disk.history c.args.middle.now in
    let h = g.D.Disk.history c.args.high.now in
    let l_now = g.D.Disk.history c.append.new.disk in
    subst (λ (k : Levels). Stops l m h l_now m h (HoldsEither levels k)) (sym (added_later levels c.args.file.now c.if-first.false))
    (appended_stops levels c.args.index.now l m h kept c.args.file.now c.append.ensures.reads_back (at_the_end c.args.file.now c.args.index.now.end c.if-first.false joins) l_now (c.append.ensures.moments honest.0))

pub returns-in-Ok-clause-settled : goal.returns-in-Ok-clause-settled
returns-in-Ok-clause-settled g c = (λ honest. (c.in-Ok.ensures.published honest).settled, λ honest. c.requires.middle_settled honest, λ honest. c.requires.high_settled honest)

pub returns-in-Err-clause-same : goal.returns-in-Err-clause-same
returns-in-Err-clause-same g c not =
    let same = c.in-Err.ensures.same not in
    (record { lows = same.0; middles = refl; highs = refl; end = refl }, same.1, refl, refl)
