use Rattle.std.proofs.Common.{◌++◌, ◌∷◌, [], Bool, subst}
use Rattle.lf_disk.proofs.Moments.{weakened}
use Rattle.lf_sqlite_pages.specs.Image.{DatabaseImage}
use Rattle.lf_sqlite_pages.specs.Apply.{apply}
use Rattle.txn_log.specs.Kept.{LogFile}
use Rattle.txn_log.specs.Putting.{IsReady, IsBeforeOrAfter}
use Rattle.txn_log.specs.Placing.{IsBetween}
use Rattle.txn_log.proofs.Placings.{between, anew_moments, anew_ready, anew_rest}
use Rattle.txn_log.proofs.placing_from.put_staged_from.Goals as goal

pub returns-in_err-put_anew_from-clause-moments : goal.returns-in_err-put_anew_from-clause-moments
returns-in_err-put_anew_from-clause-moments g c honest image files encoding file ready empty holds =
    let h = g.D.Disk.history c.args.disk.now in
    let new = g.D.Disk.history c.put_anew_from.new.disk in
    let log : LogFile = record { min = c.args.header.now.min; max = c.args.header.now.max; encoding = encoding } in
    let none = empty c.if-dropped.true in
    anew_moments image files c.args.dropped encoding file.change h c.if-dropped.true none ready log new
    (c.put_anew_from.ensures.moments honest ready.before (apply image file.change) encoding file (anew_ready image files c.args.dropped encoding file.change h c.if-dropped.true none ready) holds)

pub returns-then-dropped-clause-moments : goal.returns-then-dropped-clause-moments
returns-then-dropped-clause-moments g c honest image files encoding file ready empty holds =
    let h = g.D.Disk.history c.args.disk.now in
    let new = g.D.Disk.history c.put_anew_from.new.disk in
    let log : LogFile = record { min = c.args.header.now.min; max = c.args.header.now.max; encoding = encoding } in
    let none = empty c.if-dropped.true in
    anew_moments image files c.args.dropped encoding file.change h c.if-dropped.true none ready log new
    (c.put_anew_from.ensures.moments honest ready.before (apply image file.change) encoding file (anew_ready image files c.args.dropped encoding file.change h c.if-dropped.true none ready) holds)

pub returns-then-dropped-clause-done : goal.returns-then-dropped-clause-done
returns-then-dropped-clause-done g c honest image files encoding file ready empty holds =
    let h = g.D.Disk.history c.args.disk.now in
    let new = g.D.Disk.history c.put_anew_from.new.disk in
    let log : LogFile = record { min = c.args.header.now.min; max = c.args.header.now.max; encoding = encoding } in
    let made : DatabaseImage = apply image file.change in
    let none = empty c.if-dropped.true in
    anew_rest files made log new none
    (c.in_ok-put_anew_from.ensures.done honest ready.before made encoding file (anew_ready image files c.args.dropped encoding file.change h c.if-dropped.true none ready) holds)

pub returns-in_err-put_from-clause-moments : goal.returns-in_err-put_from-clause-moments
returns-in_err-put_from-clause-moments g c honest image files encoding file ready empty holds =
    let h = g.D.Disk.history c.args.disk.now in
    let new = g.D.Disk.history c.put_from.new.disk in
    let log : LogFile = record { min = c.args.header.now.min; max = c.args.header.now.max; encoding = encoding } in
    let made : DatabaseImage = apply image file.change in
    let is = subst (λ (d : Bool). IsReady image files d encoding file.change h) c.if-dropped.false ready in
    weakened h new (IsBeforeOrAfter image files made (files ++ log ∷ [])) (IsBetween image files c.args.dropped made log) (c.put_from.ensures.moments honest image files encoding file is holds)
    (between image files c.args.dropped made log c.if-dropped.false)

pub returns-clause-moments : goal.returns-clause-moments
returns-clause-moments g c honest image files encoding file ready empty holds =
    let h = g.D.Disk.history c.args.disk.now in
    let new = g.D.Disk.history c.put_from.new.disk in
    let log : LogFile = record { min = c.args.header.now.min; max = c.args.header.now.max; encoding = encoding } in
    let made : DatabaseImage = apply image file.change in
    let is = subst (λ (d : Bool). IsReady image files d encoding file.change h) c.if-dropped.false ready in
    weakened h new (IsBeforeOrAfter image files made (files ++ log ∷ [])) (IsBetween image files c.args.dropped made log) (c.put_from.ensures.moments honest image files encoding file is holds)
    (between image files c.args.dropped made log c.if-dropped.false)

pub returns-clause-done : goal.returns-clause-done
returns-clause-done g c honest image files encoding file ready empty holds =
    let h = g.D.Disk.history c.args.disk.now in
    c.in_ok-put_from.ensures.done honest image files encoding file (subst (λ (d : Bool). IsReady image files d encoding file.change h) c.if-dropped.false ready) holds
