use Rattle.std.proofs.Common.{◌++◌, ◌∷◌, [], Bool, subst}
use Rattle.lf_disk.proofs.Moments.{weakened}
use Rattle.lf_sqlite_pages.specs.Image.{DatabaseImage}
use Rattle.lf_sqlite_pages.specs.Apply.{apply}
use Rattle.txn_log.specs.Kept.{LogFile}
use Rattle.txn_log.specs.Putting.{IsReady, IsBeforeOrAfter}
use Rattle.txn_log.specs.Placing.{IsBetween}
use Rattle.txn_log.proofs.Placings.{between, anew_moments, anew_ready, anew_rest}
use Rattle.txn_log.proofs.publishing.put_staged.Goals as goal

pub returns-in_err-put_anew-clause-moments : goal.returns-in_err-put_anew-clause-moments
returns-in_err-put_anew-clause-moments g c honest image files encoding ready empty =
    let h = g.D.Disk.history c.args.disk.now in
    let new = g.D.Disk.history c.put_anew.new.disk in
    let file : LogFile = record { min = c.args.min; max = c.args.max; encoding = encoding } in
    let none = empty c.if-dropped.true in
    anew_moments image files c.args.dropped encoding c.args.change.now h c.if-dropped.true none ready file new
    (c.put_anew.ensures.moments honest ready.before (apply image c.args.change.now) encoding (anew_ready image files c.args.dropped encoding c.args.change.now h c.if-dropped.true none ready))

pub returns-then-dropped-clause-moments : goal.returns-then-dropped-clause-moments
returns-then-dropped-clause-moments g c honest image files encoding ready empty =
    let h = g.D.Disk.history c.args.disk.now in
    let new = g.D.Disk.history c.put_anew.new.disk in
    let file : LogFile = record { min = c.args.min; max = c.args.max; encoding = encoding } in
    let none = empty c.if-dropped.true in
    anew_moments image files c.args.dropped encoding c.args.change.now h c.if-dropped.true none ready file new
    (c.put_anew.ensures.moments honest ready.before (apply image c.args.change.now) encoding (anew_ready image files c.args.dropped encoding c.args.change.now h c.if-dropped.true none ready))

pub returns-then-dropped-clause-done : goal.returns-then-dropped-clause-done
returns-then-dropped-clause-done g c honest image files encoding ready empty =
    let h = g.D.Disk.history c.args.disk.now in
    let new = g.D.Disk.history c.put_anew.new.disk in
    let file : LogFile = record { min = c.args.min; max = c.args.max; encoding = encoding } in
    let made : DatabaseImage = apply image c.args.change.now in
    let none = empty c.if-dropped.true in
    anew_rest files made file new none
    (c.in_ok-put_anew.ensures.done honest ready.before made encoding (anew_ready image files c.args.dropped encoding c.args.change.now h c.if-dropped.true none ready))

pub returns-in_err-put-clause-moments : goal.returns-in_err-put-clause-moments
returns-in_err-put-clause-moments g c honest image files encoding ready empty =
    let h = g.D.Disk.history c.args.disk.now in
    let new = g.D.Disk.history c.put.new.disk in
    let file : LogFile = record { min = c.args.min; max = c.args.max; encoding = encoding } in
    let made : DatabaseImage = apply image c.args.change.now in
    let is = subst (λ (d : Bool). IsReady image files d encoding c.args.change.now h) c.if-dropped.false ready in
    weakened h new (IsBeforeOrAfter image files made (files ++ file ∷ [])) (IsBetween image files c.args.dropped made file) (c.put.ensures.moments honest image files encoding is)
    (between image files c.args.dropped made file c.if-dropped.false)

pub returns-clause-moments : goal.returns-clause-moments
returns-clause-moments g c honest image files encoding ready empty =
    let h = g.D.Disk.history c.args.disk.now in
    let new = g.D.Disk.history c.put.new.disk in
    let file : LogFile = record { min = c.args.min; max = c.args.max; encoding = encoding } in
    let made : DatabaseImage = apply image c.args.change.now in
    let is = subst (λ (d : Bool). IsReady image files d encoding c.args.change.now h) c.if-dropped.false ready in
    weakened h new (IsBeforeOrAfter image files made (files ++ file ∷ [])) (IsBetween image files c.args.dropped made file) (c.put.ensures.moments honest image files encoding is)
    (between image files c.args.dropped made file c.if-dropped.false)

pub returns-clause-done : goal.returns-clause-done
returns-clause-done g c honest image files encoding ready empty =
    let h = g.D.Disk.history c.args.disk.now in
    c.in_ok-put.ensures.done honest image files encoding (subst (λ (d : Bool). IsReady image files d encoding c.args.change.now h) c.if-dropped.false ready)
