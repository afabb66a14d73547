use Rattle.std.proofs.Common.{◌∙◌, arith}
use Rattle.lf_disk.specs.Folder.{bytes_of}
use Rattle.lf_disk.specs.History.{now, may_leave}
use Rattle.lf_disk.specs.declared.name.FileName.TheVariants.{Staged}
use Rattle.lf_disk.proofs.Moments.{weakened}
use Rattle.txn_log.specs.Kept.{LogFile}
use Rattle.txn_log.proofs.Puttings.{either, moments, at_rest, settled_staged}
use Rattle.txn_log.proofs.publishing.put.Goals as goal

pub rewrite-requires : goal.rewrite-requires
rewrite-requires g c still =
    let honest = Rattle.std.proofs.Common.sym c.put_in_place.ensures.honest ∙ still in
    let h = g.D.Disk.history c.args.disk.now in
    (c.in_ok-put_in_place.ensures.published honest (now h) (bytes_of (now h Staged)) (settled_staged h (c.requires.settled honest) (c.requires.there honest))).settled

pub returns-in_err-put_in_place-clause-moments : goal.returns-in_err-put_in_place-clause-moments
returns-in_err-put_in_place-clause-moments g c honest image files encoding ready =
    let file : LogFile = record { min = c.args.min; max = c.args.max; encoding = encoding } in
    weakened _ _ _ _ (c.put_in_place.ensures.moments honest ready.before encoding ready.staged)
    (λ d is. either image files c.args.change.now file ready.tells ready.before d ready.valid ready.kept ready.shows ready.complete is)

pub returns-in_err-rewrite-clause-moments : goal.returns-in_err-rewrite-clause-moments
returns-in_err-rewrite-clause-moments g c honest image files encoding ready =
    let h = g.D.Disk.history c.args.disk.now in
    let mid = g.D.Disk.history c.put_in_place.new.disk in
    let new = g.D.Disk.history c.rewrite.new.disk in
    let still = c.put_in_place.ensures.honest ∙ honest in
    let file : LogFile = record { min = c.args.min; max = c.args.max; encoding = encoding } in
    moments h mid new image files c.args.change.now file ready (c.in_ok-put_in_place.ensures.published honest ready.before encoding ready.staged)
    (c.put_in_place.ensures.moments honest ready.before encoding ready.staged) (c.rewrite.ensures.moments still)

pub returns-clause-moments : goal.returns-clause-moments
returns-clause-moments g c honest image files encoding ready =
    let h = g.D.Disk.history c.args.disk.now in
    let mid = g.D.Disk.history c.put_in_place.new.disk in
    let new = g.D.Disk.history c.rewrite.new.disk in
    let still = c.put_in_place.ensures.honest ∙ honest in
    let file : LogFile = record { min = c.args.min; max = c.args.max; encoding = encoding } in
    moments h mid new image files c.args.change.now file ready (c.in_ok-put_in_place.ensures.published honest ready.before encoding ready.staged)
    (c.put_in_place.ensures.moments honest ready.before encoding ready.staged) (c.rewrite.ensures.moments still)

pub returns-clause-done : goal.returns-clause-done
returns-clause-done g c honest image files encoding ready =
    let h = g.D.Disk.history c.args.disk.now in
    let mid = g.D.Disk.history c.put_in_place.new.disk in
    let new = g.D.Disk.history c.rewrite.new.disk in
    let still = c.put_in_place.ensures.honest ∙ honest in
    let file : LogFile = record { min = c.args.min; max = c.args.max; encoding = encoding } in
    let real : may_leave new (now new) = g.met.D.Disk.as_it_read c.rewrite.new.disk new.moment (c.rewrite.ensures.honest ∙ still) (omega arith) in
    at_rest h mid new image files c.args.change.now file ready (c.in_ok-put_in_place.ensures.published honest ready.before encoding ready.staged)
    (c.rewrite.ensures.moments still) real (c.in_ok-rewrite.ensures.done still)
