use Rattle.std.proofs.Common.{◌∙◌, arith}
use Rattle.lf_disk.specs.Folder.{bytes_of}
use Rattle.lf_disk.specs.History.{now, may_leave}
use Rattle.lf_disk.specs.declared.name.FileName.TheVariants.{Staged}
use Rattle.lf_disk.proofs.Moments.{weakened}
use Rattle.txn_log.specs.Kept.{LogFile}
use Rattle.txn_log.proofs.Puttings.{either, moments, at_rest, settled_staged}
use Rattle.txn_log.proofs.Republishings.{held_in_log}
use Rattle.txn_log.proofs.placing_from.put_from.Goals as goal

pub rewrite_from-requires-clause-settled : goal.rewrite_from-requires-clause-settled
rewrite_from-requires-clause-settled g c still =
    let honest = Rattle.std.proofs.Common.sym c.put_in_place.ensures.honest ∙ still in
    let h = g.D.Disk.history c.args.disk.now in
    (c.in_ok-put_in_place.ensures.published honest (now h) (bytes_of (now h Staged)) (settled_staged h (c.requires.settled honest) (c.requires.there honest))).settled

pub returns-in_err-put_in_place-clause-moments : goal.returns-in_err-put_in_place-clause-moments
returns-in_err-put_in_place-clause-moments g c honest image files encoding file ready holds =
    let log : LogFile = record { min = c.args.header.now.min; max = c.args.header.now.max; encoding = encoding } in
    weakened _ _ _ _ (c.put_in_place.ensures.moments honest ready.before encoding ready.staged)
    (λ d is. either image files file.change log ready.tells ready.before d ready.valid ready.kept ready.shows ready.complete is)

pub returns-in_err-rewrite_from-clause-moments : goal.returns-in_err-rewrite_from-clause-moments
returns-in_err-rewrite_from-clause-moments g c honest image files encoding file ready holds =
    let h = g.D.Disk.history c.args.disk.now in
    let mid = g.D.Disk.history c.put_in_place.new.disk in
    let new = g.D.Disk.history c.rewrite_from.new.disk in
    let still = c.put_in_place.ensures.honest ∙ honest in
    let log : LogFile = record { min = c.args.header.now.min; max = c.args.header.now.max; encoding = encoding } in
    moments h mid new image files file.change log ready (c.in_ok-put_in_place.ensures.published honest ready.before encoding ready.staged)
    (c.put_in_place.ensures.moments honest ready.before encoding ready.staged) (c.rewrite_from.ensures.moments still file (held_in_log c.args.header.now c.args.len file ready.before encoding h mid ready.staged holds c.args.header.now.min c.args.header.now.max (c.in_ok-put_in_place.ensures.published honest ready.before encoding ready.staged)))

pub returns-clause-moments : goal.returns-clause-moments
returns-clause-moments g c honest image files encoding file ready holds =
    let h = g.D.Disk.history c.args.disk.now in
    let mid = g.D.Disk.history c.put_in_place.new.disk in
    let new = g.D.Disk.history c.rewrite_from.new.disk in
    let still = c.put_in_place.ensures.honest ∙ honest in
    let log : LogFile = record { min = c.args.header.now.min; max = c.args.header.now.max; encoding = encoding } in
    moments h mid new image files file.change log ready (c.in_ok-put_in_place.ensures.published honest ready.before encoding ready.staged)
    (c.put_in_place.ensures.moments honest ready.before encoding ready.staged) (c.rewrite_from.ensures.moments still file (held_in_log c.args.header.now c.args.len file ready.before encoding h mid ready.staged holds c.args.header.now.min c.args.header.now.max (c.in_ok-put_in_place.ensures.published honest ready.before encoding ready.staged)))

pub returns-clause-done : goal.returns-clause-done
returns-clause-done g c honest image files encoding file ready holds =
    let h = g.D.Disk.history c.args.disk.now in
    let mid = g.D.Disk.history c.put_in_place.new.disk in
    let new = g.D.Disk.history c.rewrite_from.new.disk in
    let still = c.put_in_place.ensures.honest ∙ honest in
    let log : LogFile = record { min = c.args.header.now.min; max = c.args.header.now.max; encoding = encoding } in
    let real : may_leave new (now new) = g.met.D.Disk.as_it_read c.rewrite_from.new.disk new.moment (c.rewrite_from.ensures.honest ∙ still) (omega arith) in
    at_rest h mid new image files file.change log ready (c.in_ok-put_in_place.ensures.published honest ready.before encoding ready.staged)
    (c.rewrite_from.ensures.moments still file (held_in_log c.args.header.now c.args.len file ready.before encoding h mid ready.staged holds c.args.header.now.min c.args.header.now.max (c.in_ok-put_in_place.ensures.published honest ready.before encoding ready.staged))) real (c.in_ok-rewrite_from.ensures.done still file (held_in_log c.args.header.now c.args.len file ready.before encoding h mid ready.staged holds c.args.header.now.min c.args.header.now.max (c.in_ok-put_in_place.ensures.published honest ready.before encoding ready.staged)))
