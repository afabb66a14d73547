use Rattle.std.proofs.Common.{◌∙◌, refl, sym, subst, IsSome, Option, List, ℕ}
use Rattle.lf_disk.specs.Folder.{bytes_of}
use Rattle.lf_disk.specs.History.{now}
use Rattle.lf_disk.specs.declared.name.FileName.TheVariants.{Staged, Snapshot}
use Rattle.lf_disk.proofs.Moments.{weakened}
use Rattle.txn_log.specs.Kept.{LogFile}
use Rattle.txn_log.proofs.Anew.{first, unsettled, moments}
use Rattle.txn_log.proofs.Puttings.{settled_staged}
use Rattle.txn_log.proofs.publishing.put_anew.Goals as goal

pub settle-requires-clause-settled : goal.settle-requires-clause-settled
settle-requires-clause-settled g c still =
    let honest = sym c.put_in_place.ensures.honest ∙ still in
    let h = g.D.Disk.history c.args.disk.now in
    (c.in_ok-put_in_place.ensures.published honest (now h) (bytes_of (now h Staged)) (settled_staged h (c.requires.settled honest) (c.requires.there honest))).settled

pub settle-requires-clause-there : goal.settle-requires-clause-there
settle-requires-clause-there g c still =
    let honest = sym c.put_in_place.ensures.honest ∙ still in
    let h = g.D.Disk.history c.args.disk.now in
    let published = c.in_ok-put_in_place.ensures.published honest (now h) (bytes_of (now h Staged)) (settled_staged h (c.requires.settled honest) (c.requires.there honest)) in
    subst (λ (o : Option (List ℕ)). IsSome o) (sym (published.seen Snapshot refl)) refl

pub returns-in_err-put_in_place-clause-moments : goal.returns-in_err-put_in_place-clause-moments
returns-in_err-put_in_place-clause-moments g c honest before image encoding ready =
    let h = g.D.Disk.history c.args.disk.now in
    let file : LogFile = record { min = c.args.min; max = c.args.max; encoding = encoding } in
    weakened _ _ _ _ (c.put_in_place.ensures.moments honest before encoding ready.staged) (first h before image c.args.entries.now c.args.change.now file ready)

pub returns-in_err-settle-clause-moments : goal.returns-in_err-settle-clause-moments
returns-in_err-settle-clause-moments g c honest before image encoding ready =
    let h = g.D.Disk.history c.args.disk.now in
    let mid = g.D.Disk.history c.put_in_place.new.disk in
    let new = g.D.Disk.history c.settle.new.disk in
    let still = c.put_in_place.ensures.honest ∙ honest in
    let file : LogFile = record { min = c.args.min; max = c.args.max; encoding = encoding } in
    moments h before image c.args.entries.now c.args.change.now file ready mid new (c.put_in_place.ensures.moments honest before encoding ready.staged)
    (c.settle.ensures.moments still image encoding (unsettled h before image c.args.entries.now c.args.change.now file ready mid (c.in_ok-put_in_place.ensures.published honest before encoding ready.staged)))

pub returns-clause-moments : goal.returns-clause-moments
returns-clause-moments g c honest before image encoding ready =
    let h = g.D.Disk.history c.args.disk.now in
    let mid = g.D.Disk.history c.put_in_place.new.disk in
    let new = g.D.Disk.history c.settle.new.disk in
    let still = c.put_in_place.ensures.honest ∙ honest in
    let file : LogFile = record { min = c.args.min; max = c.args.max; encoding = encoding } in
    moments h before image c.args.entries.now c.args.change.now file ready mid new (c.put_in_place.ensures.moments honest before encoding ready.staged)
    (c.settle.ensures.moments still image encoding (unsettled h before image c.args.entries.now c.args.change.now file ready mid (c.in_ok-put_in_place.ensures.published honest before encoding ready.staged)))

pub returns-clause-done : goal.returns-clause-done
returns-clause-done g c honest before image encoding ready =
    let h = g.D.Disk.history c.args.disk.now in
    let mid = g.D.Disk.history c.put_in_place.new.disk in
    let still = c.put_in_place.ensures.honest ∙ honest in
    let file : LogFile = record { min = c.args.min; max = c.args.max; encoding = encoding } in
    c.in_ok-settle.ensures.done still image encoding
    (unsettled h before image c.args.entries.now c.args.change.now file ready mid (c.in_ok-put_in_place.ensures.published honest before encoding ready.staged))
