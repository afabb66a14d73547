use Rattle.std.proofs.Common.{◌∙◌, refl, sym}
use Rattle.lf_disk.specs.Folder.{bytes_of}
use Rattle.lf_disk.specs.History.{now}
use Rattle.lf_disk.specs.declared.name.FileName.TheVariants.{Staged, Dropped}
use Rattle.lf_disk.proofs.Moments.{weakened}
use Rattle.txn_log.proofs.Marks.{by_mark, first, moments, none_other}
use Rattle.txn_log.proofs.Puttings.{settled_staged}
use Rattle.txn_log.proofs.dropping.put_mark.Goals as goal

pub empty-requires : goal.empty-requires
empty-requires g c = record {
  settled = λ still.
      let honest = sym c.put_in_place.ensures.honest ∙ still in
      let h = g.D.Disk.history c.args.disk.now in
      (c.in_ok-put_in_place.ensures.published honest (now h) (bytes_of (now h Staged)) (settled_staged h (c.requires.settled honest) (c.requires.there honest))).settled;
}

pub returns-in_err-put_in_place-clause-moments : goal.returns-in_err-put_in_place-clause-moments
returns-in_err-put_in_place-clause-moments g c honest image files ready =
    let h = g.D.Disk.history c.args.disk.now in
    weakened _ _ _ _ (c.put_in_place.ensures.moments honest ready.before ready.bytes ready.staged) (first h image files ready)

pub returns-in_err-empty-clause-moments : goal.returns-in_err-empty-clause-moments
returns-in_err-empty-clause-moments g c honest image files ready =
    let h = g.D.Disk.history c.args.disk.now in
    let mid = g.D.Disk.history c.put_in_place.new.disk in
    let new = g.D.Disk.history c.empty.new.disk in
    let published = c.in_ok-put_in_place.ensures.published honest ready.before ready.bytes ready.staged in
    moments h image files ready mid new (c.put_in_place.ensures.moments honest ready.before ready.bytes ready.staged)
    (c.empty.ensures.moments (c.put_in_place.ensures.honest ∙ honest) (by_mark h image files ready (now mid) published.seen))

pub returns-clause-moments : goal.returns-clause-moments
returns-clause-moments g c honest image files ready =
    let h = g.D.Disk.history c.args.disk.now in
    let mid = g.D.Disk.history c.put_in_place.new.disk in
    let new = g.D.Disk.history c.empty.new.disk in
    let published = c.in_ok-put_in_place.ensures.published honest ready.before ready.bytes ready.staged in
    moments h image files ready mid new (c.put_in_place.ensures.moments honest ready.before ready.bytes ready.staged)
    (c.empty.ensures.moments (c.put_in_place.ensures.honest ∙ honest) (by_mark h image files ready (now mid) published.seen))

pub returns-clause-done : goal.returns-clause-done
returns-clause-done g c honest image files ready all =
    let h = g.D.Disk.history c.args.disk.now in
    let mid = g.D.Disk.history c.put_in_place.new.disk in
    let published = c.in_ok-put_in_place.ensures.published honest ready.before ready.bytes ready.staged in
    c.in_ok-empty.ensures.done (c.put_in_place.ensures.honest ∙ honest) (by_mark h image files ready (now mid) published.seen)
    (none_other h image files ready mid c.args.entries.now published all)

pub returns-clause-mark : goal.returns-clause-mark
returns-clause-mark g c honest =
    let h = g.D.Disk.history c.args.disk.now in
    let staged = settled_staged h (c.requires.settled honest) (c.requires.there honest) in
    let published = c.in_ok-put_in_place.ensures.published honest (now h) (bytes_of (now h Staged)) staged in
    c.in_ok-empty.ensures.mark (c.put_in_place.ensures.honest ∙ honest) ∙ published.seen Dropped refl ∙ sym staged.here
