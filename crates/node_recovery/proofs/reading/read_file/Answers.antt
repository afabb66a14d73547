use Rattle.std.proofs.Common.{[], Bool, false, refl, ◌∙◌, subst}
use Rattle.lf_disk.specs.Folder.{Folder, bytes_of}
use Rattle.lf_disk.specs.History.{now}
use Rattle.lf_sqlite_pages.specs.Change.{empty_change}
use Rattle.txn_log.proofs.Resting.{same_now}
use Rattle.node_recovery.specs.Reading.{IsIn, IsFilled}
use Rattle.node_recovery.proofs.Readings.{Reads, none_known, reads_on, fits_in, read_whole}
use Rattle.node_recovery.proofs.reading.read_file.Goals as goal

pub parts-init : goal.parts-init
parts-init g c = record {
  honest = c.open.ensures.honest;
  faults = c.in-Ok.ensures.cause;
  rests = c.open.ensures.rests;
  reads = record {
    encoding = [];
    change = empty_change 512 0;
    come = c.in-Ok.ensures.begins (empty_change 512 0);
    none = λ _. refl;
    here = λ is. c.in-Ok.ensures.here is;
    known = λ _. none_known c.none-tally.result c.none-tally.ensures.sums c.none-tally.ensures.wal;
  };
}

pub note-requires : goal.note-requires
note-requires g c =
    let h = g.D.Disk.history c.args.disk.now in
    let mid = g.D.Disk.history c.parts.disk in
    let inv = c.parts.invariant in
    let same = c.refill.ensures.same in
    let on : Reads (g.D.Disk.honest c.args.disk.now) c.args.pages (bytes_of (now h c.args.name)) c.refill.new.self c.parts.tally =
    reads_on _ _ _ c.parts.reader c.refill.new.self c.parts.tally same.0 same.1 same.2
    (λ is encoding. subst (λ (f : Folder). IsIn c.parts.reader encoding (bytes_of (f c.args.name)) → IsIn c.refill.new.self encoding (bytes_of (f c.args.name))) (same_now h mid inv.rests) (c.in-Ok-true.ensures.here (inv.honest ∙ is) encoding))
    inv.reads in
    fits_in c.step-came.result c.step-came.new.self on.encoding _ on.change c.parts.tally (c.step-came.ensures.comes on.encoding on.change on.come).sound (on.known c.if-not-pages.false)

pub returns-in-Ok-finish-clause-reads : goal.returns-in-Ok-finish-clause-reads
returns-in-Ok-finish-clause-reads g c honest =
    let h = g.D.Disk.history c.args.disk.now in
    let mid = g.D.Disk.history c.parts.disk in
    let inv = c.parts.invariant in
    let same = c.refill.ensures.same in
    let on : Reads (g.D.Disk.honest c.args.disk.now) c.args.pages (bytes_of (now h c.args.name)) c.refill.new.self c.parts.tally =
    reads_on _ _ _ c.parts.reader c.refill.new.self c.parts.tally same.0 same.1 same.2
    (λ is encoding. subst (λ (f : Folder). IsIn c.parts.reader encoding (bytes_of (f c.args.name)) → IsIn c.refill.new.self encoding (bytes_of (f c.args.name))) (same_now h mid inv.rests) (c.in-Ok-false.ensures.here (inv.honest ∙ is) encoding))
    inv.reads in
    let filled : IsFilled c.refill.new.self false = subst (λ (b : Bool). IsFilled c.refill.new.self b) c.in-Ok-false.field-0-test c.in-Ok-false.ensures.filled in
    read_whole _ _ _ c.refill.new.self c.parts.tally on filled c.in-Ok-finish.outline (c.in-Ok-finish.ensures on.encoding on.change on.come) honest
