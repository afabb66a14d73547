use Rattle.std.proofs.Common.{◌++◌, sym, ◌∙◌, ap}
use Rattle.lf_sqlite_pages.specs.Image.{image_bytes}
use Rattle.lf_sqlite_pages.proofs.LockPages.{page_size-positive}
use Rattle.txn_log.proofs.Moves.{moved-none}
use Rattle.txn_log.specs.Store.{state_of, failed_of}
use Rattle.snapshot.proofs.StoreLemmas.{kept_still, left_still, mode_still, moved_still, has_pages, image_now}
use Rattle.snapshot.proofs.exporting.export.Goals as goal

pub returns-then-store-clause-went : goal.returns-then-store-clause-went
returns-then-store-clause-went g c honest =
    let s = c.args.store.now in
    let h = g.D.Disk.history s.disk in
    moved-none (state_of h s.page_size s.commit s.entries.items s.dropped s.broken s.whole) (failed_of h s.broken s.attempt s.tried) h (s.left honest)

pub append_pages-requires : goal.append_pages-requires
append_pages-requires g c some = page_size-positive c.args.store.now.page_size (c.args.store.now.sized.pages some)

pub invariant_of-store : goal.invariant_of-store
invariant_of-store g c =
    let s = c.args.store.now in
    let h = g.D.Disk.history s.disk in
    let new = g.D.Disk.history c.append_pages.new.disk in
    let rests = c.append_pages.ensures.rests in
    record {
      shaped = s.shaped;
      sized = s.sized;
      kept = λ still. kept_still h new rests s.page_size s.commit s.entries.items s.dropped s.broken s.whole c.if-store.false s.sums.sums s.tried (s.kept (sym c.append_pages.ensures.honest ∙ still));
      left = λ still. left_still h new rests s.page_size s.commit s.entries.items s.dropped s.broken s.whole c.if-store.false s.attempt s.tried (s.left (sym c.append_pages.ensures.honest ∙ still));
      mode = λ still. mode_still h new rests s.page_size s.commit s.entries.items s.dropped s.broken s.whole c.if-store.false s.wal (s.mode (sym c.append_pages.ensures.honest ∙ still));
    }

pub returns-in-Ok-clause-bytes : goal.returns-in-Ok-clause-bytes
returns-in-Ok-clause-bytes g c honest =
    let s = c.args.store.now in
    let h = g.D.Disk.history s.disk in
    let has = has_pages h s.page_size s.commit s.entries.items s.dropped s.broken s.sums.sums s.whole s.tried c.if-store.false (s.kept honest) in
    c.in-Ok.ensures.bytes honest has ∙ ap (λ i. c.args.out.now.items ++ image_bytes i) (sym (image_now h s.page_size s.commit s.whole s.broken c.if-store.false))

pub returns-in-Ok-clause-went : goal.returns-in-Ok-clause-went
returns-in-Ok-clause-went g c honest =
    let s = c.args.store.now in
    moved_still (g.D.Disk.history s.disk) (g.D.Disk.history c.append_pages.new.disk) c.append_pages.ensures.rests s.page_size s.commit s.entries.items s.dropped s.broken s.whole c.if-store.false s.attempt s.tried (s.left honest)

pub returns-in-Err-clause-went : goal.returns-in-Err-clause-went
returns-in-Err-clause-went g c honest =
    let s = c.args.store.now in
    moved_still (g.D.Disk.history s.disk) (g.D.Disk.history c.append_pages.new.disk) c.append_pages.ensures.rests s.page_size s.commit s.entries.items s.dropped s.broken s.whole c.if-store.false s.attempt s.tried (s.left honest)
