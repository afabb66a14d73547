use Rattle.std.proofs.Common.{◌≡◌, ◌≢◌, ◌∙◌, ◌-◌, ◌*◌, ℕ, Bool, false, None, Some, List, length, replicate, refl, sym, ap, subst, arith}
use Rattle.lf_base.specs.FileBytes.{read_into}
use Rattle.lf_disk.specs.Folder.{Folder, bytes_of}
use Rattle.lf_disk.specs.History.{now}
use Rattle.lf_disk.specs.declared.name.FileName.TheVariants.{Database}
use Rattle.lf_sqlite_pages.specs.Image.{page_at}
use Rattle.lf_sqlite_pages.specs.Header.{image_is_wal}
use Rattle.lf_sqlite_pages.specs.LockPage.{lock_page_of}
use Rattle.lf_sqlite_pages.proofs.LockPages.{page_size-positive}
use Rattle.world_laws.specs.Store.{MayBeFound}
use Rattle.txn_log.specs.Calls.{RestsAs}
use Rattle.txn_log.specs.Store.{IsStore, meant, image_in, state_in, state_of, failed_of}
use Rattle.txn_log.proofs.PagesRead.{reads_lock, reads_page}
use Rattle.txn_log.proofs.Resting.{same_now, kept_rested, left_rested, mode_rested}
use Rattle.txn_log.proofs.store.Store.read_page.Goals as goal

pub lock_page-requires : goal.lock_page-requires
lock_page-requires g c =
    let s = c.args.self.now in
    page_size-positive s.page_size (s.sized.pages (omega (arith, c.requires.first, c.requires.last)))

pub returns-then-n-lock_page-clause-bytes : goal.returns-then-n-lock_page-clause-bytes
returns-then-n-lock_page-clause-bytes g c =
    let s = c.args.self.now in
    let h = g.D.Disk.history s.disk in
    let f = h.seen (meant h s.broken s.whole) in
    λ honest.
    reads_lock s.page_size s.commit f c.args.n c.args.out.now c.zero.new.out c.requires.first c.requires.last (c.if-n-lock_page.true ∙ c.lock_page.ensures) c.requires.whole c.zero.ensures

pub invariant_of-self-2 : goal.invariant_of-self-2
invariant_of-self-2 g c = record {
  shaped = c.args.self.now.shaped;
  sized = c.args.self.now.sized;
  kept = λ still.
      let honest = sym c.read_at.ensures.honest ∙ still in
      let s = c.args.self.now in
      let h = g.D.Disk.history s.disk in
      let new = g.D.Disk.history c.read_at.new.disk in
      let kept : IsStore h s.page_size s.commit s.entries.items s.dropped s.sums.sums false s.whole s.tried =
      subst (λ (b : Bool). IsStore h s.page_size s.commit s.entries.items s.dropped s.sums.sums b s.whole s.tried) c.if-self.false (s.kept honest) in
      rw (c.if-self.false) (kept_rested h new c.read_at.ensures.rests s.page_size s.commit s.entries.items s.dropped s.sums.sums s.whole s.tried kept);
  left = λ still.
      let honest = sym c.read_at.ensures.honest ∙ still in
      let s = c.args.self.now in
      let h = g.D.Disk.history s.disk in
      let new = g.D.Disk.history c.read_at.new.disk in
      let left : RestsAs (MayBeFound (state_of h s.page_size s.commit s.entries.items s.dropped false s.whole) None) h =
      subst (λ (b : Bool). RestsAs (MayBeFound (state_of h s.page_size s.commit s.entries.items s.dropped b s.whole) (failed_of h b s.attempt s.tried)) h) c.if-self.false (s.left honest) in
      rw (c.if-self.false) (left_rested h new c.read_at.ensures.rests s.page_size s.commit s.entries.items s.dropped left);
  mode = λ still.
      let honest = sym c.read_at.ensures.honest ∙ still in
      let s = c.args.self.now in
      let h = g.D.Disk.history s.disk in
      let new = g.D.Disk.history c.read_at.new.disk in
      let mode : s.wal ≡ image_is_wal (image_in s.page_size s.commit (now h)) =
      subst (λ (b : Bool). s.wal ≡ image_is_wal (state_of h s.page_size s.commit s.entries.items s.dropped b s.whole).image) c.if-self.false (s.mode honest) in
      rw (c.if-self.false) (mode_rested h new c.read_at.ensures.rests s.page_size s.commit s.wal mode);
}

pub returns-clause-bytes : goal.returns-clause-bytes
returns-clause-bytes g c =
    let s = c.args.self.now in
    let h = g.D.Disk.history s.disk in
    let f = h.seen (meant h s.broken s.whole) in
    let place : c.from.result * c.from-2.result ≡ (c.args.n - 1) * s.page_size = rw (c.from.ensures, c.from-2.ensures) refl in
    let data_page : c.args.n ≢ lock_page_of s.page_size = λ same. c.if-n-lock_page.false (same ∙ sym c.lock_page.ensures) in
    λ honest.
    let bytes : List ℕ = bytes_of (now h Database) in
    let kept : IsStore h s.page_size s.commit s.entries.items s.dropped s.sums.sums false s.whole s.tried =
    subst (λ (b : Bool). IsStore h s.page_size s.commit s.entries.items s.dropped s.sums.sums b s.whole s.tried) c.if-self.false (s.kept honest) in
    let read : c.read_at.new.out ≡ read_into ((c.args.n - 1) * s.page_size) bytes (replicate (length c.args.out.now) 0) =
    c.in_ok-read_at.ensures.bytes honest ∙ ap (λ (a : ℕ). read_into a bytes (replicate (length c.args.out.now) 0)) place in
    subst (λ (b : Bool). page_at (image_in s.page_size s.commit (h.seen (meant h b s.whole))) c.args.n ≡ Some c.read_at.new.out) (sym c.if-self.false)
    (reads_page s.page_size s.commit (now h) kept.rest.shows.long c.args.n c.args.out.now c.read_at.new.out c.requires.first c.requires.last data_page c.requires.whole read)

pub returns-clause-store : goal.returns-clause-store
returns-clause-store g c honest =
    let s = c.args.self.now in
    let h = g.D.Disk.history s.disk in
    let new = g.D.Disk.history c.read_at.new.disk in (
      subst (λ (b : Bool). state_of new s.page_size s.commit s.entries.items s.dropped b s.whole ≡ state_of h s.page_size s.commit s.entries.items s.dropped b s.whole) (sym c.if-self.false)
          (ap (λ (f : Folder). state_in s.page_size s.commit s.entries.items s.dropped f) (same_now h new c.read_at.ensures.rests)),
      subst (λ (b : Bool). failed_of new b s.attempt s.tried ≡ failed_of h b s.attempt s.tried) (sym c.if-self.false) refl,
    )
