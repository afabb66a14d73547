use Rattle.std.proofs.Common.{◌≡◌, ◌∙◌, Bool, false, None, refl, sym, ap, subst}
use Rattle.lf_disk.specs.Folder.{Folder}
use Rattle.lf_disk.specs.History.{now}
use Rattle.lf_sqlite_pages.specs.Header.{image_is_wal}
use Rattle.world_laws.specs.Store.{MayBeFound}
use Rattle.txn_log.specs.Calls.{RestsAs}
use Rattle.txn_log.specs.Giving.{IsEncodingAt}
use Rattle.txn_log.specs.Store.{IsStore, image_in, state_in, state_of, failed_of}
use Rattle.txn_log.proofs.Givings.{encoding_at}
use Rattle.txn_log.proofs.Resting.{same_now, kept_rested, left_rested, mode_rested}
use Rattle.txn_log.proofs.store.Store.file.Goals as goal

pub invariant_of-self : goal.invariant_of-self
invariant_of-self g c = record {
  shaped = c.args.self.now.shaped;
  sized = c.args.self.now.sized;
  kept = λ still.
      let honest = sym c.read_file.ensures.honest ∙ still in
      let s = c.args.self.now in
      let h = g.D.Disk.history s.disk in
      let new = g.D.Disk.history c.read_file.new.disk in
      let kept : IsStore h s.page_size s.commit s.entries.items s.dropped s.sums.sums false s.whole s.tried =
      subst (λ (b : Bool). IsStore h s.page_size s.commit s.entries.items s.dropped s.sums.sums b s.whole s.tried) c.if-self.false (s.kept honest) in
      rw (c.if-self.false) (kept_rested h new c.read_file.ensures.rests s.page_size s.commit s.entries.items s.dropped s.sums.sums s.whole s.tried kept);
  left = λ still.
      let honest = sym c.read_file.ensures.honest ∙ still in
      let s = c.args.self.now in
      let h = g.D.Disk.history s.disk in
      let new = g.D.Disk.history c.read_file.new.disk in
      let left : RestsAs (MayBeFound (state_of h s.page_size s.commit s.entries.items s.dropped false s.whole) None) h =
      subst (λ (b : Bool). RestsAs (MayBeFound (state_of h s.page_size s.commit s.entries.items s.dropped b s.whole) (failed_of h b s.attempt s.tried)) h) c.if-self.false (s.left honest) in
      rw (c.if-self.false) (left_rested h new c.read_file.ensures.rests s.page_size s.commit s.entries.items s.dropped left);
  mode = λ still.
      let honest = sym c.read_file.ensures.honest ∙ still in
      let s = c.args.self.now in
      let h = g.D.Disk.history s.disk in
      let new = g.D.Disk.history c.read_file.new.disk in
      let mode : s.wal ≡ image_is_wal (image_in s.page_size s.commit (now h)) =
      subst (λ (b : Bool). s.wal ≡ image_is_wal (state_of h s.page_size s.commit s.entries.items s.dropped b s.whole).image) c.if-self.false (s.mode honest) in
      rw (c.if-self.false) (mode_rested h new c.read_file.ensures.rests s.page_size s.commit s.wal mode);
}

pub returns-clause-encoding : goal.returns-clause-encoding
returns-clause-encoding g c honest =
    let s = c.args.self.now in
    let h = g.D.Disk.history s.disk in
    let kept : IsStore h s.page_size s.commit s.entries.items s.dropped s.sums.sums false s.whole s.tried =
    subst (λ (b : Bool). IsStore h s.page_size s.commit s.entries.items s.dropped s.sums.sums b s.whole s.tried) c.if-self.false (s.kept honest) in
    subst (λ (b : Bool). IsEncodingAt (state_of h s.page_size s.commit s.entries.items s.dropped b s.whole).log c.args.at c.read_file.new.out.items) (sym c.if-self.false)
    (encoding_at s.entries.items (now h) c.args.at c.index-entry.result.now c.read_file.new.out.items kept.log.log c.requires c.index-entry.ensures (c.in_ok-read_file.ensures.bytes honest))

pub returns-clause-store : goal.returns-clause-store
returns-clause-store g c honest =
    let s = c.args.self.now in
    let h = g.D.Disk.history s.disk in
    let new = g.D.Disk.history c.read_file.new.disk in (
      subst (λ (b : Bool). state_of new s.page_size s.commit s.entries.items s.dropped b s.whole ≡ state_of h s.page_size s.commit s.entries.items s.dropped b s.whole) (sym c.if-self.false)
          (ap (λ (f : Folder). state_in s.page_size s.commit s.entries.items s.dropped f) (same_now h new c.read_file.ensures.rests)),
      subst (λ (b : Bool). failed_of new b s.attempt s.tried ≡ failed_of h b s.attempt s.tried) (sym c.if-self.false) refl,
    )
