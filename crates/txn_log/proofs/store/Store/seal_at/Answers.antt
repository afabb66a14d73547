use Rattle.std.proofs.Common.{◌≡◌, ◌∙◌, ◌≤◌, Bool, false, None, length, get_or, sym, ap, subst}
use Rattle.std.proofs.lemmas.List.{get_or_default}
use Rattle.lf_disk.specs.declared.name.FileName.TheVariants.{Ltx as LtxName}
use Rattle.lf_disk.specs.Folder.{bytes_of}
use Rattle.lf_disk.specs.History.{now}
use Rattle.lf_sqlite_pages.specs.Header.{image_is_wal}
use Rattle.world_laws.specs.Store.{MayBeFound}
use Rattle.txn_log.specs.declared.entry.Entry.{Entry}
use Rattle.txn_log.specs.Calls.{RestsAs}
use Rattle.txn_log.specs.Fields.{fields_of}
use Rattle.txn_log.specs.LastFile.{seal_under}
use Rattle.txn_log.specs.Store.{IsStore, image_in, state_of, failed_of}
use Rattle.txn_log.proofs.Resting.{kept_rested, left_rested, mode_rested}
use Rattle.txn_log.proofs.Seals.{entry_long, looked_read}
use Rattle.txn_log.proofs.store.Store.seal_at.Goals as goal

pub invariant_of-self : goal.invariant_of-self
invariant_of-self g c = record {
  shaped = c.args.self.now.shaped;
  sized = c.args.self.now.sized;
  kept = λ still.
      let honest = sym c.read_seal.ensures.honest ∙ still in
      let s = c.args.self.now in
      let h = g.D.Disk.history s.disk in
      let new = g.D.Disk.history c.read_seal.new.disk in
      let kept : IsStore h s.page_size s.commit s.entries.items s.dropped s.sums.sums false s.whole s.tried =
      subst (λ (b : Bool). IsStore h s.page_size s.commit s.entries.items s.dropped s.sums.sums b s.whole s.tried) c.if-self.false (s.kept honest) in
      rw (c.if-self.false) (kept_rested h new c.read_seal.ensures.rests s.page_size s.commit s.entries.items s.dropped s.sums.sums s.whole s.tried kept);
  left = λ still.
      let honest = sym c.read_seal.ensures.honest ∙ still in
      let s = c.args.self.now in
      let h = g.D.Disk.history s.disk in
      let new = g.D.Disk.history c.read_seal.new.disk in
      let left : RestsAs (MayBeFound (state_of h s.page_size s.commit s.entries.items s.dropped false s.whole) None) h =
      subst (λ (b : Bool). RestsAs (MayBeFound (state_of h s.page_size s.commit s.entries.items s.dropped b s.whole) (failed_of h b s.attempt s.tried)) h) c.if-self.false (s.left honest) in
      rw (c.if-self.false) (left_rested h new c.read_seal.ensures.rests s.page_size s.commit s.entries.items s.dropped left);
  mode = λ still.
      let honest = sym c.read_seal.ensures.honest ∙ still in
      let s = c.args.self.now in
      let h = g.D.Disk.history s.disk in
      let new = g.D.Disk.history c.read_seal.new.disk in
      let mode : s.wal ≡ image_is_wal (image_in s.page_size s.commit (now h)) =
      subst (λ (b : Bool). s.wal ≡ image_is_wal (state_of h s.page_size s.commit s.entries.items s.dropped b s.whole).image) c.if-self.false (s.mode honest) in
      rw (c.if-self.false) (mode_rested h new c.read_seal.ensures.rests s.page_size s.commit s.wal mode);
}

pub returns-in-Ok-clause-seal : goal.returns-in-Ok-clause-seal
returns-in-Ok-clause-seal g c honest d =
    let s = c.args.self.now in
    let h = g.D.Disk.history s.disk in
    let e = c.index-entry.result.now in
    let kept : IsStore h s.page_size s.commit s.entries.items s.dropped s.sums.sums false s.whole s.tried =
    subst (λ (b : Bool). IsStore h s.page_size s.commit s.entries.items s.dropped s.sums.sums b s.whole s.tried) c.if-self.false (s.kept honest) in
    let long : 8 ≤ length (bytes_of (now h (LtxName e.min e.max))) = entry_long s.entries.items (now h) c.args.at e kept.log.log c.requires c.index-entry.ensures in
    let same : e ≡ get_or s.entries.items c.args.at d = c.index-entry.ensures ∙ get_or_default s.entries.items c.args.at e d c.requires in
    c.in-Ok.ensures.seal honest long ∙ ap (λ (x : Entry). seal_under (now h) x.min x.max) same

pub returns-in-Ok-clause-looked : goal.returns-in-Ok-clause-looked
returns-in-Ok-clause-looked g c =
    let s = c.args.self.now in
    looked_read (g.D.Disk.history s.disk) (g.D.Disk.history c.read_seal.new.disk) (fields_of s) (g.D.Disk.faults c.read_seal.new.disk) (g.D.Disk.honest c.read_seal.new.disk) c.read_seal.ensures.honest c.read_seal.ensures.rests c.if-self.false

pub returns-in-Err-clause-looked : goal.returns-in-Err-clause-looked
returns-in-Err-clause-looked g c =
    let s = c.args.self.now in
    looked_read (g.D.Disk.history s.disk) (g.D.Disk.history c.read_seal.new.disk) (fields_of s) (g.D.Disk.faults c.read_seal.new.disk) (g.D.Disk.honest c.read_seal.new.disk) c.read_seal.ensures.honest c.read_seal.ensures.rests c.if-self.false
