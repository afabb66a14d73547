use Rattle.std.proofs.Common.{◌≡◌, ◌≢◌, ◌+◌, ◌≤◌, ℕ, List, [], IsTrue, length, refl, sym, ◌∙◌, ap, subst, arith}
use Rattle.std.specs.Io.KnownBytes.{Appends}
use Rattle.std.proofs.KnownBytes.{Appends-nil}
use Rattle.page_checksum.specs.Crc.{after_bytes}
use Rattle.lf_disk.specs.Folder.{Folder}
use Rattle.lf_disk.specs.History.{now}
use Rattle.lf_sqlite_pages.specs.Image.{DatabaseImage}
use Rattle.lf_sqlite_pages.specs.LockPage.{lock_page_of}
use Rattle.txn_log.specs.Store.{image_in}
use Rattle.txn_log.proofs.PagesRead.{count}
use Rattle.txn_log.proofs.Resting.{same_now}
use Rattle.snapshot.specs.Output.{AppendsPrefix}
use Rattle.snapshot.specs.Pages.{HasPages}
use Rattle.snapshot.proofs.ExportLemmas.{rests_twice, rests_still}
use Rattle.snapshot.proofs.WriteLemmas.{encoding_to, encoding-lock, encoding_to-none, took_page, register_page, prefix_within, some_more, Wrote, WrotePrefix, image_same}
use Rattle.snapshot.proofs.writing.write_pages.Goals as goal

pub loop-number-init : goal.loop-number-init
loop-number-init g c =
    let image : DatabaseImage = image_in (length c.args.page.now) c.args.commit (now (g.D.Disk.history c.args.disk.now)) in
    record {
      within = omega arith;
      size = refl;
      taken = λ honest has. subst (λ (l : List ℕ). Appends (g.K.Sink.taken c.args.sink.now) (g.K.Sink.taken c.args.sink.now) l) (sym (encoding_to-none image)) (Appends-nil (g.K.Sink.taken c.args.sink.now));
      register = λ honest has. ap (after_bytes c.args.register) (sym (encoding_to-none image));
      grows = ([], Appends-nil (g.K.Sink.taken c.args.sink.now));
      rests = rests_still (g.D.Disk.history c.args.disk.now);
      honest = refl;
      faults = refl;
      sink_faults = refl;
    }

-- a data page was written
pub loop-number-preserved-in-Ok : goal.loop-number-preserved-in-Ok
loop-number-preserved-in-Ok g c =
    let size = length c.args.page.now in
    let commit = c.args.commit in
    let k = c.loop-number.number in
    let h = g.D.Disk.history c.args.disk.now in
    let mid = g.D.Disk.history c.loop-number.disk in
    let image : DatabaseImage = image_in size commit (now h) in
    let more : k + 1 ≤ commit = omega (arith, c.loop-number-test.true) in
    let same = same_now h mid c.loop-number.invariant.rests in
    let is_data : k + 1 ≢ lock_page_of size =
    λ is. c.if-number-lock_page.true (is ∙ sym (c.lock_page.ensures ∙ ap lock_page_of c.loop-number.invariant.size)) in
    let a = g.K.Sink.taken c.args.sink.now in
    let b = g.K.Sink.taken c.loop-number.sink in
    let z = g.K.Sink.taken c.copy_page.new.sink in
    let step : IsTrue (g.D.Disk.honest c.args.disk.now) → HasPages size commit (now h) → Wrote image (k + 1) c.loop-number.register b z c.in-Ok.after =
    λ honest has.
    let has_mid : HasPages (length c.loop-number.page) commit (now mid) =
    subst (λ (s : ℕ). HasPages s commit (now mid)) (sym c.loop-number.invariant.size) (subst (λ (f : Folder). HasPages size commit f) (sym same) has) in
    subst (λ (i : DatabaseImage). Wrote i (k + 1) c.loop-number.register b z c.in-Ok.after)
    (image_same (length c.loop-number.page) size commit (now mid) (now h) c.loop-number.invariant.size same)
    (c.in-Ok.ensures.written (c.loop-number.invariant.honest ∙ honest) commit more has_mid)
    in
    record {
      within = more;
      size = c.copy_page.ensures.length ∙ c.loop-number.invariant.size;
      taken = λ honest has.
          let it = step honest has in
          took_page image k it.0 a b z is_data it.1 (c.loop-number.invariant.taken honest has) it.2;
      register = λ honest has.
          let it = step honest has in
          register_page image k c.args.register c.loop-number.register c.in-Ok.after it.0 is_data it.1 (c.loop-number.invariant.register honest has) it.3;
      grows = some_more _ _ _ c.loop-number.invariant.grows c.copy_page.ensures.grows;
      rests = rests_twice h mid _ c.loop-number.invariant.rests c.copy_page.ensures.rests;
      honest = c.copy_page.ensures.honest ∙ c.loop-number.invariant.honest;
      faults = c.in-Ok.ensures.cause.1 ∙ c.loop-number.invariant.faults;
      sink_faults = c.in-Ok.ensures.cause.2 ∙ c.loop-number.invariant.sink_faults;
    }

-- the lock page is passed over
pub loop-number-preserved : goal.loop-number-preserved
loop-number-preserved g c =
    let size = length c.args.page.now in
    let commit = c.args.commit in
    let k = c.loop-number.number in
    let h = g.D.Disk.history c.args.disk.now in
    let image : DatabaseImage = image_in size commit (now h) in
    let is : k + 1 ≡ lock_page_of size = c.if-number-lock_page.false ∙ c.lock_page.ensures ∙ ap lock_page_of c.loop-number.invariant.size in
    record {
      within = omega (arith, c.loop-number-test.true);
      size = c.loop-number.invariant.size;
      taken = λ honest has. subst (λ (l : List ℕ). Appends (g.K.Sink.taken c.args.sink.now) (g.K.Sink.taken c.loop-number.sink) l) (sym (encoding-lock image k is)) (c.loop-number.invariant.taken honest has);
      register = λ honest has. c.loop-number.invariant.register honest has ∙ ap (after_bytes c.args.register) (sym (encoding-lock image k is));
      grows = c.loop-number.invariant.grows;
      rests = c.loop-number.invariant.rests;
      honest = c.loop-number.invariant.honest;
      faults = c.loop-number.invariant.faults;
      sink_faults = c.loop-number.invariant.sink_faults;
    }

pub returns-in-Err-clause-grows : goal.returns-in-Err-clause-grows
returns-in-Err-clause-grows g c = some_more _ _ _ c.loop-number.invariant.grows c.copy_page.ensures.grows

pub returns-in-Err-clause-prefix : goal.returns-in-Err-clause-prefix
returns-in-Err-clause-prefix g c honest has =
    let size = length c.args.page.now in
    let commit = c.args.commit in
    let k = c.loop-number.number in
    let h = g.D.Disk.history c.args.disk.now in
    let mid = g.D.Disk.history c.loop-number.disk in
    let image : DatabaseImage = image_in size commit (now h) in
    let more : k + 1 ≤ commit = omega (arith, c.loop-number-test.true) in
    let same = same_now h mid c.loop-number.invariant.rests in
    let is_data : k + 1 ≢ lock_page_of size =
    λ is. c.if-number-lock_page.true (is ∙ sym (c.lock_page.ensures ∙ ap lock_page_of c.loop-number.invariant.size)) in
    let a = g.K.Sink.taken c.args.sink.now in
    let b = g.K.Sink.taken c.loop-number.sink in
    let z = g.K.Sink.taken c.copy_page.new.sink in
    let has_mid : HasPages (length c.loop-number.page) commit (now mid) =
    subst (λ (s : ℕ). HasPages s commit (now mid)) (sym c.loop-number.invariant.size) (subst (λ (f : Folder). HasPages size commit f) (sym same) has) in
    let it : WrotePrefix image (k + 1) b z =
    subst (λ (i : DatabaseImage). WrotePrefix i (k + 1) b z)
    (image_same (length c.loop-number.page) size commit (now mid) (now h) c.loop-number.invariant.size same)
    (c.in-Err.ensures.written (c.loop-number.invariant.honest ∙ honest) commit more has_mid) in
    subst (λ (n : ℕ). AppendsPrefix a z (encoding_to image n)) (sym (count size commit (now h)))
    (prefix_within image k commit it.0 a b z more is_data it.1 (c.loop-number.invariant.taken honest has) it.2)

pub returns-clause-whole : goal.returns-clause-whole
returns-clause-whole g c honest has =
    let image : DatabaseImage = image_in (length c.args.page.now) c.args.commit (now (g.D.Disk.history c.args.disk.now)) in
    let all : c.loop-number.number ≡ length image.pages =
    omega (arith, c.loop-number-test.false, c.loop-number.invariant.within, count (length c.args.page.now) c.args.commit (now (g.D.Disk.history c.args.disk.now))) in
    subst (λ (n : ℕ). Appends (g.K.Sink.taken c.args.sink.now) (g.K.Sink.taken c.loop-number.sink) (encoding_to image n)) all (c.loop-number.invariant.taken honest has)

pub returns-clause-register : goal.returns-clause-register
returns-clause-register g c honest has =
    let image : DatabaseImage = image_in (length c.args.page.now) c.args.commit (now (g.D.Disk.history c.args.disk.now)) in
    let all : c.loop-number.number ≡ length image.pages =
    omega (arith, c.loop-number-test.false, c.loop-number.invariant.within, count (length c.args.page.now) c.args.commit (now (g.D.Disk.history c.args.disk.now))) in
    subst (λ (n : ℕ). c.loop-number.register ≡ after_bytes c.args.register (encoding_to image n)) all (c.loop-number.invariant.register honest has)
