use Rattle.std.proofs.Common.{◌≡◌, ◌≢◌, ◌+◌, ◌≤◌, ℕ, List, refl, sym, ◌∙◌, ap, subst, arith}
use Rattle.lf_disk.specs.Folder.{Folder}
use Rattle.lf_disk.specs.History.{now}
use Rattle.lf_sqlite_pages.specs.Image.{DatabaseImage}
use Rattle.lf_sqlite_pages.specs.LockPage.{lock_page_of}
use Rattle.lf_sqlite_pages.specs.Change.{with_page}
use Rattle.std.specs.Prelude.{if◌then◌else◌}
use Rattle.database_file.specs.Commit.{has_page}
use Rattle.txn_log.specs.Pages.{in_place}
use Rattle.txn_log.specs.Store.{image_in}
use Rattle.txn_log.proofs.Resting.{same_now}
use Rattle.snapshot.specs.Bytes.{image_of_pages}
use Rattle.snapshot.specs.Pages.{HasPages}
use Rattle.snapshot.proofs.ExportLemmas.{rests_twice, rests_still}
use Rattle.snapshot.proofs.ImportLemmas.{length_of, page_there, writes_lock, compared, all_compared, none_compared}
use Rattle.snapshot.proofs.comparing.push_all.Goals as goal

pub loop-number-init : goal.loop-number-init
loop-number-init g c = record {
  within = omega arith;
  size = refl;
  commit = refl;
  last = rw c.requires.empty (omega arith);
  room = c.requires.room;
  pages = λ honest has. c.requires.empty ∙ none_compared (image_in c.args.page_size c.args.commit (now (g.D.Disk.history c.args.disk.now))) (image_of_pages c.args.change.now.page_size c.args.change.now.commit c.args.bytes.now);
  rests = rests_still (g.D.Disk.history c.args.disk.now);
  honest = refl;
  faults = refl;
}

pub loop-number-preserved-in-Ok : goal.loop-number-preserved-in-Ok
loop-number-preserved-in-Ok g c =
    let size = c.args.change.now.page_size in
    let pages = c.args.change.now.commit in
    let k = c.loop-number.number in
    let h = g.D.Disk.history c.args.disk.now in
    let mid = g.D.Disk.history c.loop-number.disk in
    let image : DatabaseImage = image_in c.args.page_size c.args.commit (now h) in
    let other : DatabaseImage = image_of_pages size pages c.args.bytes.now in
    let more : k + 1 ≤ pages = omega (arith, c.loop-number-test.true, c.commit-count.ensures) in
    let same = same_now h mid c.loop-number.invariant.rests in
    let is_data : k + 1 ≢ lock_page_of size = λ is. c.if-number-lock_page.true (is ∙ sym (c.lock_page.ensures ∙ ap lock_page_of c.page_size-size.ensures.value)) in
    record {
      within = omega (arith, c.loop-number-test.true);
      size = c.in-Ok.ensures.shape.0 ∙ c.loop-number.invariant.size;
      commit = c.in-Ok.ensures.shape.1 ∙ c.loop-number.invariant.commit;
      last = c.in-Ok.ensures.shape.2;
      room = c.push_changed.ensures.length ∙ c.loop-number.invariant.room;
      pages = λ honest has.
          let has_mid : HasPages c.args.page_size c.args.commit (now mid) = subst (λ (f : Folder). HasPages c.args.page_size c.args.commit f) (sym same) has in
          let page : List ℕ = in_place size (k + 1) c.args.bytes.now in
          let page_is : c.page_of.result.now ≡ page = c.page_of.ensures.value ∙ ap (λ (s : ℕ). in_place s (k + 1) c.args.bytes.now) c.page_size-size.ensures.value in
          let step = c.in-Ok.ensures.pushed (c.loop-number.invariant.honest ∙ honest) has_mid in
          let step_here = subst (λ (f : Folder). c.push_changed.new.change ≡ (if has_page (image_in c.args.page_size c.args.commit f) (k + 1) c.page_of.result.now then c.loop-number.change else with_page c.loop-number.change (k + 1) c.page_of.result.now)) same step in
          let step_page = subst (λ (p : List ℕ). c.push_changed.new.change ≡ (if has_page image (k + 1) p then c.loop-number.change else with_page c.loop-number.change (k + 1) p)) page_is step_here in
          compared image other k page c.loop-number.change c.push_changed.new.change is_data (page_there size pages (k + 1) c.args.bytes.now (omega arith) more is_data)
          (c.loop-number.invariant.pages honest has) step_page;
      rests = rests_twice h mid _ c.loop-number.invariant.rests c.push_changed.ensures.rests;
      honest = c.push_changed.ensures.honest ∙ c.loop-number.invariant.honest;
      faults = c.in-Ok.ensures.cause ∙ c.loop-number.invariant.faults;
    }

pub loop-number-preserved : goal.loop-number-preserved
loop-number-preserved g c =
    let size = c.args.change.now.page_size in
    let k = c.loop-number.number in
    let is : k + 1 ≡ lock_page_of size = c.if-number-lock_page.false ∙ c.lock_page.ensures ∙ ap lock_page_of c.page_size-size.ensures.value in
    record {
      within = omega (arith, c.loop-number-test.true);
      size = c.loop-number.invariant.size;
      commit = c.loop-number.invariant.commit;
      last = omega (arith, c.loop-number.invariant.last);
      room = c.loop-number.invariant.room;
      pages = λ honest has. c.loop-number.invariant.pages honest has ∙ sym (writes_lock (image_in c.args.page_size c.args.commit (now (g.D.Disk.history c.args.disk.now))) (image_of_pages size c.args.change.now.commit c.args.bytes.now) k is);
      rests = c.loop-number.invariant.rests;
      honest = c.loop-number.invariant.honest;
      faults = c.loop-number.invariant.faults;
    }

pub returns-clause-pushed : goal.returns-clause-pushed
returns-clause-pushed g c honest has =
    let size = c.args.change.now.page_size in
    let pages = c.args.change.now.commit in
    let other : DatabaseImage = image_of_pages size pages c.args.bytes.now in
    let long = length_of size pages c.args.bytes.now in
    all_compared (image_in c.args.page_size c.args.commit (now (g.D.Disk.history c.args.disk.now))) other c.loop-number.number c.loop-number.change
    c.loop-number.invariant.size (c.loop-number.invariant.commit ∙ sym long)
    (omega (arith, c.loop-number-test.false, c.loop-number.invariant.within, c.commit-count.ensures, long)) (c.loop-number.invariant.pages honest has)
