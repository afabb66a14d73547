use Rattle.std.proofs.Common.{◌≡◌, ◌<◌, ◌≤◌, ◌∙◌, ℕ, List, length, get_or, ap, subst, arith}
use Rattle.lf_disk.specs.declared.name.FileName.TheVariants.{Staged}
use Rattle.lf_disk.specs.Folder.{SameBut}
use Rattle.lf_disk.proofs.Moments.{joined}
use Rattle.lf_sqlite_pages.specs.declared.page_write.PageWrite.{PageWrite}
use Rattle.lf_sqlite_pages.proofs.Applying.{WritesWhole, WritesWhole-at}
use Rattle.txn_log.specs.Staging.{HasGathered}
use Rattle.txn_log.proofs.Gatherings.{pages_encoding-next, pages_register-next, pages_most}
use Rattle.txn_log.proofs.Modes.{page_size-most}
use Rattle.txn_log.proofs.file_staging.gather_pages.Goals as goal

pub gather_page-requires : goal.gather_page-requires
gather_page-requires g c =
    let change = c.args.change.now in
    let valid = c.pages-page-items.ensures.valid in
    let within : c.loop-page.page-index < length change.pages = rw (← c.pages-page-items.ensures.value) c.loop-page-test.true in
    let known : WritesWhole change c.page-item.result = WritesWhole-at change _ valid c.pages-page-items.ensures.value c.loop-page.page-index _ c.loop-page-test.true c.page-item.is in
    let commit : change.commit < 4294967296 = omega (arith, c.commit-commit.type_inv, c.commit-commit.ensures) in
    omega (arith, c.loop-page.invariant.room, ap length c.as_slice.ensures, known.whole, page_size-most change.page_size valid.of_a_page_size, pages_most change valid, within, commit)

pub returns-in_err-gather_page-clause-moments : goal.returns-in_err-gather_page-clause-moments
returns-in_err-gather_page-clause-moments g c honest before encoding so_far =
    joined _ (g.D.Disk.history c.loop-page.disk) _ (SameBut Staged before) (c.loop-page.invariant.moments honest before encoding so_far)
    (c.gather_page.ensures.moments (c.loop-page.invariant.honest ∙ honest) before _ (c.loop-page.invariant.gathers honest before encoding so_far))

pub loop-page-preserved : goal.loop-page-preserved
loop-page-preserved g c =
    let change = c.args.change.now in
    let w = c.page-item.result in
    let valid = c.pages-page-items.ensures.valid in
    let within : c.loop-page.page-index < length change.pages = rw (← c.pages-page-items.ensures.value) c.loop-page-test.true in
    let read : w ≡ get_or change.pages c.loop-page.page-index w = c.page-item.is ∙ ap (λ (vs : List PageWrite). get_or vs c.loop-page.page-index w) c.pages-page-items.ensures.value in
    let known : WritesWhole change w = WritesWhole-at change _ valid c.pages-page-items.ensures.value c.loop-page.page-index _ c.loop-page-test.true c.page-item.is in
    record {
      honest = c.gather_page.ensures.honest ∙ c.loop-page.invariant.honest;
      faults = c.in_ok-gather_page.ensures.cause ∙ c.loop-page.invariant.faults;
      room = omega (arith, c.loop-page.invariant.room, c.in_ok-gather_page.ensures.counts, ap length c.as_slice.ensures, known.whole, page_size-most change.page_size valid.of_a_page_size);
      register = pages_register-next c.args.gathering.now.register c.loop-page.gathering.register _ _ change.pages c.loop-page.page-index w within read c.as_slice.ensures c.loop-page.invariant.register c.in_ok-gather_page.ensures.register;
      moments = λ honest before encoding so_far.
          joined _ (g.D.Disk.history c.loop-page.disk) _ (SameBut Staged before) (c.loop-page.invariant.moments honest before encoding so_far)
          (c.gather_page.ensures.moments (c.loop-page.invariant.honest ∙ honest) before _ (c.loop-page.invariant.gathers honest before encoding so_far));
      gathers = λ honest before encoding so_far.
          subst (λ (l : List ℕ). HasGathered before c.gather_page.new.gathering.at c.gather_page.new.gathering.gathered.items l (g.D.Disk.history c.gather_page.new.disk))
          (pages_encoding-next encoding _ change.pages c.loop-page.page-index w within read c.as_slice.ensures)
          (c.in_ok-gather_page.ensures.gathers (c.loop-page.invariant.honest ∙ honest) before _ (c.loop-page.invariant.gathers honest before encoding so_far));
    }

pub returns-clause-counts : goal.returns-clause-counts
returns-clause-counts g c =
    let change = c.args.change.now in
    let commit : change.commit < 4294967296 = omega (arith, c.commit-commit.type_inv, c.commit-commit.ensures) in
    omega (arith, c.loop-page.invariant.room, c.loop-page.auto.page-index-end, ap (λ (ws : List PageWrite). length ws) c.pages-page-items.ensures.value, pages_most change c.pages-page-items.ensures.valid, commit)
