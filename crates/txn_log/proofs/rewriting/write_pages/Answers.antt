use Rattle.std.proofs.Common.{◌≡◌, ◌+◌, ◌-◌, ◌*◌, ◌<◌, ◌≤◌, ℕ, List, [], length, take, get_or, ◌∙◌, sym, ap, subst, refl, arith}
use Rattle.std.proofs.Math.Nat.{mul-le-mul_right}
use Rattle.std.proofs.lemmas.List.{take_all}
use Rattle.lf_base.specs.FileBytes.{overwritten, written}
use Rattle.lf_disk.specs.Folder.{bytes_of}
use Rattle.lf_disk.specs.History.{now}
use Rattle.lf_disk.specs.Change.{OnFile}
use Rattle.lf_disk.specs.declared.name.FileName.TheVariants.{Database}
use Rattle.lf_disk.proofs.Stretches.{begins, joined}
use Rattle.lf_sqlite_pages.specs.declared.page_write.PageWrite.{PageWrite}
use Rattle.lf_sqlite_pages.proofs.Applying.{WritesWhole, WritesWhole-at}
use Rattle.lf_sqlite_pages.proofs.LockPages.{page_size-positive}
use Rattle.txn_log.specs.PageRun.{LeavesOut}
use Rattle.txn_log.specs.Pages.{Wears, patched}
use Rattle.txn_log.proofs.Modes.{page_size-most}
use Rattle.txn_log.proofs.PageRuns.{begins_out, page_out, patched_more}
use Rattle.txn_log.proofs.Wearing.{wears_path}
use Rattle.txn_log.proofs.rewriting.write_pages.Goals as goal

pub loop-page-init : goal.loop-page-init
loop-page-init g c =
    let change = c.args.change.now in
    let run = c.begin_run-run.ensures in
    let items : List ℕ = c.begin_run-run.result.bytes.items in
    record {
      honest = refl;
      faults = refl;
      room = omega (arith, run.0, ap length run.1);
      out = subst (λ (a : ℕ). LeavesOut change a (length items)) (sym run.0) (subst (λ (l : List ℕ). LeavesOut change 0 (length l)) (sym run.1) (begins_out change));
      moments = λ honest. begins (g.D.Disk.history c.args.disk.now) (OnFile Database (Wears change)) (wears_path change);
      seen = λ honest. ap (λ (l : List ℕ). written c.begin_run-run.result.at l (bytes_of (now (g.D.Disk.history c.args.disk.now) Database))) run.1;
      others = λ honest n other. refl;
    }

pub overflow_sub-page : goal.overflow_sub-page
overflow_sub-page g c =
    let known : WritesWhole c.args.change.now c.page-item.result =
    WritesWhole-at _ _ c.pages-page-items.ensures.valid c.pages-page-items.ensures.value c.loop-page.page-index _ c.loop-page-test.true c.page-item.is
    in
    omega (arith, known.first)

pub put_page-requires-clause-some : goal.put_page-requires-clause-some
put_page-requires-clause-some g c =
    let change = c.args.change.now in
    let valid = c.pages-page-items.ensures.valid in
    let known : WritesWhole change c.page-item.result = WritesWhole-at change _ valid c.pages-page-items.ensures.value c.loop-page.page-index _ c.loop-page-test.true c.page-item.is in
    omega (arith, ap length c.as_slice.ensures, known.whole, page_size-positive change.page_size valid.of_a_page_size)

pub returns-in_err-put_page-clause-moments : goal.returns-in_err-put_page-clause-moments
returns-in_err-put_page-clause-moments g c honest =
    let change = c.args.change.now in
    let valid = c.pages-page-items.ensures.valid in
    let w = c.page-item.result in
    let within : c.loop-page.page-index < length change.pages = rw (← c.pages-page-items.ensures.value) c.loop-page-test.true in
    let place : c.from.result * c.from-size.result ≡ (w.number - 1) * change.page_size = rw (c.from.ensures, c.from-size.ensures, c.page_size.ensures.value) refl in
    let read : w ≡ get_or change.pages c.loop-page.page-index w = c.page-item.is ∙ ap (λ (vs : List PageWrite). get_or vs c.loop-page.page-index w) c.pages-page-items.ensures.value in
    joined (g.D.Disk.history c.args.disk.now) (g.D.Disk.history c.loop-page.disk) _ (OnFile Database (Wears change)) (wears_path change) (c.loop-page.invariant.moments honest)
    (c.put_page.ensures.moments (c.loop-page.invariant.honest ∙ honest) change c.loop-page.invariant.out (page_out change w c.loop-page.page-index _ _ valid within read place c.as_slice.ensures))

pub loop-page-preserved : goal.loop-page-preserved
loop-page-preserved g c =
    let change = c.args.change.now in
    let valid = c.pages-page-items.ensures.valid in
    let w = c.page-item.result in
    let i : ℕ = c.loop-page.page-index in
    let within : i < length change.pages = rw (← c.pages-page-items.ensures.value) c.loop-page-test.true in
    let place : c.from.result * c.from-size.result ≡ (w.number - 1) * change.page_size = rw (c.from.ensures, c.from-size.ensures, c.page_size.ensures.value) refl in
    let read : w ≡ get_or change.pages i w = c.page-item.is ∙ ap (λ (vs : List PageWrite). get_or vs i w) c.pages-page-items.ensures.value in
    let known : WritesWhole change w = WritesWhole-at change _ valid c.pages-page-items.ensures.value i _ c.loop-page-test.true c.page-item.is in
    let most : change.page_size ≤ 65536 = page_size-most change.page_size valid.of_a_page_size in
    let commit : change.commit < 4294967296 = omega (arith, c.commit-commit.type_inv, c.commit-commit.ensures) in
    let far : (w.number - 1) * change.page_size ≤ 4294967296 * change.page_size = mul-le-mul_right change.page_size (let h : w.number - 1 ≤ 4294967296 = omega (arith, known.last, commit) in h) in
    let out = page_out change w i _ _ valid within read place c.as_slice.ensures in
    record {
      honest = c.put_page.ensures.honest ∙ c.loop-page.invariant.honest;
      faults = c.in_ok-put_page.ensures.cause ∙ c.loop-page.invariant.faults;
      room = omega (arith, c.in_ok-put_page.ensures.ends, place, far, most, ap length c.as_slice.ensures, known.whole);
      out = c.in_ok-put_page.ensures.out change (page_size-positive change.page_size valid.of_a_page_size) c.loop-page.invariant.out out;
      moments = λ honest.
          joined (g.D.Disk.history c.args.disk.now) (g.D.Disk.history c.loop-page.disk) _ (OnFile Database (Wears change)) (wears_path change) (c.loop-page.invariant.moments honest)
          (c.put_page.ensures.moments (c.loop-page.invariant.honest ∙ honest) change c.loop-page.invariant.out out);
      seen = λ honest.
          c.in_ok-put_page.ensures.seen (c.loop-page.invariant.honest ∙ honest)
          ∙ ap (λ (l : List ℕ). overwritten (c.from.result * c.from-size.result) c.as_slice.result.now l) (c.loop-page.invariant.seen honest)
          ∙ patched_more change.page_size _ _ change.pages i w _ within read place c.as_slice.ensures;
      others = λ honest n other. c.in_ok-put_page.ensures.others (c.loop-page.invariant.honest ∙ honest) n other ∙ c.loop-page.invariant.others honest n other;
    }

pub returns-in_err-write_run-clause-moments : goal.returns-in_err-write_run-clause-moments
returns-in_err-write_run-clause-moments g c honest =
    let change = c.args.change.now in
    joined (g.D.Disk.history c.args.disk.now) (g.D.Disk.history c.loop-page.disk) _ (OnFile Database (Wears change)) (wears_path change) (c.loop-page.invariant.moments honest)
    (c.write_run.ensures.moments (c.loop-page.invariant.honest ∙ honest) change c.loop-page.invariant.out)

pub returns-clause-moments : goal.returns-clause-moments
returns-clause-moments g c honest =
    let change = c.args.change.now in
    joined (g.D.Disk.history c.args.disk.now) (g.D.Disk.history c.loop-page.disk) _ (OnFile Database (Wears change)) (wears_path change) (c.loop-page.invariant.moments honest)
    (c.write_run.ensures.moments (c.loop-page.invariant.honest ∙ honest) change c.loop-page.invariant.out)

pub returns-clause-seen : goal.returns-clause-seen
returns-clause-seen g c honest =
    let change = c.args.change.now in
    let still = c.loop-page.invariant.honest ∙ honest in
    let all : take c.loop-page.page-index change.pages ≡ change.pages =
    take_all c.loop-page.page-index change.pages (omega (arith, c.loop-page-test.false, ap (λ (ws : List PageWrite). length ws) c.pages-page-items.ensures.value)) in
    let run = c.in_ok-write_run.ensures.seen still in
    record {
      here =
          run.here ∙ c.loop-page.invariant.seen honest
          ∙ ap (λ (ws : List PageWrite). patched change.page_size (bytes_of (now (g.D.Disk.history c.args.disk.now) Database)) ws) all;
      elsewhere = λ n other. run.elsewhere n other ∙ c.loop-page.invariant.others honest n other;
    }
