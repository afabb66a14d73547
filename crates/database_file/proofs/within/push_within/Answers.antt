-- One page of the change more.
use Rattle.std.proofs.Common.{◌≡◌, ◌<◌, take, get_or, rules, arith, refl, ap, ◌∙◌, List, None}
use Rattle.std.specs.Prelude.{nat_le, if◌then◌else◌}
use Rattle.std.proofs.lemmas.List.{take_all}
use Rattle.lf_sqlite_pages.specs.Change.{PageChange, AscendsAbove, written}
use Rattle.lf_sqlite_pages.specs.declared.page_write.PageWrite.{PageWrite}
use Rattle.database_file.specs.CommitParts.{WritesTo}
use Rattle.database_file.proofs.WalLemmas.{within-none, within-next, numbers-later, above-none, element-same}
use Rattle.database_file.proofs.within.push_within.Goals as goal

pub loop-at-init : goal.loop-at-init
loop-at-init c = record {
  size = refl;
  commit = refl;
  last = rw c.requires.empty (omega arith);
  below = λ k d low inside. rw c.requires.empty
      (rw c.pages-pages.ensures.value (above-none c.args.news.now k d c.pages-pages.ensures.valid (rw c.pages-pages.ensures.value at inside)));
  writes = rw c.requires.empty (within-none c.args.count);
}

pub loop-at-preserved : goal.loop-at-preserved
loop-at-preserved c =
    let rises : AscendsAbove 0 c.pages-pages.result.now = rw c.pages-pages.ensures.value c.pages-pages.ensures.valid.ascending in
    let w : c.index-pages-at.result ≡ get_or c.pages-pages.result.now c.loop-at.at c.index-pages-at.result = search rules in
    record {
      size = ap (λ (x : PageChange). x.page_size) c.in_ok-push_one.ensures.ok ∙ c.loop-at.invariant.size;
      commit = ap (λ (x : PageChange). x.commit) c.in_ok-push_one.ensures.ok ∙ c.loop-at.invariant.commit;
      last = c.in_ok-push_one.ensures.low c.loop-at.invariant.last;
      below = λ k d low inside.
          let up : (get_or c.pages-pages.result.now c.loop-at.at d).number < (get_or c.pages-pages.result.now k d).number =
          numbers-later 0 c.pages-pages.result.now rises c.loop-at.at k d (omega (arith, low)) inside in
          let here : (get_or c.pages-pages.result.now c.loop-at.at d).number ≡ c.index-pages-at.result.number =
          element-same c.pages-pages.result.now c.loop-at.at d c.index-pages-at.result c.loop-at-test.true w in
          omega (arith, up, here, c.in_ok-push_one.ensures.last);
      writes = within-next c.pages-pages.result.now c.loop-at.at c.args.count c.loop-at.change c.push_one.new.change c.index-pages-at.result c.loop-at-test.true
          c.loop-at.invariant.writes (rw (← w) c.in_ok-push_one.ensures.ok);
    }

pub returns-clause-writes : goal.returns-clause-writes
returns-clause-writes c n =
    let writes : WritesTo (written (take c.loop-at.at c.args.news.now.pages)) c.args.count c.loop-at.change.pages =
    rw (← c.pages-pages.ensures.value) c.loop-at.invariant.writes in
    writes n
    ∙ ap (λ (ws : List PageWrite). if nat_le n c.args.count then written ws n else None)
    (take_all c.loop-at.at c.args.news.now.pages (rw (← c.pages-pages.ensures.value) c.loop-at-test.false))
