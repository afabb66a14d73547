-- One page more is the image's, or is another.
use Rattle.std.proofs.Common.{◌≡◌, ◌≤◌, get_or, rules, arith, refl, sym, ◌∙◌}
use Rattle.lf_sqlite_pages.specs.LockPage.{IsDataPage}
use Rattle.database_file.proofs.TextLemmas.{SameBase-trans}
use Rattle.database_under_log.proofs.AlterLemmas.{told-none, told-more, told-same, told-other}
use Rattle.database_under_log.proofs.ToldSteps.{write-is}
use Rattle.database_under_log.proofs.altering.writes_the_same.Goals as goal

pub loop-at-init : goal.loop-at-init
loop-at-init g c = record {
  base = record { image = refl; page_size = refl; commit = refl; wal_mode = refl; is_broken = refl };
  faults = refl;
  page_is = c.requires.whole;
  there = told-none (g.S.PageStore.image c.args.base.now) c.args.change.now;
}

pub is_there-requires-clause-first : goal.is_there-requires-clause-first
is_there-requires-clause-first g c =
    let w : c.index-pages-at.result ≡ get_or c.pages-pages.result.now c.loop-at.at c.index-pages-at.result = search rules in
    (write-is c.args.change.now c.pages-pages.result.now c.loop-at.at c.index-pages-at.result c.pages-pages.ensures.valid c.pages-pages.ensures.value c.loop-at-test.true w).first

pub is_there-requires-clause-whole : goal.is_there-requires-clause-whole
is_there-requires-clause-whole g c =
    let w : c.index-pages-at.result ≡ get_or c.pages-pages.result.now c.loop-at.at c.index-pages-at.result = search rules in
    let is = write-is c.args.change.now c.pages-pages.result.now c.loop-at.at c.index-pages-at.result c.pages-pages.ensures.valid c.pages-pages.ensures.value c.loop-at-test.true w in
    let high : c.index-pages-at.result.number ≤ c.args.change.now.commit = search rules in
    c.loop-at.invariant.page_is ∙ sym (c.requires.sized (omega (arith, is.first, high, c.requires.count))) ∙ sym c.loop-at.invariant.base.page_size

pub returns-then-not-same-clause-told : goal.returns-then-not-same-clause-told
returns-then-not-same-clause-told g c =
    let w : c.index-pages-at.result ≡ get_or c.pages-pages.result.now c.loop-at.at c.index-pages-at.result = search rules in
    let is = write-is c.args.change.now c.pages-pages.result.now c.loop-at.at c.index-pages-at.result c.pages-pages.ensures.valid c.pages-pages.ensures.value c.loop-at-test.true w in
    let high : c.index-pages-at.result.number ≤ c.args.change.now.commit = search rules in
    let data_page : IsDataPage c.args.change.now.page_size c.index-pages-at.result.number = search rules in
    told-other (g.S.PageStore.image c.args.base.now) (g.S.PageStore.image c.loop-at.base) c.args.change.now c.loop-at.at c.index-pages-at.result c.in_ok-same.same c.loop-at.invariant.base.image is high data_page
    (search rules) (search rules)

pub loop-at-preserved : goal.loop-at-preserved
loop-at-preserved g c =
    let w : c.index-pages-at.result ≡ get_or c.pages-pages.result.now c.loop-at.at c.index-pages-at.result = search rules in
    let is = write-is c.args.change.now c.pages-pages.result.now c.loop-at.at c.index-pages-at.result c.pages-pages.ensures.valid c.pages-pages.ensures.value c.loop-at-test.true w in
    record {
      base = SameBase-trans c.loop-at.invariant.base c.in_ok-same.ensures.base;
      faults = search rules;
      page_is = search rules;
      there = told-more (g.S.PageStore.image c.args.base.now) (g.S.PageStore.image c.loop-at.base) c.args.change.now c.loop-at.at c.index-pages-at.result c.in_ok-same.same c.loop-at.invariant.base.image is
          (search rules) (search rules) c.loop-at.invariant.there;
    }

pub returns-clause-told : goal.returns-clause-told
returns-clause-told g c =
    told-same (g.S.PageStore.image c.args.base.now) c.args.change.now (g.S.PageStore.page_size c.args.base.now) (g.S.PageStore.commit c.args.base.now) c.loop-at.at c.sound_store.ensures.valid
    c.sound_store.ensures.page_size c.sound_store.ensures.commit c.requires.count c.requires.sized
    (rw (← c.pages-pages.ensures.value) c.loop-at-test.false) c.loop-at.invariant.there
