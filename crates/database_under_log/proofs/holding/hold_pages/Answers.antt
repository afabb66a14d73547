-- One page more is noted, or passed over.
use Rattle.std.proofs.Common.{◌≡◌, ◌≤◌, ◌<◌, ◌+◌, ℕ, List, [], length, get_or, rules, arith, refl, sym, ap, ◌∙◌, subst, Option, Some, None, unwrap_or, if◌then◌else◌}
use Rattle.std.specs.Prelude.{IfSome, ◌==◌}
use Rattle.lf_sqlite_pages.specs.Image.{DatabaseImage}
use Rattle.lf_sqlite_pages.specs.LockPage.{lock_page_of, IsDataPage}
use Rattle.lf_sqlite_pages.specs.Change.{AscendsAbove}
use Rattle.lf_sqlite_pages.specs.declared.page_write.PageWrite.{PageWrite}
use Rattle.lf_sqlite_pages.proofs.LockPages.{page_size-positive}
use Rattle.database_file.specs.DatabaseFile.{size_over, count_over}
use Rattle.database_file.proofs.TextLemmas.{SameBase-trans}
use Rattle.database_file.proofs.WalLemmas.{numbers-later, element-same}
use Rattle.database_under_log.specs.HoldingParts.{AreBelow, IsNoted, is_left}
use Rattle.database_under_log.proofs.HoldLemmas.{back-none}
use Rattle.database_under_log.proofs.HoldingSteps.{noted-fits, below-same}
use Rattle.database_under_log.proofs.ToldSteps.{write-is, told-start, told-by-more, told-by-past, told-by-all, told-to-more, told-to-lock, told-end}
use Rattle.database_under_log.proofs.holding.hold_pages.Goals as goal
use Rattle.database_under_log.proofs.holding.hold_pages.Goals.{then-write-count+in_ok-hold, else-write-count, then-before-lock_page+in_ok-hold-2, else-before-lock_page}

none-below : (ns : List ℕ) (limit : ℕ) → ns ≡ [] → AreBelow ns limit
none-below ns limit none = subst (λ (l : List ℕ). AreBelow l limit) (sym none) (λ n on. absurd cc)

up-one : (ns : List ℕ) (limit : ℕ) → AreBelow ns limit → AreBelow ns (limit + 1)
up-one ns limit below n on = let less = below n on in omega (arith, less)

pub lock_page-lock_page-requires : goal.lock_page-lock_page-requires
lock_page-lock_page-requires g c = page_size-positive c.page_size.result c.page_size.ensures.sqlite

pub loop-at-init : goal.loop-at-init
loop-at-init g c = record {
  base = record { image = refl; page_size = refl; commit = refl; wal_mode = refl; is_broken = refl };
  faults = refl;
  page = c.requires.whole;
  page_size = refl;
  count_is = refl;
  back = rw c.requires.added (back-none c.args.file.now.kept);
  fits = c.requires.fits;
  low = λ k d low inside. none-below c.args.held.now.same.items _ c.requires.same;
  few = none-below c.args.held.now.same.items _ c.requires.same;
  told = told-start (g.S.PageStore.image c.args.base.now) c.args.file.now c.args.held.now.same.items c.args.change.now (g.S.PageStore.page_size c.args.base.now) (g.S.PageStore.commit c.args.base.now)
      c.requires.same c.requires.fits (c.sound_store.ensures.page_size) (rw (← c.commit-commit.ensures.value) c.commit-commit.ensures.told)
      c.commit-commit.ensures.valid c.requires.sized c.requires.complete;
}

pub hold-requires-clause-first : goal.hold-requires-clause-first
hold-requires-clause-first g c =
    let w : c.index-pages-at.result ≡ get_or c.pages-pages.result.now c.loop-at.at c.index-pages-at.result = search rules in
    (write-is c.args.change.now c.pages-pages.result.now c.loop-at.at c.index-pages-at.result c.pages-pages.ensures.valid c.pages-pages.ensures.value c.loop-at-test.true w).first

pub hold-requires-clause-whole : goal.hold-requires-clause-whole
hold-requires-clause-whole g c =
    let w : c.index-pages-at.result ≡ get_or c.pages-pages.result.now c.loop-at.at c.index-pages-at.result = search rules in
    let is = write-is c.args.change.now c.pages-pages.result.now c.loop-at.at c.index-pages-at.result c.pages-pages.ensures.valid c.pages-pages.ensures.value c.loop-at-test.true w in
    let count : c.count_over-count.result ≡ count_over c.args.file.now (g.S.PageStore.commit c.args.base.now) = search rules in
    let some : 0 < count_over c.args.file.now (g.S.PageStore.commit c.args.base.now) = omega (arith, count, is.first, c.if-write-count.true) in
    c.loop-at.invariant.page ∙ sym (c.requires.sized some)
    ∙ sym (rw (c.loop-at.invariant.base.page_size, c.loop-at.invariant.base.commit, c.loop-at.invariant.page_size) refl)

pub loop-at-preserved : goal.loop-at-preserved
loop-at-preserved g c =
    let ws : c.index-pages-at.result ≡ get_or c.pages-pages.result.now c.loop-at.at c.index-pages-at.result = search rules in
    let is = write-is c.args.change.now c.pages-pages.result.now c.loop-at.at c.index-pages-at.result c.pages-pages.ensures.valid c.pages-pages.ensures.value c.loop-at-test.true ws in
    let rises : AscendsAbove 0 c.pages-pages.result.now = rw c.pages-pages.ensures.value c.pages-pages.ensures.valid.ascending in
    let data_page : IsDataPage c.args.change.now.page_size c.index-pages-at.result.number = search rules in
    let high : c.index-pages-at.result.number ≤ c.args.change.now.commit = search rules in
    let count : c.count_over-count.result ≡ count_over c.args.file.now (g.S.PageStore.commit c.args.base.now) = search rules in
    let told : IfSome (g.S.PageStore.image c.args.base.now) (λ (i : DatabaseImage). g.S.PageStore.commit c.args.base.now ≡ length i.pages) = rw (← c.commit-commit.ensures.value) c.commit-commit.ensures.told in
    let here : (d : PageWrite) → (get_or c.pages-pages.result.now c.loop-at.at d).number ≡ c.index-pages-at.result.number =
    λ d. element-same c.pages-pages.result.now c.loop-at.at d c.index-pages-at.result c.loop-at-test.true ws in
    let own : AreBelow c.loop-at.held.same.items c.index-pages-at.result.number =
    rw (← here c.index-pages-at.result) (c.loop-at.invariant.low c.loop-at.at c.index-pages-at.result (omega arith) c.loop-at-test.true) in
    elim c.if-write-count.branch [
      | then-write-count+in_ok-hold w ↦
          let some : 0 < count_over c.args.file.now (g.S.PageStore.commit c.args.base.now) = omega (arith, count, is.first, w.if-write-count.true) in
          let size : size_over c.loop-at.file (g.S.PageStore.page_size c.args.base.now) (g.S.PageStore.commit c.args.base.now) ≡ c.args.change.now.page_size =
          ap (λ (s : ℕ). if g.S.PageStore.commit c.args.base.now == 0 then s else g.S.PageStore.page_size c.args.base.now) c.loop-at.invariant.page_size ∙ c.requires.sized some in
          let many : count_over c.loop-at.file (g.S.PageStore.commit c.args.base.now) ≡ count_over c.args.file.now (g.S.PageStore.commit c.args.base.now) =
          ap (λ (o : Option ℕ). unwrap_or o (g.S.PageStore.commit c.args.base.now)) c.loop-at.invariant.count_is in
          let long : length w.hold.new.page ≡ c.args.change.now.page_size = search rules in
          let noted : IsNoted c.loop-at.file c.loop-at.held c.index-pages-at.result.number w.hold.new.page (is_left (Some c.index-pages-at.result.bytes) w.hold.new.page) w.hold.new.file w.hold.new.held =
          search rules in
          rw (w.file-is, w.base-is, w.held-is, w.page-is) (record {
            base = SameBase-trans c.loop-at.invariant.base w.in_ok-hold.ensures.base;
            faults = w.in_ok-hold.ensures.faults ∙ c.loop-at.invariant.faults;
            page = long;
            page_size = w.in_ok-hold.ensures.shape.0 ∙ c.loop-at.invariant.page_size;
            count_is = w.in_ok-hold.ensures.shape.1 ∙ c.loop-at.invariant.count_is;
            back = w.in_ok-hold.ensures.back c.args.file.now.kept c.loop-at.invariant.back;
            fits = noted-fits c.loop-at.file w.hold.new.file c.loop-at.held w.hold.new.held c.index-pages-at.result.number _ _ w.hold.new.page _ noted c.loop-at.invariant.fits is.first
                (omega (arith, many, count, w.if-write-count.true)) (rw size data_page) (long ∙ sym size);
            low = λ k d from inside.
                let up : (get_or c.pages-pages.result.now c.loop-at.at d).number < (get_or c.pages-pages.result.now k d).number =
                numbers-later 0 c.pages-pages.result.now rises c.loop-at.at k d (omega (arith, from)) inside in
                below-same c.loop-at.file w.hold.new.file c.loop-at.held w.hold.new.held c.index-pages-at.result.number _ w.hold.new.page _ noted (omega (arith, up, here d))
                (c.loop-at.invariant.low k d (omega (arith, from)) inside);
            few = below-same c.loop-at.file w.hold.new.file c.loop-at.held w.hold.new.held c.index-pages-at.result.number _ w.hold.new.page _ noted (omega (arith, high)) c.loop-at.invariant.few;
            told = told-by-more (g.S.PageStore.image c.args.base.now) (g.S.PageStore.image c.loop-at.base) c.args.file.now c.loop-at.file w.hold.new.file c.loop-at.held w.hold.new.held c.args.change.now
                c.loop-at.at c.index-pages-at.result w.hold.new.page c.loop-at.invariant.base.image noted own w.in_ok-hold.ensures.page is data_page c.loop-at.invariant.told;
          })
      | else-write-count w ↦
          rw (w.file-is, w.base-is, w.held-is, w.page-is) (record {
            base = c.loop-at.invariant.base;
            faults = c.loop-at.invariant.faults;
            page = c.loop-at.invariant.page;
            page_size = c.loop-at.invariant.page_size;
            count_is = c.loop-at.invariant.count_is;
            back = c.loop-at.invariant.back;
            fits = c.loop-at.invariant.fits;
            low = λ k d from inside. c.loop-at.invariant.low k d (omega (arith, from)) inside;
            few = c.loop-at.invariant.few;
            told = told-by-past (g.S.PageStore.image c.args.base.now) c.args.file.now c.loop-at.file c.loop-at.held.same.items c.args.change.now c.loop-at.at (g.S.PageStore.commit c.args.base.now)
                c.index-pages-at.result told (omega (arith, count, w.if-write-count.false)) is c.loop-at.invariant.told;
          })
    ]

pub loop-before-init : goal.loop-before-init
loop-before-init g c = record {
  base = c.loop-at.invariant.base;
  faults = c.loop-at.invariant.faults;
  page = c.loop-at.invariant.page;
  page_size = c.loop-at.invariant.page_size;
  count_is = c.loop-at.invariant.count_is;
  back = c.loop-at.invariant.back;
  fits = c.loop-at.invariant.fits;
  from = search rules;
  few = search rules;
  told = rw c.commit-before.ensures
      (told-by-all (g.S.PageStore.image c.args.base.now) c.args.file.now c.loop-at.file c.loop-at.held.same.items c.args.change.now c.loop-at.at
      (rw (← c.pages-pages.ensures.value) c.loop-at-test.false) c.loop-at.invariant.told);
}

pub loop-before-preserved : goal.loop-before-preserved
loop-before-preserved g c =
    let count : c.count_over-count.result ≡ count_over c.args.file.now (g.S.PageStore.commit c.args.base.now) = search rules in
    let commit : c.commit-commit.result ≡ g.S.PageStore.commit c.args.base.now = c.commit-commit.ensures.value in
    let within : c.loop-before.before < count_over c.args.file.now (g.S.PageStore.commit c.args.base.now) = search rules in
    let size : size_over c.loop-before.file (g.S.PageStore.page_size c.args.base.now) (g.S.PageStore.commit c.args.base.now) ≡ c.args.change.now.page_size =
    ap (λ (s : ℕ). if g.S.PageStore.commit c.args.base.now == 0 then s else g.S.PageStore.page_size c.args.base.now) c.loop-before.invariant.page_size ∙ c.requires.sized (omega (arith, within)) in
    let many : count_over c.loop-before.file (g.S.PageStore.commit c.args.base.now) ≡ count_over c.args.file.now (g.S.PageStore.commit c.args.base.now) =
    ap (λ (o : Option ℕ). unwrap_or o (g.S.PageStore.commit c.args.base.now)) c.loop-before.invariant.count_is in
    let lock : c.lock_page-lock_page.result ≡ lock_page_of c.args.change.now.page_size = search rules in
    let told1 : IfSome (g.S.PageStore.image c.args.base.now) (λ (i : DatabaseImage). g.S.PageStore.page_size c.args.base.now ≡ i.page_size) = c.sound_store.ensures.page_size in
    let told2 : IfSome (g.S.PageStore.image c.args.base.now) (λ (i : DatabaseImage). g.S.PageStore.commit c.args.base.now ≡ length i.pages) = rw (← c.commit-commit.ensures.value) c.commit-commit.ensures.told in
    elim c.if-before-lock_page.branch [
      | then-before-lock_page+in_ok-hold-2 w ↦
          let long : length w.hold-then-before-lock_page.new.page ≡ c.args.change.now.page_size = search rules in
          let data_page : IsDataPage c.args.change.now.page_size (c.loop-before.before + 1) = λ same. w.if-before-lock_page.true (same ∙ sym lock) in
          let noted : IsNoted c.loop-before.file c.loop-before.held (c.loop-before.before + 1) w.hold-then-before-lock_page.new.page (is_left None w.hold-then-before-lock_page.new.page) w.hold-then-before-lock_page.new.file
          w.hold-then-before-lock_page.new.held = search rules in
          rw (w.file-is, w.base-is, w.held-is, w.page-is) (record {
            base = SameBase-trans c.loop-before.invariant.base w.in_ok-hold-2.ensures.base;
            faults = w.in_ok-hold-2.ensures.faults ∙ c.loop-before.invariant.faults;
            page = long;
            page_size = w.in_ok-hold-2.ensures.shape.0 ∙ c.loop-before.invariant.page_size;
            count_is = w.in_ok-hold-2.ensures.shape.1 ∙ c.loop-before.invariant.count_is;
            back = w.in_ok-hold-2.ensures.back c.args.file.now.kept c.loop-before.invariant.back;
            fits = noted-fits c.loop-before.file w.hold-then-before-lock_page.new.file c.loop-before.held w.hold-then-before-lock_page.new.held (c.loop-before.before + 1) _ _ w.hold-then-before-lock_page.new.page _ noted
                c.loop-before.invariant.fits (omega arith) (omega (arith, many, within)) (rw size data_page) (long ∙ sym size);
            from = omega (arith, c.loop-before.invariant.from);
            few = below-same c.loop-before.file w.hold-then-before-lock_page.new.file c.loop-before.held w.hold-then-before-lock_page.new.held (c.loop-before.before + 1) _ w.hold-then-before-lock_page.new.page _ noted
                (omega arith) (up-one c.loop-before.held.same.items _ c.loop-before.invariant.few);
            told = told-to-more (g.S.PageStore.image c.args.base.now) (g.S.PageStore.image c.loop-before.base) c.args.file.now c.loop-before.file w.hold-then-before-lock_page.new.file c.loop-before.held
                w.hold-then-before-lock_page.new.held c.args.change.now c.loop-before.before w.hold-then-before-lock_page.new.page c.loop-before.invariant.base.image noted c.loop-before.invariant.few
                w.in_ok-hold-2.ensures.page c.loop-before.invariant.from c.loop-before.invariant.told;
          })
      | else-before-lock_page w ↦
          rw (w.file-is, w.base-is, w.held-is, w.page-is) (record {
            base = c.loop-before.invariant.base;
            faults = c.loop-before.invariant.faults;
            page = c.loop-before.invariant.page;
            page_size = c.loop-before.invariant.page_size;
            count_is = c.loop-before.invariant.count_is;
            back = c.loop-before.invariant.back;
            fits = c.loop-before.invariant.fits;
            from = omega (arith, c.loop-before.invariant.from);
            few = up-one c.loop-before.held.same.items _ c.loop-before.invariant.few;
            told = told-to-lock (g.S.PageStore.image c.args.base.now) c.args.file.now c.loop-before.file c.loop-before.held.same.items c.args.change.now c.loop-before.before
                (g.S.PageStore.page_size c.args.base.now) (g.S.PageStore.commit c.args.base.now) told1 told2 c.commit-commit.ensures.valid c.requires.fits c.loop-before.invariant.fits
                c.loop-before.invariant.page_size c.requires.sized (w.if-before-lock_page.false ∙ lock) c.loop-before.invariant.from c.loop-before.invariant.told;
          })
    ]

pub returns-clause-told : goal.returns-clause-told
returns-clause-told g c =
    let told1 : IfSome (g.S.PageStore.image c.args.base.now) (λ (i : DatabaseImage). g.S.PageStore.page_size c.args.base.now ≡ i.page_size) = c.sound_store.ensures.page_size in
    let told2 : IfSome (g.S.PageStore.image c.args.base.now) (λ (i : DatabaseImage). g.S.PageStore.commit c.args.base.now ≡ length i.pages) = rw (← c.commit-commit.ensures.value) c.commit-commit.ensures.told in
    told-end (g.S.PageStore.image c.args.base.now) c.args.file.now c.loop-before.file c.loop-before.held.same.items c.args.change.now c.loop-before.before
    (g.S.PageStore.page_size c.args.base.now) (g.S.PageStore.commit c.args.base.now) told1 told2 c.loop-before.invariant.page_size c.requires.sized c.loop-before.invariant.few c.loop-before.invariant.from
    (search rules) c.loop-before.invariant.told
