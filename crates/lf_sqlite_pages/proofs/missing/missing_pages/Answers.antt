-- Up to each number, the pages are those that are missing.
use Rattle.std.proofs.Common.{◌≡◌, ◌≢◌, ◌+◌, ◌<◌, min, None, replicate, ◌++◌, ◌∷◌, [], sym, ap, ◌∙◌, arith, rules}
use Rattle.lf_sqlite_pages.specs.LockPage.{lock_page_of}
use Rattle.lf_sqlite_pages.specs.Change.{written}
use Rattle.lf_sqlite_pages.specs.Steps.{missing_page}
use Rattle.lf_sqlite_pages.specs.Writes.{writes_of}
use Rattle.lf_sqlite_pages.proofs.LockPages.{page_size-positive}
use Rattle.lf_sqlite_pages.proofs.MissingPages.{missing-none_within, missing-lock_page, missing-written, missing-some, missing-more_none, missing-more_some, missing-all}
use Rattle.lf_sqlite_pages.proofs.missing.missing_pages.Goals.{then-number-lock_page+then-is_none+in_ok-bytes+in_ok-push, else-number-lock_page, else-number-lock_page-via-then-number-lock_page+else-is_none, else-number-lock_page-via-else-number-lock_page}
use Rattle.lf_sqlite_pages.proofs.missing.missing_pages.Goals as goal

pub lock_page-lock_page-requires : goal.lock_page-lock_page-requires
lock_page-lock_page-requires c = page_size-positive c.page_size.result c.page_size.ensures.sqlite

pub loop-before-init : goal.loop-before-init
loop-before-init c =
    c.new-missing.ensures.items
    ∙ sym (missing-none_within c.args.change.now c.args.pages (min c.args.pages c.args.change.now.commit) (omega arith))

pub loop-before-preserved : goal.loop-before-preserved
loop-before-preserved c =
    let below : c.loop-before.before < c.args.change.now.commit = omega (arith, c.loop-before-test.true, c.commit-before-end.ensures) in
    let lock : c.lock_page-lock_page.result ≡ lock_page_of c.args.change.now.page_size = c.lock_page-lock_page.ensures ∙ ap lock_page_of c.page_size.ensures.value in
    elim c.if-number-lock_page.branch [
      | then-number-lock_page+then-is_none+in_ok-bytes+in_ok-push w ↦
          let other : c.loop-before.before + 1 ≢ lock_page_of c.args.change.now.page_size = λ e. w.if-number-lock_page.true (e ∙ sym lock) in
          let none : written c.args.change.now.pages (c.loop-before.before + 1) ≡ None = search rules in
          let bytes : w.in_ok-bytes.bytes ≡ replicate c.args.change.now.page_size 0 = search rules in
          let items = w.in_ok-push.ensures.items in
          let pushed : c.if-number-lock_page.missing.items
          ≡ c.loop-before.missing.items ++ record { number = c.loop-before.before + 1; bytes = replicate c.args.change.now.page_size 0 } ∷ [] =
          cc (bytes, items)
          in
          missing-more_some c.args.change.now c.args.pages c.loop-before.before c.args.change.now.commit c.loop-before.missing.items _ _ below c.loop-before.invariant
          (missing-some c.args.change.now c.args.pages (c.loop-before.before + 1) other (omega arith) none) pushed
      | else-number-lock_page w ↦
          let kept : c.if-number-lock_page.missing.items ≡ c.loop-before.missing.items = cc in
          let more : c.loop-before.missing.items ≡ writes_of (missing_page c.args.change.now c.args.pages) (min (c.loop-before.before + 1) c.args.change.now.commit) =
          elim w.else-number-lock_page.branch [
            | else-number-lock_page-via-then-number-lock_page+else-is_none v ↦
                missing-more_none c.args.change.now c.args.pages c.loop-before.before c.args.change.now.commit c.loop-before.missing.items below c.loop-before.invariant
                (missing-written c.args.change.now c.args.pages (c.loop-before.before + 1) (search rules))
            | else-number-lock_page-via-else-number-lock_page v ↦
                missing-more_none c.args.change.now c.args.pages c.loop-before.before c.args.change.now.commit c.loop-before.missing.items below c.loop-before.invariant
                (missing-lock_page c.args.change.now c.args.pages (c.loop-before.before + 1) (v.if-number-lock_page.false ∙ lock))
          ]
          in
          kept ∙ more
    ]

pub returns : goal.returns
returns c =
    missing-all c.args.change.now c.args.pages c.loop-before.before c.args.change.now.commit c.loop-before.missing.items
    (omega (arith, c.loop-before-test.false, c.commit-before-end.ensures)) c.loop-before.invariant
