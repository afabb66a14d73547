use Rattle.std.proofs.Common.{◌≡◌, ◌∙◌, ap, sym, ℕ, arith}
use Rattle.lf_sqlite_pages.specs.LockPage.{lock_page_of}
use Rattle.wal_watch.specs.Frames.{page_size_in}
use Rattle.wal_watch.specs.Indexing.{indexed}
use Rattle.wal_watch.proofs.SoFarLemmas.{so_far_start, so_far_more, so_far_same, so_far_all, same_before}
use Rattle.wal_watch.proofs.change.pages_held.Goals as goal
use Rattle.wal_watch.proofs.change.pages_held.Goals.{then-page-commit+then-page-lock+then-not-is_before+in_ok-insert, else-page-commit, else-page-commit-via-then-page-commit+then-page-lock+else-not-is_before, else-page-commit-via-then-page-commit+else-page-lock, else-page-commit-via-else-page-commit}

pub loop-frame-init : goal.loop-frame-init
loop-frame-init c = so_far_start c.args.contents.now.bytes c.args.commit c.args.frames.first (indexed c.args.index.now) _ c.new-pages.ensures.empty

pub loop-frame-preserved : goal.loop-frame-preserved
loop-frame-preserved c =
    let contents = c.args.contents.now.bytes in
    let k = c.loop-frame.frame in
    let page = c.number_in-page.result in
    let lock-is : c.lock_page-lock.result ≡ lock_page_of (page_size_in contents) = c.lock_page-lock.ensures ∙ ap (λ (n : ℕ). lock_page_of n) c.requires.size in
    let latest-is = c.latest-latest.ensures contents c.requires.index in
    elim c.if-page-commit.branch [
      | then-page-commit+then-page-lock+then-not-is_before+in_ok-insert w ↦ rw w.pages-is
          (so_far_more contents c.args.commit c.args.frames.first k (indexed c.args.index.now) page c.loop-frame.pages _ c.loop-frame.invariant c.loop-frame.auto.frame c.number_in-page.ensures
          w.if-page-commit.true (λ lock. w.if-page-lock.true (lock ∙ sym lock-is)) (λ before. let on = w.is_before.ensures.1 (same_before k _ _ (sym latest-is) before) in cc (w.if-not-is_before.true, on)) w.in_ok-insert.ensures.updates)
      | else-page-commit w ↦ rw w.pages-is
          (so_far_same contents c.args.commit c.args.frames.first k (indexed c.args.index.now) page c.loop-frame.pages c.loop-frame.invariant c.number_in-page.ensures
          (λ low apart. elim w.else-page-commit.branch [
            | else-page-commit-via-then-page-commit+then-page-lock+else-not-is_before v ↦ same_before k _ _ latest-is (v.is_before.ensures.0 (let off = v.if-not-is_before.false in cc))
            | else-page-commit-via-then-page-commit+else-page-lock v ↦ absurd (apart (v.if-page-lock.false ∙ lock-is))
            | else-page-commit-via-else-page-commit v ↦ absurd (let past = v.if-page-commit.false in omega (arith, past, low))
          ]))
    ]

pub returns : goal.returns
returns c =
    let done : c.args.frames.count ≡ c.loop-frame.frame = omega (arith, c.loop-frame-test.false, c.loop-frame.auto.frame, c.loop-frame.auto.frame-end c.requires.order) in
    so_far_all c.args.contents.now.bytes c.args.commit c.args.frames.first c.args.frames.count (indexed c.args.index.now) c.loop-frame.pages (rw done c.loop-frame.invariant) c.requires.few
