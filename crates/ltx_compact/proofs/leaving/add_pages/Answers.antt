use Rattle.std.proofs.Common.{◌≡◌, ℕ, ◌+◌, ◌<◌, Option, None, List, [], ◌++◌, length, get_or, ◌∙◌, sym, ap, subst, refl, arith}
use Rattle.std.specs.Option.{IfSome}
use Rattle.std.proofs.lemmas.List.{length-set, drop-set-lt}
use Rattle.std.specs.Prelude.{◌==◌, if◌then◌else◌}
use Rattle.std.specs.List.{cons_option}
use Rattle.lf_sqlite_pages.specs.LockPage.{lock_page_of}
use Rattle.lf_sqlite_pages.specs.Change.{PageChange}
use Rattle.lf_sqlite_pages.proofs.LockPages.{page_size-positive}
use Rattle.ltx_compact.specs.Slots.{page_to_write}
use Rattle.ltx_compact.proofs.Added.{pages-begun, pages-grown, last_number-begun, get_or-left, left-more}
use Rattle.ltx_compact.proofs.leaving.add_pages.Goals as goal

pub lock_page-lock_page-requires : goal.lock_page-lock_page-requires
lock_page-lock_page-requires c = page_size-positive c.page_size.result c.page_size.ensures.sqlite

pub loop-before-init : goal.loop-before-init
loop-before-init c = record {
  so_far = pages-begun c.args.change.now c.args.slots.now c.requires.empty;
  last = last_number-begun c.args.change.now.pages c.requires.empty;
  count = refl;
  left = refl;
}

-- the slot that is taken is as it was
slot : (c : goal.After-take) → c.take.result ≡ get_or c.args.slots.now c.loop-before.before None
slot c =
    c.take.ensures.value ∙ get_or-left c.loop-before.slots c.args.slots.now c.loop-before.before c.index-slots-before.result
    (omega (arith, c.loop-before-test.true, c.requires.count, c.loop-before.invariant.count)) c.loop-before.invariant.count c.loop-before.invariant.left

pub add_page-requires-clause-whole : goal.add_page-requires-clause-whole
add_page-requires-clause-whole c =
    let W : ℕ → Option (List ℕ) → Type 0 = λ size page. IfSome page (λ bytes. length bytes ≡ size) in
    let size : c.args.change.now.page_size ≡ c.loop-before.change.page_size = ap (λ (x : PageChange). x.page_size) (sym c.loop-before.invariant.so_far) in
    subst (W c.loop-before.change.page_size) (sym (slot c))
    (subst (λ (s : ℕ). W s (get_or c.args.slots.now c.loop-before.before None)) size
    (c.requires.whole c.loop-before.before None (omega (arith, c.loop-before-test.true, c.requires.count))))

-- a change with a page, where its number is not this one
abbrev with_page : PageChange → Option (List ℕ) → ℕ → ℕ → PageChange
with_page change page n lock = record change {
  pages = change.pages ++ cons_option (page_to_write (n + 1) (if n + 1 == lock then None else page)) [];
}

pub loop-before-preserved : goal.loop-before-preserved
loop-before-preserved c =
    let now = c.loop-before.change in
    let n = c.loop-before.before in
    let lock : c.lock_page-lock_page.result ≡ lock_page_of c.args.change.now.page_size = c.lock_page-lock_page.ensures ∙ ap lock_page_of c.page_size.ensures.value in
    let inside : n < length c.loop-before.slots = omega (arith, c.loop-before-test.true, c.requires.count, c.loop-before.invariant.count) in
    let taken : c.take.result ≡ get_or c.args.slots.now n None =
    c.take.ensures.value ∙ get_or-left c.loop-before.slots c.args.slots.now n c.index-slots-before.result inside c.loop-before.invariant.count c.loop-before.invariant.left
    in
    record {
      so_far = pages-grown c.args.change.now now c.add_page.new.change c.args.slots.now n c.loop-before.invariant.so_far
          (c.in_ok-add_page.ensures.ok ∙ ap (with_page now c.take.result n) lock
          ∙ ap (λ (p : Option (List ℕ)). with_page now p n (lock_page_of c.args.change.now.page_size)) taken);
      last = c.in_ok-add_page.ensures.last;
      count = length-set c.loop-before.slots n c.take.new.self ∙ c.loop-before.invariant.count;
      left = drop-set-lt (n + 1) c.loop-before.slots n c.take.new.self (omega arith)
          ∙ left-more c.loop-before.slots c.args.slots.now n inside c.loop-before.invariant.count c.loop-before.invariant.left;
    }
