use Rattle.std.proofs.Common.{◌≡◌, ℕ, ◌+◌, ◌-◌, ◌∙◌, ap, inl, inr, arith}
use Rattle.std.proofs.lemmas.Bool.{cases_eq}
use Rattle.std.specs.BTreeMap.{btree_map_len}
use Rattle.lf_sqlite_pages.specs.Change.{PageChange}
use Rattle.lf_sqlite_pages.specs.LockPage.{lock_page_of}
use Rattle.lf_sqlite_pages.proofs.LockPages.{page_size-positive}
use Rattle.wal_watch.specs.Frames.{size_in}
use Rattle.wal_watch.proofs.CommitLemmas.{place_up}
use Rattle.wal_watch.proofs.TakenLemmas.{taken_none, taken_least, taken_more, taken_all, same_pages}
use Rattle.wal_watch.proofs.change.change_by.Goals as goal

pub pages_held-requires-clause-some : goal.pages_held-requires-clause-some
pages_held-requires-clause-some c = page_size-positive c.page_size-page_size.result c.page_size-page_size.ensures.sqlite

pub loop-number-init : goal.loop-number-init
loop-number-init c =
    let commit-is = c.commit-commit.ensures ∙ ap (λ (ch : PageChange). ch.commit) c.requires.empty in
    record {
      taken = taken_none c.args.contents.now.bytes c.commit-commit.result c.args.frames.first c.args.frames.count c.in_ok-pages.pages c.args.change c.requires.committed.valid c.in_ok-pages.ensures
          (rw commit-is c.requires.empty);
      buffer = c.requires.buffer;
    }

pub fill_page-requires-clause-there : goal.fill_page-requires-clause-there
fill_page-requires-clause-there c =
    let contents = c.args.contents.now.bytes in
    let e = c.in-Some.ensures in
    let least = taken_least contents c.commit-commit.result c.args.frames.first c.args.frames.count c.loop-number.pages c.loop-number.change c.in-Some.number c.in-Some.frame c.loop-number.invariant.taken e.value e.least in
    omega (arith, place_up contents (c.in-Some.frame + 1) c.args.frames.count (omega (arith, least.among)), c.requires.committed.room)

pub push-requires-clause-within : goal.push-requires-clause-within
push-requires-clause-within c =
    let contents = c.args.contents.now.bytes in
    let e = c.in-Some.ensures in
    let least = taken_least contents c.commit-commit.result c.args.frames.first c.args.frames.count c.loop-number.pages c.loop-number.change c.in-Some.number c.in-Some.frame c.loop-number.invariant.taken e.value e.least in
    omega (arith, least.within, c.loop-number.invariant.taken.of_size)

pub push-requires-clause-ascending : goal.push-requires-clause-ascending
push-requires-clause-ascending c =
    let contents = c.args.contents.now.bytes in
    let e = c.in-Some.ensures in
    (taken_least contents c.commit-commit.result c.args.frames.first c.args.frames.count c.loop-number.pages c.loop-number.change c.in-Some.number c.in-Some.frame c.loop-number.invariant.taken e.value e.least).over

pub push-requires-clause-holds_data : goal.push-requires-clause-holds_data
push-requires-clause-holds_data c =
    let contents = c.args.contents.now.bytes in
    let e = c.in-Some.ensures in
    let least = taken_least contents c.commit-commit.result c.args.frames.first c.args.frames.count c.loop-number.pages c.loop-number.change c.in-Some.number c.in-Some.frame c.loop-number.invariant.taken e.value e.least in
    λ lock. least.holds_data (lock ∙ ap (λ (n : ℕ). lock_page_of n) c.loop-number.invariant.taken.page_size)

pub loop-number-preserved : goal.loop-number-preserved
loop-number-preserved c =
    let contents = c.args.contents.now.bytes in
    let e = c.in-Some.ensures in
    let pushed = c.in_ok-push.ensures.ok in
    record {
      taken = taken_more contents c.commit-commit.result c.args.frames.first c.args.frames.count c.loop-number.pages _ c.loop-number.change c.push.new.self c.in-Some.number c.in-Some.frame c.loop-number.invariant.taken
          e.value e.least e.updates (rw (← c.fill_page.ensures) pushed) c.in_ok-push.ensures.last;
      buffer = omega (arith, c.fill_page.auto.out, c.loop-number.invariant.buffer);
    }

pub returns : goal.returns
returns c =
    let contents = c.args.contents.now.bytes in
    let commit-is : c.commit-commit.result ≡ size_in contents (c.args.frames.count - 1) = c.commit-commit.ensures ∙ ap (λ (ch : PageChange). ch.commit) c.requires.empty in
    let none : btree_map_len c.loop-number.pages ≡ 0 = elim (cases_eq (btree_map_len c.loop-number.pages) 0) [
      | inl zero_is ↦ zero_is
      | inr some ↦ absurd (let on = c.in_default.ensures.variant.1 (omega (arith, some)) in cc)
    ] in
    taken_all contents c.commit-commit.result c.args.frames.first c.args.frames.count c.loop-number.pages c.loop-number.change c.loop-number.invariant.taken none
    ∙ same_pages contents c.args.frames.first c.args.frames.count c.commit-commit.result (size_in contents (c.args.frames.count - 1)) commit-is
