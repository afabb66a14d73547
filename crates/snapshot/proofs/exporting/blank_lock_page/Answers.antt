-- The lock page becomes zeros.
use Rattle.std.proofs.Common.{◌≡◌, ◌+◌, ◌-◌, ◌*◌, ◌<◌, ◌≤◌, ◌++◌, ℕ, List, length, replicate, sym, ◌∙◌, ap, subst, arith}
use Rattle.std.proofs.Math.Nat.{mul-le-mul_right}
use Rattle.lf_sqlite_pages.specs.LockPage.{lock_page_of}
use Rattle.lf_sqlite_pages.proofs.LockPages.{lock_page-first}
use Rattle.txn_log.proofs.Places.{page_end}
use Rattle.snapshot.proofs.BlankLemmas.{none_blank, one_blank}
use Rattle.snapshot.proofs.exporting.blank_lock_page.Goals as goal

pub returns-then-commit-eq0 : goal.returns-then-commit-eq0
returns-then-commit-eq0 c = none_blank c.args.page_size c.args.commit c.args.pages.now c.requires.whole (omega (arith, lock_page-first c.args.page_size, c.if-commit-eq0.true))

pub lock_page-lock-requires : goal.lock_page-lock-requires
lock_page-lock-requires c = c.requires.some (omega (arith, c.if-commit-eq0.false))

pub returns-then-lock-commit : goal.returns-then-lock-commit
returns-then-lock-commit c =
    none_blank c.args.page_size c.args.commit c.args.pages.now c.requires.whole (subst (λ (n : ℕ). c.args.commit < n) c.lock_page-lock.ensures c.if-lock-commit.true)

pub overflow_sub-lock : goal.overflow_sub-lock
overflow_sub-lock c = subst (λ (n : ℕ). 1 ≤ n) (sym c.lock_page-lock.ensures) (lock_page-first c.args.page_size)

pub split_at_mut-page-requires : goal.split_at_mut-page-requires
split_at_mut-page-requires c =
    let size = c.args.page_size in
    let lock : ℕ = c.lock_page-lock.result in
    let first : 1 ≤ lock = subst (λ (n : ℕ). 1 ≤ n) (sym c.lock_page-lock.ensures) (lock_page-first size) in
    let within : lock ≤ c.args.commit = omega (arith, c.if-lock-commit.false) in
    let ends : (lock - 1) * size + size ≡ lock * size = page_end size lock first in
    let room : lock * size ≤ c.args.commit * size = mul-le-mul_right size within in
    omega (arith, ends, room, c.requires.whole, c.split_at_mut-rest.ensures.back_len)

pub returns : goal.returns
returns c =
    let size = c.args.page_size in
    let start : List ℕ = c.split_at_mut-rest.result.0.now in
    let page : List ℕ = c.split_at_mut-page.result.0.now in
    let rest : List ℕ = c.split_at_mut-page.result.1.now in
    let within : lock_page_of size ≤ c.args.commit = subst (λ (n : ℕ). n ≤ c.args.commit) c.lock_page-lock.ensures (omega (arith, c.if-lock-commit.false)) in
    let is : c.args.pages.now ≡ start ++ (page ++ rest) = c.split_at_mut-rest.ensures.value ∙ ap (λ (l : List ℕ). start ++ l) c.split_at_mut-page.ensures.value in
    let at : length start ≡ (lock_page_of size - 1) * size = c.split_at_mut-rest.ensures.front_len ∙ ap (λ (n : ℕ). (n - 1) * size) c.lock_page-lock.ensures in
    let whole : length page ≡ size = c.split_at_mut-page.ensures.front_len in
    let zeros : c.zero.new.out ≡ replicate size 0 = c.zero.ensures ∙ ap (λ (k : ℕ). replicate k 0) whole in
    ap (λ (z : List ℕ). start ++ (z ++ rest)) zeros ∙ one_blank size c.args.commit c.args.pages.now start page rest c.requires.whole within is at whole
