use Rattle.std.proofs.Common.{◌≡◌, ◌∙◌, ◌+◌, Some, List, ℕ, length, take, refl, sym, ap, subst, arith}
use Rattle.std.proofs.lemmas.List.{take-replicate, length-replicate}
use Rattle.std.specs.Prelude.{bit_xor}
use Rattle.lf_sqlite_pages.specs.LockPage.{IsDataPage}
use Rattle.lf_sqlite_pages.specs.declared.page_write.PageWrite.{PageWrite}
use Rattle.lf_sqlite_pages.proofs.LockPages.{page_size-positive}
use Rattle.txn_log.specs.Receiving.{lacking_page}
use Rattle.txn_log.specs.Staging.{HoldsSoFar, front_encoding}
use Rattle.txn_log.proofs.Modes.{page_size-most}
use Rattle.txn_log.proofs.Receivings.{lacking-lock, lacking-within, lacking-past, passed-writes, passes-lock, passes-none}
use Rattle.txn_log.proofs.receiving.Receiving.pass.Goals as goal

pub lock_page-requires : goal.lock_page-requires
lock_page-requires g c = page_size-positive c.args.self.now.header.page_size c.args.self.now.sized

pub split_at-requires : goal.split_at-requires
split_at-requires g c =
    let long : length c.zeros-zeros.result ≡ 65536 = ap length c.zeros-zeros.ensures ∙ length-replicate {A = ℕ} 65536 0 in
    omega (arith, long, page_size-most c.args.self.now.header.page_size c.args.self.now.sized)

pub returns-then-number-lock_page-clause-staged : goal.returns-then-number-lock_page-clause-staged
returns-then-number-lock_page-clause-staged g c honest before held has lack so_far =
    let s = c.args.self.now in
    let none = lack ∙ lacking-lock s.header.page_size c.args.count (s.passed + 1) (c.if-number-lock_page.true ∙ c.lock_page.ensures) in
    subst (λ (ws : List PageWrite). HoldsSoFar before (front_encoding s.header ws) (g.D.Disk.history c.args.disk.now)) (passed-writes held s.passed none) so_far

pub returns-then-number-lock_page-clause-passed : goal.returns-then-number-lock_page-clause-passed
returns-then-number-lock_page-clause-passed g c held has lack =
    let s = c.args.self.now in
    let lock = c.if-number-lock_page.true ∙ c.lock_page.ensures in
    passes-lock s _ c.args.sums.now.sums held has refl refl refl refl lock (lack ∙ lacking-lock s.header.page_size c.args.count (s.passed + 1) lock)

pub returns-then-number-count-clause-staged : goal.returns-then-number-count-clause-staged
returns-then-number-count-clause-staged g c honest before held has lack so_far =
    let s = c.args.self.now in
    let other : IsDataPage s.header.page_size (s.passed + 1) = λ lock. c.if-number-lock_page.false (lock ∙ sym c.lock_page.ensures) in
    let none = lack ∙ lacking-within s.header.page_size c.args.count (s.passed + 1) other c.if-number-count.true in
    subst (λ (ws : List PageWrite). HoldsSoFar before (front_encoding s.header ws) (g.D.Disk.history c.args.disk.now)) (passed-writes held s.passed none) so_far

pub returns-then-number-count-clause-passed : goal.returns-then-number-count-clause-passed
returns-then-number-count-clause-passed g c held has lack =
    let s = c.args.self.now in
    let other : IsDataPage s.header.page_size (s.passed + 1) = λ lock. c.if-number-lock_page.false (lock ∙ sym c.lock_page.ensures) in
    let none = lack ∙ lacking-within s.header.page_size c.args.count (s.passed + 1) other c.if-number-count.true in
    passes-none s _ c.args.sums.now.sums held has refl refl refl other none (ap (bit_xor s.total) c.get.ensures)

pub returns-in_err-take_page-clause-moments : goal.returns-in_err-take_page-clause-moments
returns-in_err-take_page-clause-moments g c honest before held has so_far = c.take_page.ensures.moments honest before c.args.sums.now.sums held has so_far

pub returns-clause-moments : goal.returns-clause-moments
returns-clause-moments g c honest before held has so_far = c.take_page.ensures.moments honest before c.args.sums.now.sums held has so_far

pub returns-clause-staged : goal.returns-clause-staged
returns-clause-staged g c honest before held has lack so_far =
    let s = c.args.self.now in
    let other : IsDataPage s.header.page_size (s.passed + 1) = λ lock. c.if-number-lock_page.false (lock ∙ sym c.lock_page.ensures) in
    let page = c.split_at.ensures.front ∙ ap (take s.header.page_size) c.zeros-zeros.ensures ∙ take-replicate s.header.page_size 65536 0 (page_size-most s.header.page_size s.sized) in
    let some = subst (λ (n : ℕ). held n ≡ lacking_page s.header.page_size c.args.count n) c.in_ok-take_page.ensures.counts.0 lack
    ∙ lacking-past s.header.page_size c.args.count (s.passed + 1) other (omega (arith, c.if-number-count.false)) ∙ ap (λ (p : List ℕ). Some p) (sym page) in
    c.in_ok-take_page.ensures.staged honest before c.args.sums.now.sums held has some so_far

pub returns-clause-passed : goal.returns-clause-passed
returns-clause-passed g c held has lack =
    let s = c.args.self.now in
    let other : IsDataPage s.header.page_size (s.passed + 1) = λ lock. c.if-number-lock_page.false (lock ∙ sym c.lock_page.ensures) in
    let page = c.split_at.ensures.front ∙ ap (take s.header.page_size) c.zeros-zeros.ensures ∙ take-replicate s.header.page_size 65536 0 (page_size-most s.header.page_size s.sized) in
    let some = subst (λ (n : ℕ). held n ≡ lacking_page s.header.page_size c.args.count n) c.in_ok-take_page.ensures.counts.0 lack
    ∙ lacking-past s.header.page_size c.args.count (s.passed + 1) other (omega (arith, c.if-number-count.false)) ∙ ap (λ (p : List ℕ). Some p) (sym page) in
    c.in_ok-take_page.ensures.passed c.args.sums.now.sums held has some
