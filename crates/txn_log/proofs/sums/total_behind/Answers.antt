-- The pages that come are gone through.
use Rattle.std.proofs.Common.{◌≡◌, ◌+◌, ◌-◌, ◌≤◌, ℕ, List, ◌∙◌, ap, sym, subst, arith, take, replicate, length}
use Rattle.std.specs.Prelude.{bit_xor}
use Rattle.std.proofs.lemmas.List.{length-replicate, take-replicate}
use Rattle.ltx_codec.specs.steps.ChangedSum.{joined_over}
use Rattle.lf_sqlite_pages.specs.Complete.{completed}
use Rattle.txn_log.specs.Draft.{sum_after}
use Rattle.ltx_codec.proofs.SumLemmas.{joined_over-next}
use Rattle.txn_log.proofs.Modes.{page_size-most}
use Rattle.txn_log.proofs.SumTables.{behind-alike}
use Rattle.txn_log.proofs.sums.total_behind.Goals as goal

pub split_at-requires : goal.split_at-requires
split_at-requires c =
    let long : length c.zeros-zeros.result ≡ 65536 = ap (λ (z : List ℕ). length z) c.zeros-zeros.ensures ∙ length-replicate {A = ℕ} 65536 0 in
    subst (λ (n : ℕ). c.page_size.result ≤ n) (sym long) (page_size-most c.page_size.result c.page_size.ensures.sqlite)

pub loop-page-init : goal.loop-page-init
loop-page-init c =
    let stay : ℕ = c.min-stay.result in
    let within : stay ≤ c.args.count = omega (arith, c.min-stay.ensures) in
    let last : stay ≤ c.args.change.now.commit = omega (arith, c.min-stay.ensures, c.commit.ensures) in
    c.total_to-total.ensures ∙ behind-alike c.args.sums.now.sums c.args.change.now c.args.count stay within last

pub sum_past-total-requires-clause-past : goal.sum_past-total-requires-clause-past
sum_past-total-requires-clause-past c = omega (arith, c.min-stay.ensures, c.commit.ensures, c.loop-page.auto.page, c.commit-page-end.ensures, c.loop-page-test.true)

pub sum_past-total-requires-clause-zeros : goal.sum_past-total-requires-clause-zeros
sum_past-total-requires-clause-zeros c =
    c.split_at.ensures.front ∙ ap (take c.page_size.result) c.zeros-zeros.ensures
    ∙ take-replicate c.page_size.result 65536 0 (page_size-most c.page_size.result c.page_size.ensures.sqlite)
    ∙ ap (λ (n : ℕ). replicate n 0) c.page_size.ensures.value

pub loop-page-preserved : goal.loop-page-preserved
loop-page-preserved c =
    let sum : ℕ → ℕ = sum_after c.args.sums.now.sums (completed c.args.change.now c.args.count) in
    let page : ℕ = c.loop-page.page in
    let here : page - 0 ≡ page = omega arith in
    let next : page + 1 - 0 ≡ page + 1 = omega arith in
    ap (λ s. bit_xor c.loop-page.total s) (c.sum_past-total.ensures c.args.sums.now.sums)
    ∙ joined_over-next sum 0 page c.loop-page.total (omega arith) (c.loop-page.invariant ∙ sym (ap (joined_over sum 1) here))
    ∙ ap (joined_over sum 1) next
