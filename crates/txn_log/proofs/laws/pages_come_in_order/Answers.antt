use Rattle.std.proofs.Common.{◌∙◌, ℕ, sym, ap, arith}
use Rattle.txn_log.specs.Receiving.{lacking_page}
use Rattle.txn_log.proofs.Growths.{comes-next, lacks-past}
use Rattle.txn_log.proofs.laws.pages_come_in_order.Goals as goal

pub returns-clause-next : goal.returns-clause-next
returns-clause-next c receiving sums change count number page valid last above other size has =
    comes-next change count valid number page (omega (arith, last, above)) other receiving sums last size has

pub returns-clause-last : goal.returns-clause-last
returns-clause-last c receiving change count valid last size n past low =
    lacks-past change count valid n (omega (arith, last, past)) ∙ ap (λ (s : ℕ). lacking_page s count n) (sym size)
