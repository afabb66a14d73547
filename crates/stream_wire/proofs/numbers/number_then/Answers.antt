use Rattle.std.proofs.Common.{ℕ, List, ◌∙◌, ap, arith, get_or}
use Rattle.stream_wire.proofs.NumberParts.{number_size, number_part, rest_part}
use Rattle.stream_wire.proofs.numbers.number_then.Goals as goal

pub returns-then-bytes-lt17-clause-none : goal.returns-then-bytes-lt17-clause-none
returns-then-bytes-lt17-clause-none c = λ n rest fits e. absurd omega (arith, number_size c.args.bytes.now n c.args.mark rest e, c.if-bytes-lt17.true)

pub returns-then-first-mark-clause-none : goal.returns-then-first-mark-clause-none
returns-then-first-mark-clause-none c = λ n rest fits e.
    c.if-first-mark.true (ap (λ (l : List ℕ). get_or l 0 0) (c.split_at.ensures.back ∙ rest_part c.args.bytes.now n c.args.mark rest e))

pub returns-in-None-clause-none : goal.returns-in-None-clause-none
returns-in-None-clause-none c = λ n rest fits e.
    c.in-None.ensures.none n fits (c.split_at.ensures.front ∙ number_part c.args.bytes.now n c.args.mark rest e)
