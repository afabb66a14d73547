use Rattle.std.proofs.Common.{◌≡◌, ◌∙◌, ◌+◌, ◌<◌, ℕ, List, [], ◌∷◌, take, drop, get_or, length, sym, ap, subst, arith}
use Rattle.std.proofs.lemmas.List.{take_more, length-append, length-take-le}
use Rattle.stream_primary.specs.ForwardCall.{IsUnbroken}
use Rattle.stream_primary.proofs.Forwards.{cut_at, no_front, unbroken_join}
use Rattle.stream_primary.proofs.forward_call.line_len.Goals as goal

pub loop-at-init : goal.loop-at-init
loop-at-init c = tt

pub loop-at-preserved : goal.loop-at-preserved
loop-at-preserved c =
    let body = c.args.body.now in
    let at = c.loop-at.at in
    subst (λ (l : List ℕ). IsUnbroken l) (sym (take_more body at 0 (omega arith)))
    (unbroken_join (take at body) (get_or body at 0 ∷ []) c.loop-at.invariant (c.if-body-at-eq10.false, tt))

pub returns-then-body-at-eq10-clause-first : goal.returns-then-body-at-eq10-clause-first
returns-then-body-at-eq10-clause-first c =
    let body = c.args.body.now in
    let at = c.loop-at.at in
    (take at body, drop (at + 1) body, c.loop-at.invariant, cut_at body at (omega arith) c.if-body-at-eq10.true, omega (arith, length-take-le at body (omega arith)))

pub returns-clause-first : goal.returns-clause-first
returns-clause-first c = λ line rest free short e.
    let long : length c.args.body.now ≡ length line + length (10 ∷ rest) = ap length e ∙ length-append line (10 ∷ rest) in
    let less : length line < c.loop-at.at = omega (arith, long, short) in
    no_front line rest c.loop-at.at (subst (λ (l : List ℕ). IsUnbroken (take c.loop-at.at l)) e c.loop-at.invariant) less
