use Rattle.std.proofs.Common.{◌∙◌, arith}
use Rattle.stream_wire.proofs.Ended.{says_length}
use Rattle.stream_wire.proofs.head_ends.length_before.Goals as goal

pub returns-in-Some : goal.returns-in-Some
returns-in-Some c =
    let has = c.in-Some.ensures.found in
    let framed = rw c.saturating_sub.ensures at c.framing.ensures in
    says_length c.args.kind c.args.bytes.now _ c.head_at.new.headers c.in-Some.field-0-0 c.in-Some.count c.said.result has.0 c.join.ensures has.1 has.2
    (omega (arith, c.in-Some.ensures.within.0, c.head_at.auto.headers)) (λ so_far e. c.said.ensures so_far (framed ∙ e))
