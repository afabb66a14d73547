use Rattle.std.proofs.Common.{arith, sym, ap, ◌∙◌, None, List, ℕ}
use Rattle.stream_wire.specs.Head.{framing}
use Rattle.stream_wire.proofs.Heads.{never_large_response, never_framed_response}
use Rattle.stream_wire.proofs.head_reading.told.Goals as goal

pub returns-then-spans-gt-HEAD_MAX : goal.returns-then-spans-gt-HEAD_MAX
returns-then-spans-gt-HEAD_MAX c =
    let h = c.requires.head in
    never_large_response c.args.bytes.now h.0 _ h.1.reads (omega (arith, h.1.len, c.if-spans-gt-HEAD_MAX.true))

pub returns-in_default : goal.returns-in_default
returns-in_default c =
    let h = c.requires.head in
    never_framed_response c.args.bytes.now h.0 _ h.1.reads (ap (λ (fs : List (List ℕ × List ℕ)). framing None fs) (sym h.1.fields) ∙ sym c.framing.ensures ∙ c.in_default.is)
