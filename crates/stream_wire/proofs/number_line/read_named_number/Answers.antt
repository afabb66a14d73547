use Rattle.std.proofs.Common.{sym, subst, ◌∙◌, arith}
use Rattle.lf_base.specs.Name.{IsName}
use Rattle.stream_wire.proofs.NumberParts.{end_part, line_length, name_part}
use Rattle.stream_wire.proofs.number_line.read_named_number.Goals as goal

pub returns-then-line-lt-LINE_END : goal.returns-then-line-lt-LINE_END
returns-then-line-lt-LINE_END c = λ name n is fits e. absurd omega (arith, line_length c.args.line.now name n e, c.if-line-lt-LINE_END.true)

pub returns-in_default : goal.returns-in_default
returns-in_default c = λ name n is fits e.
    c.in_default.ensures n fits (c.split_at.ensures.back ∙ end_part c.args.line.now name n e)

pub returns-in-Ok-None : goal.returns-in-Ok-None
returns-in-Ok-None c = λ name n is fits e.
    (rw c.in-Ok-None.field-0-is at c.in-Ok-None.ensures) (subst IsName (sym (c.split_at.ensures.front ∙ name_part c.args.line.now name n e)) is)
