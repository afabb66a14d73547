use Rattle.std.proofs.Common.{◌∙◌, ℕ, List, refl, subst}
use Rattle.stream_primary.specs.StreamCall.{Says, no_line, other_database, streaming}
use Rattle.stream_primary.proofs.stream_call.serve_stream.Goals as goal

pub returns-in-Ok-Stream-clause-serves : goal.returns-in-Ok-Stream-clause-serves
returns-in-Ok-Stream-clause-serves g c = λ request same came.
    streaming (record { pos = c.in-Ok-Stream.pos; last = c.last_in-last.result }) (rw c.in-Ok-Stream.field-0-is at (c.in-Ok-Stream.ensures request came))
    (subst (λ (head : List ℕ). Says head c.last_in-last.result) (c.as_slice.ensures ∙ same) c.last_in-last.ensures) c.stream.ensures.streams

pub returns-in-Ok-OtherDatabase-clause-serves : goal.returns-in-Ok-OtherDatabase-clause-serves
returns-in-Ok-OtherDatabase-clause-serves g c = λ request same came.
    other_database (rw c.in-Ok-OtherDatabase.field-0-is at (c.in-Ok-OtherDatabase.ensures request came)) (record { written = c.refuse.ensures.end; unasked = refl })

pub returns-in-Ok-NoLine-clause-serves : goal.returns-in-Ok-NoLine-clause-serves
returns-in-Ok-NoLine-clause-serves g c = λ request same came.
    no_line (rw c.in-Ok-NoLine.field-0-is at (c.in-Ok-NoLine.ensures request came)) (record { written = c.refuse-in-Ok-NoLine.ensures.end; unasked = refl })
