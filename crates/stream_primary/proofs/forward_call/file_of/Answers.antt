use Rattle.std.proofs.Common.{◌∙◌, ℕ, List, ap, sym, take}
use Rattle.stream_primary.proofs.Forwards.{no_line, same_line}
use Rattle.stream_primary.proofs.forward_call.file_of.Goals as goal

pub returns-in_default : goal.returns-in_default
returns-in_default c = λ other number bytes is fits e. no_line c.as_slice.result.now other bytes number c.in_default.ensures.first is (c.as_slice.ensures ∙ e)

pub returns-in-Ok-NoLine : goal.returns-in-Ok-NoLine
returns-in-Ok-NoLine c = λ other number bytes is fits e.
    let line = same_line c.as_slice.result.now c.in-Some.len c.in-Some.ensures.first other bytes number is (c.as_slice.ensures ∙ e) in
    (rw c.in-Ok-NoLine.field-0-is at c.in-Ok-NoLine.ensures) other number is fits
    (c.split_at.ensures.front ∙ ap (λ (l : List ℕ). take c.in-Some.len l) (c.as_slice-2.ensures ∙ sym c.as_slice.ensures) ∙ line)
