use Rattle.std.proofs.Common.{◌∙◌, ℕ, List, IfOk, subst}
use Rattle.stream_primary.specs.HaltCalls.{SaysNumber}
use Rattle.stream_primary.proofs.Requests.{unkept_number, whole_number}
use Rattle.stream_primary.proofs.halt_calls.number_in.Goals as goal

pub returns-in-Whole : goal.returns-in-Whole
returns-in-Whole c = λ content came.
    subst (λ (l : List ℕ). IfOk c.number_of.result (SaysNumber c.args.name.now l)) (c.as_slice.ensures ∙ whole_number content c.in-Whole.line c.args.body.now came c.in-Whole.is) c.number_of.ensures

pub returns-in-Passed : goal.returns-in-Passed
returns-in-Passed c = λ content came. unkept_number c.args.name.now content c.args.body.now came c.in-Passed.is
