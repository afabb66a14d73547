use Rattle.std.proofs.Common.{◌∙◌}
use Rattle.stream_primary.proofs.Requests.{unkept_line, whole_line}
use Rattle.stream_primary.proofs.stream_call.wish_of.Goals as goal

pub returns-in-Whole : goal.returns-in-Whole
returns-in-Whole c = λ request came. c.wish_in.ensures request (c.as_slice.ensures ∙ whole_line c.in-Whole.line request c.args.body.now came c.in-Whole.is)

pub returns-in-Passed : goal.returns-in-Passed
returns-in-Passed c = λ request came. unkept_line c.args.name.now request c.args.body.now came c.in-Passed.is
