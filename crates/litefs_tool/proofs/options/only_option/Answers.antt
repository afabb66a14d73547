use Rattle.std.proofs.Common.{[], sym, append-nil}
use Rattle.litefs_tool.proofs.options.only_option.Goals as goal

pub returns-in_err-value : goal.returns-in_err-value
returns-in_err-value c =
    let none = c.in_err-value.ensures.none in
    rw c.from_residual.ensures (λ value is. none value c.args.words.now [] is (sym (append-nil c.args.words.now)))
