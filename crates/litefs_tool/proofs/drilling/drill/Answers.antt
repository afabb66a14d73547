use Rattle.litefs_tool.proofs.DrillLemmas.{unplayed, unwritten, written}
use Rattle.litefs_tool.proofs.drilling.drill.Goals as goal

pub returns-in_err-line : goal.returns-in_err-line
returns-in_err-line g c input still = unplayed c.args.number input still _ _ _ c.from_residual.ensures.1

pub returns-in_err-write_whole : goal.returns-in_err-write_whole
returns-in_err-write_whole g c input still =
    let prefix = rw c.as_slice.ensures at c.in_err-write_whole.ensures.prefix in
    unwritten c.args.number input still _ c.in_ok-line.line _ c.in_ok-line.ensures prefix c.in_err-write_whole.ensures.cause
    c.from_residual-in_err-write_whole.ensures.1

pub returns : goal.returns
returns g c input still =
    let whole = rw c.as_slice.ensures at c.in_ok-write_whole.ensures.whole in
    written c.args.number input still _ c.in_ok-line.line c.in_ok-line.ensures whole c.in_ok-write_whole.ensures.cause
