use Rattle.std.proofs.Common.{rules, ◌≡◌}
use Rattle.lf_base.specs.Name.{IsName}
use Rattle.stream_wire.specs.NumberLines.{number_line}
use Rattle.stream_primary.proofs.halt_calls.number_of.Goals as goal

pub returns-in-Ok-Some : goal.returns-in-Ok-Some
returns-in-Ok-Some c =
    let is : IsName c.in-Ok-Some.other = search rules in
    let line : c.args.body.now ≡ number_line c.in-Ok-Some.other c.in-Ok-Some.number = search rules in
    c.number_by.ensures c.args.body.now is line
